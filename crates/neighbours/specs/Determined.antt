-- The test's promise allows one answer; `backward_determined` is in Backward.antt.
use Rattle.std.specs.Prelude.{ℕ, ◌≡◌, Bool, List}
use Rattle.lemmas.specs.Tells.{Tells, tells_determined}
use Rattle.paper.specs.Refusal.Rules.{Inverse}

pub tables_ok_determined : (n d : ℕ) (fwd bwd : List ℕ) (r r' : Bool) → Tells r (Inverse n d fwd bwd) → Tells r' (Inverse n d fwd bwd) → r ≡ r'
tables_ok_determined n d fwd bwd = tells_determined _
