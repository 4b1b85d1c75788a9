-- A move's promise allows one answer, one content of every buffer and one of the totals.
use Rattle.std.specs.Prelude.{Bool, List, ℤ, ◌≡◌, Result}
use Rattle.paper.specs.declared.Refusal.{Refusal}
use Rattle.paper.specs.declared.Outcome.{Outcome}
use Rattle.paper.specs.Answer.Cases.{answer_of, answer_of_injective}
use Rattle.paper.specs.Answer.Cases.{Answer}
use Rattle.paper.specs.Panel.Input.{Call, Choices, Buffers}
use Rattle.paper.specs.Answer.Totals.{KeepAnswers}
use Rattle.laws.specs.KeepDetermined.{SameKept, keep_determined}

pub overlap_step_determined :
    (keeping : Bool) (c : Call) (p : Choices) (b : Buffers) (ts : List ℤ) (y z : Buffers) (us vs : List ℤ) (a a' : Answer)
    → KeepAnswers keeping c p b ts a y us
    → KeepAnswers keeping c p b ts a' z vs
    → SameKept a y us a' z vs
overlap_step_determined = keep_determined

pub overlap_step_result_determined :
    (keeping : Bool) (c : Call) (p : Choices) (b : Buffers) (ts : List ℤ) (y z : Buffers) (us vs : List ℤ) (a a' : Result Outcome Refusal)
    → KeepAnswers keeping c p b ts (answer_of a) y us
    → KeepAnswers keeping c p b ts (answer_of a') z vs
    → a ≡ a'
overlap_step_result_determined keeping c p b ts y z us vs a a' f g =
    answer_of_injective a a' (keep_determined keeping c p b ts y z us vs (answer_of a) (answer_of a') f g).answer
