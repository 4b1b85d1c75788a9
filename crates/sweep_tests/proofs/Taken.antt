-- A test that is made only if its input is taken.
use Prim.Native.Nat.{ℕ}
use mathlib.Core.Path.{◌≡◌}
use mathlib.Core.Bool.{Bool}
use mathlib.Core.List.{List}
use lib.ListN.{length}
use lib.Ieee.{Float}
use Rattle.paper.specs.Refusal.Rules.{When}
use Rattle.sweep_tests.specs.First.{AllWarm}

-- where the taken input has t elements
module _ {b : Bool} {t : ℕ} (ts : List Float) (long : When b (length ts ≡ t)) where
  pub warm_to : When b (AllWarm (length ts) ts) → When b (AllWarm t ts)
  warm_to h q = rw (long q) at (h q)

  pub warm_from : When b (AllWarm t ts) → When b (AllWarm (length ts) ts)
  warm_from h q = rw (long q) (h q)
