-- The verdict on a sweep is the only one, and so is what is said of its numbers.
use Rattle.std.specs.Prelude.{ℕ, ◌≡◌, Bool, List, ℤ, Result}
use Rattle.paper.specs.declared.Refusal.{Refusal}
use Rattle.paper.specs.Refusal.Numbers.{verdict_of, verdict_of_injective}
use Rattle.lemmas.specs.Tells.{Tells, tells_determined}
use Rattle.paper.specs.declared.Plan.{Plan}
use Rattle.paper.specs.Panel.Input.{Buffers}
use Rattle.paper.specs.Refusal.Verdict.{Verdict, verdict_unique}
use Rattle.paper.specs.Answer.Task.{Sweep}
use Rattle.paper.specs.Answer.Totals.{swept_rules}
use Rattle.tasks.specs.Plan.{Planned}

pub test_sweep_determined : (keeping : Bool) (w : Sweep) (b : Buffers) (ts : List ℤ) (x y : ℕ)
    → Verdict (swept_rules keeping w b ts) x → Verdict (swept_rules keeping w b ts) y → x ≡ y
test_sweep_determined keeping w b ts = verdict_unique (swept_rules keeping w b ts)

pub plan_ok_determined : (q : Plan) (r r' : Bool) → Tells r (Planned q) → Tells r' (Planned q) → r ≡ r'
plan_ok_determined q = tells_determined (Planned q)

pub test_sweep_result_determined : (keeping : Bool) (w : Sweep) (b : Buffers) (ts : List ℤ) (x y : Result (Unit {0}) Refusal)
    → Verdict (swept_rules keeping w b ts) (verdict_of x) → Verdict (swept_rules keeping w b ts) (verdict_of y) → x ≡ y
test_sweep_result_determined keeping w b ts x y p q = verdict_of_injective x y (test_sweep_determined keeping w b ts _ _ p q)
