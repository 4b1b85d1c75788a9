-- The verdict on a call is the only one.
use Rattle.std.specs.Prelude.{ℕ, ◌≡◌, List, ℤ, Result}
use Rattle.paper.specs.declared.Refusal.{Refusal}
use Rattle.paper.specs.Refusal.Numbers.{verdict_of, verdict_of_injective}
use Rattle.paper.specs.declared.Lengths.{Lengths}
use Rattle.paper.specs.declared.Task.{Task}
use Rattle.paper.specs.Panel.Input.{Call, Choices}
use Rattle.paper.specs.Refusal.Verdict.{Verdict, verdict_unique}
use Rattle.step_tests.specs.Call.{call_rules}

pub test_call_determined : (t : Task) (c : Call) (p : Choices) (xs ts : List ℤ) (l : Lengths) (x y : ℕ)
    → Verdict (call_rules t c p xs ts l) x → Verdict (call_rules t c p xs ts l) y → x ≡ y
test_call_determined t c p xs ts l = verdict_unique (call_rules t c p xs ts l)

pub test_call_result_determined : (t : Task) (c : Call) (p : Choices) (xs ts : List ℤ) (l : Lengths) (a b : Result (Unit {0}) Refusal)
    → Verdict (call_rules t c p xs ts l) (verdict_of a) → Verdict (call_rules t c p xs ts l) (verdict_of b) → a ≡ b
test_call_result_determined t c p xs ts l a b v w = verdict_of_injective a b (test_call_determined t c p xs ts l _ _ v w)
