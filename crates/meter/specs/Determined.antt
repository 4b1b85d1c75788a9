-- The meter's promise allows one answer, and so does the hand-over's.
use Rattle.std.specs.Prelude.{ℕ, ◌≡◌, List, ℤ, Result}
use Rattle.paper.specs.declared.Refusal.{Refusal}
use Rattle.paper.specs.Refusal.Numbers.{verdict_of, verdict_of_injective}
use Rattle.paper.specs.Answer.Cases.{meter_answer_of, meter_answer_of_injective}
use Rattle.paper.specs.Answer.Cases.{MeterAnswer}
use Rattle.paper.specs.Answer.Meter.{MeterAnswers, meter_determined}
use Rattle.paper.specs.Answer.Team.{hand_over_rules}
use Rattle.paper.specs.Refusal.Rule.{Rule}
use Rattle.paper.specs.Refusal.Verdict.{Verdict, verdict_unique}
use Rattle.paper.specs.Panel.Made.{lattice_of}
use Rattle.systems.specs.Owners.{team_of}

module _ (n d s : ℕ) (spins : List ℤ) (fwd bwd : List ℕ) (couplings : List ℤ) (system : ℕ) where
  -- what `energy` promises of its answer
  abbrev Promised : MeterAnswer → Type 0
  Promised r = MeterAnswers (lattice_of n d s fwd bwd couplings) spins system r

  pub energy_determined : (r r' : MeterAnswer) → Promised r → Promised r' → r ≡ r'
  energy_determined = meter_determined (lattice_of n d s fwd bwd couplings) spins system

  pub energy_result_determined : (a b : Result ℤ Refusal) → Promised (meter_answer_of a) → Promised (meter_answer_of b) → a ≡ b
  energy_result_determined a b p q = meter_answer_of_injective a b (energy_determined (meter_answer_of a) (meter_answer_of b) p q)

module _ (n d s team : ℕ) (owners : List ℕ) (spins totals : List ℤ) (fwd bwd : List ℕ) (couplings : List ℤ) where
  -- the rules that `hand_over` holds them to
  abbrev Asked : List Rule
  Asked = hand_over_rules (team_of team owners) (lattice_of n d s fwd bwd couplings) spins totals

  pub hand_over_determined : (r r' : ℕ) → Verdict Asked r → Verdict Asked r' → r ≡ r'
  hand_over_determined = verdict_unique Asked

  pub hand_over_result_determined : (a b : Result (Unit {0}) Refusal) → Verdict Asked (verdict_of a) → Verdict Asked (verdict_of b) → a ≡ b
  hand_over_result_determined a b p q = verdict_of_injective a b (hand_over_determined (verdict_of a) (verdict_of b) p q)
