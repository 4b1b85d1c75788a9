-- What `tsorvenk_energy` answers.
use Rattle.std.specs.Prelude.{ℕ, ◌≡◌, List, ◌∷◌, length, ℤ}
use Rattle.paper.specs.Answer.Cases.{MeterAnswer, MeterAnswer.Unmetered, MeterAnswer.Energy}
use Rattle.paper.specs.Panel.Input.{Lattice}
use Rattle.paper.specs.Refusal.Rule.{Rule, rule, Broken}
use Rattle.paper.specs.Refusal.Rules.{Sizes}
use Rattle.paper.specs.Answer.Number.{meter_number, meter_values}
use Rattle.paper.specs.Answer.Meter.{meter_rules, MeterAnswers}
use Rattle.tsorvenk.specs.Number.{Returned, values_to}

-- the meter's rules, with the buffer of one number that the energy goes to as one more of test 2
abbrev pub energy_rules : Lattice → List ℤ → ℕ → List ℤ → List Rule
energy_rules t xs k es = rule 1 (Sizes t.n t.d t.s) ∷ rule 2 (length es ≡ 1) ∷ meter_rules t xs k

-- the energy e is written
pub record Metered (t : Lattice) (xs : List ℤ) (k : ℕ) (es : List ℤ) (e : ℤ) (es' : List ℤ) : Type 0 where
  pub room : length es ≡ 1
  pub answers : MeterAnswers t xs k (Energy e)
  pub written : es' ≡ values_to (meter_values (Energy e)) es

-- refused with the number r: nothing is written
pub record EnergyRefuses (t : Lattice) (xs : List ℤ) (k : ℕ) (es : List ℤ) (r : ℕ) (es' : List ℤ) : Type 0 where
  pub why : Broken (energy_rules t xs k es) r
  pub kept : es' ≡ values_to (meter_values (Unmetered r)) es

-- the meter's answer a may be given with the lent buffer es, which then holds es'
abbrev pub EnergyAs : Lattice → List ℤ → ℕ → List ℤ → MeterAnswer → List ℤ → Type 0
EnergyAs t xs k es (Unmetered r) es' = EnergyRefuses t xs k es (meter_number (Unmetered r)) es'
EnergyAs t xs k es (Energy e) es' = Metered t xs k es e es'

abbrev pub EnergyAnswers : Lattice → List ℤ → ℕ → List ℤ → ℕ → List ℤ → Type 0
EnergyAnswers t xs k es r es' = Returned meter_number (λ a. EnergyAs t xs k es a es') r
