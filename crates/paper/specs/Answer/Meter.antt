-- What the energy meter answers, for every input.
use Rattle.std.specs.Prelude.{ℕ, ◌*◌, ◌<◌, ◌≡◌, List, [], ◌∷◌, length, get_or, ℤ, pos}
use Rattle.std.proofs.Common.{sym, ◌∙◌, ap}
use Rattle.paper.specs.Answer.Cases.{MeterAnswer, MeterAnswer.Unmetered, MeterAnswer.Energy}
use Rattle.paper.specs.Answer.Number.{meter_number, meter_values}
use Rattle.paper.specs.Panel.Input.{Lattice}
use Rattle.paper.specs.Refusal.Rule.{Rule, rule, Broken, broken_unique, broken_not_kept}
use Rattle.paper.specs.Refusal.Rules.{Sizes, one_name, Named, Spins, Inverse, SmallCouplings}
use Rattle.paper.specs.Refusal.Verdict.{Verdict}
use Rattle.paper.specs.Site.Energy.{energy}

pub record MeterExact (t : Lattice) (xs : List ℤ) : Type 0 where
  pub spins : length xs ≡ t.s * t.n
  pub fwd : length t.fwd ≡ t.n * t.d
  pub bwd : length t.bwd ≡ t.n * t.d
  pub couplings : length t.couplings ≡ t.n * t.d

abbrev pub meter_rules : Lattice → List ℤ → ℕ → List Rule
meter_rules t xs k =
    rule 1 (Sizes t.n t.d t.s)
    ∷ rule 2 (MeterExact t xs)
    ∷ rule 3 (Spins t.n (Named t.s (one_name k)) xs)
    ∷ rule 4 (Inverse t.n t.d t.fwd t.bwd)
    ∷ rule 5 (k < t.s)
    ∷ rule 6 (SmallCouplings t.couplings)
    ∷ []

pub record Meters (t : Lattice) (xs : List ℤ) (k : ℕ) (e : ℤ) : Type 0 where
  pub valid : Verdict (meter_rules t xs k) (meter_number (Energy e))
  pub is : meter_values (Energy e) ≡ energy t xs k ∷ []

-- nothing is lent to write to
abbrev pub MeterAnswers : Lattice → List ℤ → ℕ → MeterAnswer → Type 0
MeterAnswers t xs k (Unmetered r) = Broken (meter_rules t xs k) (meter_number (Unmetered r))
MeterAnswers t xs k (Energy e) = Meters t xs k e

pub meter_determined : (t : Lattice) (xs : List ℤ) (k : ℕ) (a a' : MeterAnswer) → MeterAnswers t xs k a → MeterAnswers t xs k a' → a ≡ a'
meter_determined t xs k (Unmetered r) (Unmetered s) f g = ap Unmetered (broken_unique (meter_rules t xs k) r s f g)
meter_determined t xs k (Unmetered r) (Energy e) f g = absurd (broken_not_kept (meter_rules t xs k) r f g.valid)
meter_determined t xs k (Energy e) (Unmetered s) f g = absurd (broken_not_kept (meter_rules t xs k) s g f.valid)
meter_determined t xs k (Energy e) (Energy e') f g = ap (λ (vs : List ℤ). Energy (get_or vs 0 (pos 0))) (f.is ∙ sym g.is)
