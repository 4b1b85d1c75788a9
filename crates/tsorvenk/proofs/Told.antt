-- The returned number is that of the answer that was given.
use Prim.Native.Nat.{ℕ}
use mathlib.Core.Path.{◌≡◌, refl, ◌∙◌, ap}
use mathlib.Core.Logic.{inl, inr}
use mathlib.Core.Bool.{Bool}
use mathlib.Core.List.{List, [], ◌∷◌}
use native.Mathlib.Omega.{arith}
use lib.Ieee.{Float}
use lib.IntN.{ℤ}
use lib.ListN.{length, set}
use Rattle.paper.specs.declared.Mode.{Mode}
use Rattle.paper.specs.declared.Form.{Form}
use Rattle.paper.specs.declared.Keeps.{Keeps}
use Rattle.paper.specs.declared.Group.{Group}
use Rattle.paper.specs.Answer.Cases.{Answer}
use Rattle.paper.specs.Answer.Cases.{MeterAnswer.Unmetered, MeterAnswer.Energy}
use Rattle.paper.specs.Panel.Input.{Lattice, Call, Choices, Buffers}
use Rattle.paper.specs.Panel.Made.{choices_of}
use Rattle.paper.specs.Panel.Takes.{keeps_by}
use Rattle.paper.specs.Refusal.Rule.{Broken}
use Rattle.paper.specs.Refusal.Rules.{Sizes}
use Rattle.paper.specs.Answer.Meter.{meter_rules, MeterAnswers}
use Rattle.coded.specs.declared.Coding.{Coding}
use Rattle.coded.specs.Takes.{numbers_by}
use Rattle.coded.specs.Answer.{CodedAnswers}
use Rattle.tsorvenk.specs.Number.{Coded, coding_of, keeps_of, taken_of, number_of}
use Rattle.tsorvenk.specs.Step.{WithTotals, with_totals, StepAnswers}
use Rattle.tsorvenk.specs.Energy.{energy_rules, EnergyAnswers}

-- ---- what is written to a buffer of one
pub one_set : {A : Type 0} (xs : List A) (x : A) → length xs ≡ 1 → set xs 0 x ≡ x ∷ []
one_set [] x l = absurd (omega arith)
one_set (y ∷ []) x l = refl
one_set (y ∷ z ∷ xs) x l = absurd (omega arith)

-- ---- a step
pub unknown_code :
    {mode form coding keeps : ℕ} {c : Call} {p : Choices} {l : WithTotals} → (Coded mode form coding keeps → ⊥)
    → StepAnswers mode form coding keeps c p l 1 l
unknown_code none = record { known = λ k. absurd (none k); unknown = λ _. record { number = refl; kept = refl } }

abbrev call_by : Lattice → List ℕ → Float → List Float → ℕ → ℕ → Mode → Form → Group → Call
call_by t pins temperature cuts reference seed m f g = record {
  mode = m;
  form = f;
  lattice = t;
  pins = pins;
  group = g;
  temperature = temperature;
  cuts = cuts;
  reference = reference;
  seed = seed;
}

-- the mode, the form and the group that were made of the lent numbers
module _ {t : Lattice} {pins : List ℕ} {x : Float} {cuts : List Float} {q s : ℕ} {m m' : Mode} {f f' : Form} {g g' : Group} where
  pub same_call : m ≡ m' → f ≡ f' → g ≡ g' → call_by t pins x cuts q s m f g ≡ call_by t pins x cuts q s m' f' g'
  same_call em ef eg = λ i. call_by t pins x cuts q s (em i) (ef i) (eg i)

-- where the temperature is not taken it may be any
module _ {t : Lattice} {pins : List ℕ} {x x' : Float} {cuts : List Float} {q s : ℕ} {m m' : Mode} {f f' : Form} {g : Group} where
  pub same_call_at : m ≡ m' → f ≡ f' → x ≡ x' → call_by t pins x cuts q s m f g ≡ call_by t pins x' cuts q s m' f' g
  same_call_at em ef ex = λ i. call_by t pins (ex i) cuts q s (em i) (ef i) g

-- and the choices of that mode
pub same_choices :
    {m m' : Mode} {choices greys : List ℕ} (flips perms : List ℕ) → choices ≡ taken_of m flips perms → m ≡ m'
    → choices_of choices greys ≡ choices_of (taken_of m' flips perms) greys
same_choices {greys = greys} flips perms e em = λ i. choices_of ((e ∙ ap (λ (z : Mode). taken_of z flips perms) em) i) greys

-- and what is kept
pub same_keeping : {k k' : Keeps} {f f' : Form} → k ≡ k' → f ≡ f' → keeps_by k f ≡ keeps_by k' f'
same_keeping ek ef = λ i. keeps_by (ek i) (ef i)

-- and how permutations are spelled
pub same_coding : {k k' : Coding} {m m' : Mode} {f f' : Form} → k ≡ k' → m ≡ m' → f ≡ f' → numbers_by k m f ≡ numbers_by k' m' f'
same_coding ek em ef = λ i. numbers_by (ek i) (em i) (ef i)

module _ {mode form coding keeps : ℕ} {x q : Bool} {c c' : Call} {p p' : Choices} {b b' : Buffers} {ts ts' : List ℤ} {k : ℕ} where
  pub known_code :
      (a : Answer)
      → k ≡ number_of a
      → x ≡ numbers_by (coding_of coding) c'.mode c'.form
      → q ≡ keeps_by (keeps_of keeps) c'.form
      → c ≡ c'
      → p ≡ p'
      → Coded mode form coding keeps
      → CodedAnswers x q c p b ts a b' ts'
      → StepAnswers mode form coding keeps c' p' (with_totals b ts) k (with_totals b' ts')
  known_code a ek ex eq ec ep d h = record {
    known = λ _. record { answer = a; allowed = rw (ex, eq, ec, ep) at h; number = ek };
    unknown = λ none. absurd (none d);
  }

-- ---- the meter
module _ (t : Lattice) (xs : List ℤ) (k : ℕ) (es : List ℤ) where
  pub no_sizes : (Sizes t.n t.d t.s → ⊥) → EnergyAnswers t xs k es 1 es
  no_sizes n = record { answer = Unmetered 1; allowed = record { why = inl (n, refl); kept = refl }; number = refl }

  pub no_room : Sizes t.n t.d t.s → (length es ≡ 1 → ⊥) → EnergyAnswers t xs k es 2 es
  no_room z n = record { answer = Unmetered 2; allowed = record { why = inr (z, inl (n, refl)); kept = refl }; number = refl }

  roomed : (r : ℕ) → length es ≡ 1 → Broken (meter_rules t xs k) r → Broken (energy_rules t xs k es) r
  roomed r l (inl w) = inl w
  roomed r l (inr w) = inr (w.0, inr (l, inr w))

  pub unmetered : (r : ℕ) → length es ≡ 1 → MeterAnswers t xs k (Unmetered r) → EnergyAnswers t xs k es r es
  unmetered r l w = record { answer = Unmetered r; allowed = record { why = roomed r l w; kept = refl }; number = refl }

  pub metered : (e : ℤ) → length es ≡ 1 → MeterAnswers t xs k (Energy e) → EnergyAnswers t xs k es 0 (set es 0 e)
  metered e l w = record { answer = Energy e; allowed = record { room = l; answers = w; written = one_set es e l }; number = refl }
