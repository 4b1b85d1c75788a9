-- The returned number is that of the sweep's answer, and the counts are its counts.
use Prim.Native.Nat.{ℕ}
use mathlib.Core.Path.{◌≡◌, refl, sym, subst}
use mathlib.Core.Logic.{inl, inr}
use mathlib.Core.Bool.{Bool}
use mathlib.Core.List.{List, [], ◌∷◌}
use native.Mathlib.Omega.{arith}
use lib.ListN.{length, set}
use lib.IntN.{ℤ}
use lib.Ieee.{Float}
use Rattle.paper.specs.declared.Mode.{Mode}
use Rattle.paper.specs.declared.Form.{Form}
use Rattle.paper.specs.declared.Keeps.{Keeps}
use Rattle.paper.specs.Answer.Cases.{SweepAnswer, SweepAnswer.Swept}
use Rattle.paper.specs.Panel.Input.{Buffers}
use Rattle.paper.specs.Answer.Task.{Sweep}
use Rattle.paper.specs.Panel.Takes.{keeps_by}
use Rattle.paper.specs.Answer.Made.{sweep_of, plan_of}
use Rattle.coded.specs.Takes.{numbers_by}
use Rattle.coded.specs.Sweep.{SweepCodedAnswers}
use Rattle.tsorvenk.specs.Number.{Coded, coding_of, keeps_of, taken_of}
use Rattle.tsorvenk.specs.Sweep.{plan_for, WithOutcomes, with_outcomes, Fits, FitsPlan, Uncounted, SweepNumbers, Roomless, Told}

-- ---- the counts, written one after the other
three_set : (ts : List ℕ) (i m h : ℕ) → length ts ≡ 3 → set (set (set ts 0 i) 1 m) 2 h ≡ i ∷ m ∷ h ∷ []
three_set [] i m h l = absurd (omega arith)
three_set (x ∷ []) i m h l = absurd (omega arith)
three_set (x ∷ y ∷ []) i m h l = absurd (omega arith)
three_set (x ∷ y ∷ z ∷ []) i m h l = refl
three_set (x ∷ y ∷ z ∷ v ∷ ts) i m h l = absurd (omega arith)

pub counts_told : (a : SweepAnswer) (ts : List ℕ) (i m h : ℕ) → a ≡ Swept i m h → length ts ≡ 3 → Told a ts 0 (set (set (set ts 0 i) 1 m) 2 h)
counts_told a ts i m h e l =
    subst (λ (x : SweepAnswer). Told x ts 0 (set (set (set ts 0 i) 1 m) 2 h)) (sym e) (record { number = refl; counts = three_set ts i m h l })

-- ---- without room for the counts
module _ (k : Keeps) (coded : Bool) (w : Sweep) where
  plan_fits : Fits coded w → FitsPlan coded (plan_of k w)
  plan_fits h = let r = h.ranged in record {
    planned = record { ranged = r.ranged; few = r.few; some = r.some; all = r.all; enough = r.enough };
    five = h.five;
  }

  sweep_fits : FitsPlan coded (plan_of k w) → Fits coded w
  sweep_fits h = let p = h.planned in record {
    ranged = record { ranged = p.ranged; few = p.few; some = p.some; all = p.all; enough = p.enough };
    five = h.five;
  }

  roomless_at : (l : WithOutcomes) (r : ℕ) → (length l.outcomes ≡ 3 → ⊥) → Roomless coded (plan_of k w) r → Uncounted coded w l r l
  roomless_at l r n (inl v) = record { why = inl ((λ h. v.0 (plan_fits h)), sym v.1); kept = refl }
  roomless_at l r n (inr (v, inl h)) = record { why = inr (sweep_fits v, inl (h.0, sym h.1)); kept = refl }
  roomless_at l r n (inr (v, inr h)) = record { why = inr (sweep_fits v, inr (h.0, inl (n, sym h.1))); kept = refl }

-- the mode and the form that were made of the lent numbers; what is kept is no part of a sweep
module _ {n d s systems t r members : ℕ} {fwd bwd pins : List ℕ} {couplings : List ℤ} {order masks : List ℕ} {temperatures cuts : List Float}
    {references seeds greys : List ℕ} (flips perms : List ℕ) (k k' : Keeps) {m m' : Mode} {f f' : Form} where
  pub same_sweep : m ≡ m' → f ≡ f'
      → sweep_of (plan_for m f k n d s systems t r members) fwd bwd pins couplings order masks temperatures cuts references seeds (taken_of m flips perms) greys
      ≡ sweep_of (plan_for m' f' k' n d s systems t r members) fwd bwd pins couplings order masks temperatures cuts references seeds
      (taken_of m' flips perms) greys
  same_sweep em ef = λ i.
      sweep_of (plan_for (em i) (ef i) k n d s systems t r members) fwd bwd pins couplings order masks temperatures cuts references seeds
      (taken_of (em i) flips perms) greys

pub uncoded_sweep :
    {mode form coding keeps : ℕ} {w : Sweep} {l : WithOutcomes} → (Coded mode form coding keeps → ⊥) → SweepNumbers mode form coding keeps w l 1 l
uncoded_sweep none = record { known = λ k. absurd (none k); unknown = λ _. record { number = refl; kept = refl } }

module _ {mode form coding keeps : ℕ} (w w' : Sweep) (b : Buffers) (ts : List ℤ) (os : List ℕ) (r : ℕ) (x : Bool) where
  pub roomless_sweep : (k : Keeps) → Coded mode form coding keeps → x ≡ numbers_by (coding_of coding) w'.mode w'.form → w ≡ w'
      → (length os ≡ 3 → ⊥) → Roomless x (plan_of k w) r → SweepNumbers mode form coding keeps w' (with_outcomes b ts os) r (with_outcomes b ts os)
  roomless_sweep k d ex e n h = record {
    known = λ _. record {
      roomed = λ l. absurd (n l);
      roomless = λ _. roomless_at k _ w' (with_outcomes b ts os) r n
          (subst (λ (y : Bool). Roomless y (plan_of k w') r) ex (subst (λ (y : Sweep). Roomless x (plan_of k y) r) e h));
    };
    unknown = λ none. absurd (none d);
  }

  pub coded_sweep :
      (q : Bool) (a : SweepAnswer) (b' : Buffers) (ts' : List ℤ) (os' : List ℕ)
      → Coded mode form coding keeps
      → x ≡ numbers_by (coding_of coding) w'.mode w'.form
      → q ≡ keeps_by (keeps_of keeps) w'.form
      → w ≡ w'
      → length os ≡ 3
      → SweepCodedAnswers x q w b ts a b' ts'
      → Told a os r os'
      → SweepNumbers mode form coding keeps w' (with_outcomes b ts os) r (with_outcomes b' ts' os')
  coded_sweep q a b' ts' os' d ex eq e l h k = record {
    known = λ _. record {
      roomed = λ _. record { answer = a; allowed = record { answers = rw (ex, eq, e) at h; counts = k.counts }; number = k.number };
      roomless = λ n. absurd (n l);
    };
    unknown = λ none. absurd (none d);
  }
