-- Totals on two sites and two systems, by computing: what they are brought to, right or wrong, and the smallest day that ends the claim on them.
use Rattle.std.specs.Prelude.{ℕ, zero, suc, ◌<◌, ◌≤◌, ◌≡◌, refl, true, false, List, [], ◌∷◌, get_or, ℤ, pos, negsuc, nat_abs, ◌+ℤ◌, neg_ℤ}
use Rattle.std.proofs.Common.{sym, arith}
use Rattle.lemmas.specs.Sums.{sum}
use Rattle.lemmas.specs.Counts.{count_where}
use Rattle.lemmas.specs.Cells.{table}
use Rattle.lemmas.specs.Bools.{every, never}
use Rattle.lemmas.specs.Ints.{same_is}
use Rattle.paper.specs.declared.Mode.TheVariants.{Pair}
use Rattle.paper.specs.declared.Form.TheVariants.{Wolff}
use Rattle.paper.specs.Answer.Cases.{Answer.Moved}
use Rattle.paper.specs.Panel.Input.{Call, Buffers, member}
use Rattle.paper.specs.Site.Acting.{pair_differs, acts}
use Rattle.paper.specs.Site.Bonds.{holds}
use Rattle.paper.specs.Site.Energy.{energy}
use Rattle.paper.specs.Component.Sizes.{size_of, is_first}
use Rattle.paper.specs.Move.Moving.{other, has_one, reached, final}
use Rattle.paper.specs.Refusal.Rules.{group_names, Named, AllSystems}
use Rattle.paper.specs.Refusal.Kept.{valid_of}
use Rattle.paper.specs.Answer.Move.{Answers}
use Rattle.paper.specs.Answer.Totals.{total, Brought, TotalsAsked, asked_kept, KeepAnswers, Current}
use Rattle.paper.specs.Rows.Cases.{+, -, line, plain, first, buffers, no_choices}
use Rattle.laws.specs.Decided.{any}
use Rattle.laws.specs.ByAnswer.{goes_by}
use Rattle.laws.specs.KeepsPlain.{none_kept}

-- two sites with one coupling of 5 between them, and (+,+) beside (-,+): pair exchanges the first site
abbrev pub two : Call
two = plain Pair Wolff (line 2 2 (1 ∷ 0 ∷ []) (1 ∷ 0 ∷ []) (pos 5 ∷ pos 0 ∷ [])) (first 2)

abbrev pub unlike : Buffers
unlike = buffers (+ ∷ + ∷ - ∷ + ∷ []) (0 ∷ 0 ∷ []) (0 ∷ 0 ∷ 0 ∷ []) (0 ∷ 0 ∷ 0 ∷ 0 ∷ []) 0

abbrev pub exchanged : Buffers
exchanged = buffers (- ∷ + ∷ + ∷ + ∷ []) (0 ∷ 1 ∷ []) (0 ∷ 1 ∷ 0 ∷ []) (1 ∷ 0 ∷ 0 ∷ 0 ∷ []) 2

-- the meter's -5 and 5 before it
abbrev pub metered : List ℤ
metered = negsuc 4 ∷ pos 5 ∷ []

-- and 5 and -5 after it
abbrev pub metered_after : List ℤ
metered_after = pos 5 ∷ negsuc 4 ∷ []

pub record TotalsCase : Type 0 where
  -- what was current is brought from -5 and 5 to 5 and -5
  pub current : KeepAnswers true two no_choices unlike metered Moved exchanged metered_after
  -- a total that was wrong changes by as much
  pub wrong : KeepAnswers true two no_choices unlike (pos 7 ∷ pos 0 ∷ []) Moved exchanged (pos 17 ∷ negsuc 9 ∷ [])
  -- the smallest day that ends the claim: one call that moves and keeps none
  pub before : Current (AllSystems 2) two.lattice unlike.spins metered
  pub kept_none : KeepAnswers false two no_choices unlike metered Moved exchanged metered
  pub after : Current (AllSystems 2) two.lattice exchanged.spins metered → ⊥

answer : Answers two no_choices unlike Moved exchanged
unfolding every any holds acts pair_differs size_of is_first count_where other has_one reached final table
answer = goes_by two no_choices unlike exchanged [] [] refl (λ _. (refl, refl)) refl

-- what holds at 0 and at 1
both : (P : ℕ → Type 0) → P 0 → P 1 → (t : ℕ) → t < 2 → P t
both P a b zero h = a
both P a b (suc zero) h = b
both P a b (suc (suc t)) h = absurd (omega arith)

abbrev Turned : List ℤ → List ℤ → Type 0
Turned ts us = Brought two.lattice unlike.spins ts exchanged.spins us

kept :
    (x y x' y' : ℤ)
    → nat_abs x ≤ 16384000000
    → nat_abs y ≤ 16384000000
    → Turned (x ∷ y ∷ []) (x' ∷ y' ∷ [])
    → KeepAnswers true two no_choices unlike (x ∷ y ∷ []) Moved exchanged (x' ∷ y' ∷ [])
kept x y x' y' hx hy brought = record {
  valid = asked_kept true two no_choices unlike (x ∷ y ∷ []) (valid_of two no_choices unlike answer.valid) asked;
  answers = answer;
  totals = record { brought = λ _. brought; left = λ e. never (sym e) };
}
  where
    asked : TotalsAsked true two.lattice (group_names two.group) (x ∷ y ∷ [])
    asked = record {
      lengths = λ _. record { couplings = refl; totals = refl };
      couplings = λ _. both (λ k. nat_abs (get_or two.lattice.couplings k (pos 0)) ≤ 1000000) (omega arith) (omega arith);
      small = λ _ t h. both (λ t. nat_abs (total (x ∷ y ∷ []) t) ≤ 16384000000) hx hy t h.inside;
    }

abbrev Changes : List ℤ → List ℤ → ℕ → Type 0
Changes ts us t = total us t ≡ total ts t +ℤ (energy two.lattice exchanged.spins t +ℤ neg_ℤ (energy two.lattice unlike.spins t))

turned_current : Turned metered metered_after
unfolding sum
turned_current = record { long = refl; each = both (Changes metered metered_after) refl refl }

turned_wrong : Turned (pos 7 ∷ pos 0 ∷ []) (pos 17 ∷ negsuc 9 ∷ [])
unfolding sum
turned_wrong = record { long = refl; each = both (Changes (pos 7 ∷ pos 0 ∷ []) (pos 17 ∷ negsuc 9 ∷ [])) refl refl }

current_before : Current (AllSystems 2) two.lattice unlike.spins metered
unfolding sum
current_before = both (λ t. total metered t ≡ energy two.lattice unlike.spins t) refl refl

not_after : Current (AllSystems 2) two.lattice exchanged.spins metered → ⊥
unfolding sum
not_after h = never (same_is (negsuc 4) (pos 5) (h 0 (omega arith)))

pub totals_case : TotalsCase
totals_case = record {
  current = kept (negsuc 4) (pos 5) (pos 5) (negsuc 4) (omega arith) (omega arith) turned_current;
  wrong = kept (pos 7) (pos 0) (pos 17) (negsuc 9) (omega arith) (omega arith) turned_wrong;
  before = current_before;
  kept_none = none_kept two no_choices unlike metered Moved exchanged answer;
  after = not_after;
}

-- ---- a third system, which the group does not have: its row holds no spins and its total is too large, and both stay (12/14)
abbrev pub beside : Call
beside = plain Pair Wolff (line 2 3 (1 ∷ 0 ∷ []) (1 ∷ 0 ∷ []) (pos 5 ∷ pos 0 ∷ [])) (first 2)

abbrev pub beside_before : Buffers
beside_before = buffers (+ ∷ + ∷ - ∷ + ∷ pos 0 ∷ pos 7 ∷ []) (0 ∷ 0 ∷ []) (0 ∷ 0 ∷ 0 ∷ []) (0 ∷ 0 ∷ 0 ∷ 0 ∷ []) 0

abbrev pub beside_after : Buffers
beside_after = buffers (- ∷ + ∷ + ∷ + ∷ pos 0 ∷ pos 7 ∷ []) (0 ∷ 1 ∷ []) (0 ∷ 1 ∷ 0 ∷ []) (1 ∷ 0 ∷ 0 ∷ 0 ∷ []) 2

abbrev pub large : List ℤ → List ℤ
large ts = get_or ts 0 (pos 0) ∷ get_or ts 1 (pos 0) ∷ pos 16384000001 ∷ []

beside_answer : Answers beside no_choices beside_before Moved beside_after
unfolding every any holds acts pair_differs size_of is_first count_where other has_one reached final table
beside_answer = goes_by beside no_choices beside_before beside_after [] [] refl (λ _. (refl, refl)) refl

-- the first two systems alone are named
two_named : (t : ℕ) → Named 3 (group_names (first 2)) t → t < 2
two_named t h = at h.place h.below h.is
  where
    at : (k : ℕ) → k < 2 → member (first 2) k ≡ t → t < 2
    at zero l e = omega (arith, e)
    at (suc zero) l e = omega (arith, e)
    at (suc (suc k)) l e = absurd (omega arith)

beside_brought : Brought beside.lattice beside_before.spins (large metered) beside_after.spins (large metered_after)
unfolding sum
beside_brought = record { long = refl; each = each }
  where
    each :
        (t : ℕ)
        → t < 3
        → total (large metered_after) t
        ≡ total (large metered) t +ℤ (energy beside.lattice beside_after.spins t +ℤ neg_ℤ (energy beside.lattice beside_before.spins t))
    each zero h = refl
    each (suc zero) h = refl
    each (suc (suc zero)) h = refl
    each (suc (suc (suc t))) h = absurd (omega arith)

pub beside_kept : KeepAnswers true beside no_choices beside_before (large metered) Moved beside_after (large metered_after)
beside_kept = record {
  valid = asked_kept true beside no_choices beside_before (large metered) (valid_of beside no_choices beside_before beside_answer.valid) asked;
  answers = beside_answer;
  totals = record { brought = λ _. beside_brought; left = λ e. never (sym e) };
}
  where
    asked : TotalsAsked true beside.lattice (group_names beside.group) (large metered)
    asked = record {
      lengths = λ _. record { couplings = refl; totals = refl };
      couplings = λ _. both (λ k. nat_abs (get_or beside.lattice.couplings k (pos 0)) ≤ 1000000) (omega arith) (omega arith);
      small = λ _ t h. both (λ t. nat_abs (total (large metered) t) ≤ 16384000000) (omega arith) (omega arith) t (two_named t h);
    }
