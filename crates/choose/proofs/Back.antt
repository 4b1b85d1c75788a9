-- The loop that takes the held components out of the tally: after i turns, those with a pinned site below i.
use Prim.Native.Nat.{ℕ, ◌+◌, ◌≤◌, ◌<◌, zero-le}
use mathlib.Core.Path.{◌≡◌, refl, sym, ◌∙◌, ap}
use mathlib.Core.Bool.{Bool, true, false, cond, ◌&&◌}
use mathlib.Core.List.{List}
use native.Mathlib.Omega.{arith}
use native.Mathlib.Nat.{le_antisymm}
use borrow.Author.Tests.{eq-eqb, ne_eqb, lt-ltb}
use lib.Dec.{eqb, ltb}
use lib.ListN.{length, get_or, set, length-set}
use Rattle.lemmas.specs.Bools.{and_no}
use Rattle.lemmas.specs.Counts.{count_where, count_none, count_yes, count_no, count_zero}
use Rattle.lemmas.specs.Stores.{AfterSet, here, there, after_set}
use Rattle.paper.specs.Component.Sizes.{label_of}
use Rattle.paper.specs.Move.Moving.{has_one}
use Rattle.choose.specs.Chosen.{Becomes, Holdable, is_one, held_back}

module _ (pins labels : List ℕ) where
  -- a pinned site with the label r
  abbrev pin : ℕ → ℕ → Bool
  pin r j = eqb (label_of labels j) r && is_one pins j

  -- below i
  abbrev pin_below : ℕ → ℕ → Bool
  pin_below i r = ltb 0 (count_where (pin r) i)

  pub record Back (old : List ℕ) (i : ℕ) (new : List ℕ) : Type 0 where
    pub reached : i ≤ length pins
    pub long : length new ≡ length old
    pub at : (r : ℕ) → r < length old → get_or new r 0 ≡ cond (pin_below i r) 0 (get_or old r 0)

  pub back_none : (old : List ℕ) → Back old 0 old
  back_none old = record { reached = zero-le; long = refl; at = λ r h. rw (count_none (pin r)) refl }

  -- a turn that counts none of the label r
  kept : (i r : ℕ) → pin r i ≡ false → pin_below (i + 1) r ≡ pin_below i r
  kept i r e = ap (ltb 0) (count_no (pin r) i e)

  pub back_skip : {old new : List ℕ} {i : ℕ} → Back old i new → i < length pins → (get_or pins i 0 ≡ 1 → ⊥) → Back old (i + 1) new
  back_skip {old} {new} {i} b l off = record {
    reached = omega arith;
    long = b.long;
    at = λ r h. b.at r h ∙ ap (λ (x : Bool). cond x 0 (get_or old r 0)) (sym (kept i r (rw (ne_eqb _ _ off) (and_no (eqb (label_of labels i) r)))));
  }

  pub back_more : {old new : List ℕ} {i x : ℕ} → Back old i new → i < length pins → get_or pins i 0 ≡ 1 → x ≡ label_of labels i → x < length old
      → Back old (i + 1) (set new x 0)
  back_more {old} {new} {i} {x} b l on e inside = record {
    reached = omega arith;
    long = length-set new x 0 ∙ b.long;
    at = λ r h. go r h (after_set new x 0 r (omega (arith, b.long)));
  }
    where
      go : (r : ℕ) → r < length old → AfterSet new x 0 r → get_or (set new x 0) r 0 ≡ cond (pin_below (i + 1) r) 0 (get_or old r 0)
      go r h (here q v) = v ∙ rw (lt-ltb 0 (count_where (pin r) (i + 1)) (omega (arith, count_yes (pin r) i yes))) refl
        where
          yes : pin r i ≡ true
          yes = rw (eq-eqb (label_of labels i) r (sym (q ∙ e)), eq-eqb _ _ on)
      go r h (there ne v) = v ∙ (b.at r h ∙ ap (λ (z : Bool). cond z 0 (get_or old r 0)) (sym (kept i r no)))
        where
          no : pin r i ≡ false
          no = rw (ne_eqb (label_of labels i) r (λ q. ne (sym q ∙ sym e))) refl

  pub back_end : {old new : List ℕ} {i : ℕ} → Back old i new → length labels ≡ length pins → length pins ≤ i → Becomes (held_back pins labels old) old new
  unfolding has_one
  back_end {old} {new} {i} b e h =
      let q : i ≡ length labels = le_antisymm (omega (arith, b.reached)) (omega arith) in
      record { long = b.long; at = λ r l. rw (sym q) (b.at r l) }

  -- with no pin at all
  pub none_back : (old : List ℕ) → Holdable pins labels old → ((i : ℕ) → i < length pins → get_or pins i 0 ≡ 1 → ⊥) → Becomes (held_back pins labels old) old old
  unfolding has_one
  none_back old p f = record {
    long = refl;
    at = λ r l. rw (count_zero (pin r) (length labels) (λ j h. rw (ne_eqb _ _ (f j (omega (arith, p.labelled)))) (and_no (eqb (label_of labels j) r)))) refl;
  }
