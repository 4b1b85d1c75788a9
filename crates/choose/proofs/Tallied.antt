-- The loop that counts the sites with each label: after i turns, those below i.
use Prim.Native.Nat.{ℕ, ◌+◌, ◌≤◌, ◌<◌, zero-le}
use mathlib.Core.Path.{◌≡◌, refl, sym, ◌∙◌}
use mathlib.Core.Bool.{Bool}
use mathlib.Core.List.{List}
use native.Mathlib.Omega.{arith}
use native.Mathlib.Nat.{le_antisymm}
use borrow.Author.Tests.{eq-eqb, ne_eqb}
use lib.Dec.{eqb}
use lib.ListN.{length, get_or, set, length-set}
use Rattle.lemmas.specs.Counts.{count_where, count_none, count_yes, count_no, count_most}
use Rattle.lemmas.specs.Stores.{AfterSet, here, there, after_set, Cleared}
use Rattle.paper.specs.Component.Sizes.{label_of, size_of, Sized}
use Rattle.choose.specs.Chosen.{Tallyable}

-- the count takes no pins: it is lent the labels in their place
pub unpinned : {pins labels tally : List ℕ} → Tallyable pins labels tally → Tallyable labels labels tally
unpinned {pins} {labels} {tally} p =
    let e : length labels ≡ length pins = p.holdable.labelled in
    record {
      few = omega (arith, e, p.few);
      holdable = record {
        labelled = refl;
        tallied = p.holdable.tallied ∙ sym e;
        below = λ i h. rw e (p.holdable.below i (rw e at h));
      };
    }

module _ (labels : List ℕ) where
  abbrev has : ℕ → ℕ → Bool
  has r j = eqb (label_of labels j) r

  pub record Tally (i : ℕ) (tally : List ℕ) : Type 0 where
    pub reached : i ≤ length labels
    pub long : length tally ≡ length labels
    pub at : (r : ℕ) → r < length labels → get_or tally r 0 ≡ count_where (has r) i

  pub tally_none : {tally : List ℕ} {n : ℕ} → Cleared n tally → n ≡ length labels → Tally 0 tally
  tally_none c e = record {
    reached = zero-le;
    long = c.long ∙ e;
    at = λ r h. c.zeros r (omega (arith, e)) ∙ sym (count_none (has r));
  }

  -- no number is above the turns
  pub tally_most : {tally : List ℕ} {i : ℕ} → Tally i tally → (r : ℕ) → r < length labels → get_or tally r 0 ≤ i
  tally_most {tally} {i} t r h = rw (t.at r h) (count_most (has r) i)

  pub tally_more : {tally : List ℕ} {i x v : ℕ} → Tally i tally → i < length labels → x ≡ label_of labels i → x < length labels → v ≡ get_or tally x 0 + 1
      → Tally (i + 1) (set tally x v)
  tally_more {tally} {i} {x} {v} t l e inside w = record {
    reached = omega arith;
    long = length-set tally x v ∙ t.long;
    at = λ r h. go r h (after_set tally x v r (omega (arith, t.long)));
  }
    where
      go : (r : ℕ) → r < length labels → AfterSet tally x v r → get_or (set tally x v) r 0 ≡ count_where (has r) (i + 1)
      go r h (here q s) =
          s ∙ (rw q (w ∙ rw (t.at x inside) (sym (count_yes (has x) i (eq-eqb (label_of labels i) x (sym e))))))
      go r h (there ne s) =
          s ∙ (t.at r h ∙ sym (count_no (has r) i (ne_eqb (label_of labels i) r (λ q. ne (sym q ∙ sym e)))))

  pub tally_end : {tally : List ℕ} {i : ℕ} → Tally i tally → length labels ≤ i → Sized labels tally
  unfolding size_of
  tally_end {tally} {i} t h =
      let q : i ≡ length labels = le_antisymm t.reached h in
      record { long = t.long; each = λ r l. rw (sym q) (t.at r l) }
