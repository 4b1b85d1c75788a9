-- Lists of counts: entry r counts the first i that F r takes, beside what it starts with.
use Prim.Native.Nat.{ℕ, ◌+◌, ◌≤◌, ◌<◌, zero-le}
use mathlib.Core.Path.{◌≡◌, refl, sym, ap, ◌∙◌}
use mathlib.Core.Bool.{Bool, true, false, cond}
use mathlib.Core.List.{List}
use native.Mathlib.Nat.{le_refl, le_antisymm}
use native.Mathlib.Omega.{arith}
use borrow.Author.Tests.{eq-eqb, ne_eqb}
use lib.Dec.{eqb}
use lib.ListN.{length, get_or, set, length-set}
use Rattle.lemmas.specs.Counts.{count_where, count_none, count_yes, count_no, count_most}
use Rattle.lemmas.specs.Stores.{Cleared, AfterSet, AfterSet.here, AfterSet.there, after_set}
use Rattle.sizes.specs.Steps.{Started, Histogramming, ones_pass, Histogram}

-- of the entries below m, each beside what it starts with
abbrev Raised : (ℕ → ℕ) → (ℕ → ℕ → Bool) → List ℕ → ℕ → ℕ → Type 0
Raised base F out m i = (r : ℕ) → r < m → get_or out r 0 ≡ base r + count_where (F r) i

-- i is taken by k alone
module _ (F : ℕ → ℕ → Bool) (out : List ℕ) (m i k : ℕ) (kl : k < length out) (yes-k : F k i ≡ true) (no-r : (r : ℕ) → (r ≡ k → ⊥) → F r i ≡ false) where
  raised_hit : (base : ℕ → ℕ) → Raised base F out m i → Raised base F (set out k (get_or out k 0 + 1)) m (i + 1)
  raised_hit base t r rl = go (after_set out k (get_or out k 0 + 1) r kl)
    where
      go : AfterSet out k (get_or out k 0 + 1) r → get_or (set out k (get_or out k 0 + 1)) r 0 ≡ base r + count_where (F r) (i + 1)
      go (here e g) = g ∙ rw e (omega (arith, t k (rw e at rl), count_yes (F k) i yes-k))
      go (there ne g) = omega (arith, g, t r rl, count_no (F r) i (no-r r ne))

-- ---- cleared counts: there is no size 1; there are some, and they are written
none : (b : Bool) → ◌≡◌ {A = ℕ} (cond b 0 0) 0
none true = refl
none false = refl

pub started_none : {ones n : ℕ} {counts : List ℕ} → Cleared n counts → ones ≡ 0 → Started ones n counts
started_none h e = record { long = h.long; each = λ s l. h.zeros s l ∙ rw e (sym (none (eqb 1 s))) }

pub started_ones : (ones n : ℕ) (counts : List ℕ) → Cleared n counts → 1 < n → Started ones n (set counts 1 ones)
started_ones ones n counts h l = record { long = simp length-set h.long; each = λ s sl. each s sl (after_set counts 1 ones s (rw h.long l)) }
  where
    each : (s : ℕ) → s < n → AfterSet counts 1 ones s → get_or (set counts 1 ones) s 0 ≡ ones_pass ones (λ x. eqb x s)
    each s sl (here e g) = g ∙ rw (eq-eqb 1 s (sym e)) refl
    each s sl (there ne g) = g ∙ (h.zeros s sl ∙ rw (ne_eqb 1 s (λ q. ne (sym q))) refl)

-- ---- `uf_histogram` has taken the first i sizes
abbrev pub sized : List ℕ → ℕ → ℕ → Bool
sized sizes s t = eqb (get_or sizes t 0) s

abbrev of_ones : ℕ → ℕ → ℕ
of_ones ones s = ones_pass ones (λ x. eqb x s)

pub record Bins (sizes : List ℕ) (ones n : ℕ) (counts : List ℕ) (i : ℕ) : Type 0 where
  pub long : length counts ≡ n
  pub reached : i ≤ length sizes
  pub counts_are : Raised (of_ones ones) (sized sizes) counts n i

pub bins_none : (sizes : List ℕ) (ones n : ℕ) (counts : List ℕ) → Started ones n counts → Bins sizes ones n counts 0
bins_none sizes ones n counts h = record {
  long = h.long;
  reached = zero-le;
  counts_are = λ s l. omega (arith, h.each s l, count_none (sized sizes s));
}

module _ {sizes : List ℕ} {ones n : ℕ} {counts : List ℕ} {i : ℕ} (h : Bins sizes ones n counts i) (g : Histogramming sizes ones n) (il : i < length sizes)
    (k : ℕ) (e : k ≡ get_or sizes i 0) where
  pub bin_lt : k < length counts
  bin_lt = rw (e, h.long) (g.low i il)

  pub bin_fits : get_or counts k 0 ≤ 8192
  bin_fits = omega (arith, h.counts_are k (rw e (g.low i il)), few (eqb 1 k), count_most (sized sizes k) i, g.few, g.few_ones)
    where
      few : (b : Bool) → cond b ones 0 ≤ ones
      few true = le_refl ones
      few false = zero-le

  pub bins_more : Bins sizes ones n (set counts k (get_or counts k 0 + 1)) (i + 1)
  bins_more = record {
    long = simp length-set h.long;
    reached = omega arith;
    counts_are = raised_hit (sized sizes) counts n i k bin_lt (eq-eqb _ _ (sym e)) (λ r ne. ne_eqb _ _ (λ q. ne (sym q ∙ sym e))) (of_ones ones)
        h.counts_are;
  }

pub bins_end : {sizes : List ℕ} {ones n : ℕ} {counts : List ℕ} {i : ℕ} → Bins sizes ones n counts i → length sizes ≤ i → Histogram sizes ones counts n
bins_end {sizes} {ones} {n} {counts} {i} h l = record {
  long = h.long;
  each = λ s sl. h.counts_are s sl ∙ ap (λ (y : ℕ). of_ones ones s + count_where (sized sizes s) y)
      (le_antisymm h.reached l);
}
