-- The places of the four largest sizes, as another size joins.
use Prim.Native.Nat.{ℕ, ◌+◌, ◌≤◌, ◌<◌, zero-le}
use mathlib.Core.Path.{◌≡◌, refl}
use mathlib.Core.Logic.{◌⊎◌, inl, inr, ⊎_elim}
use mathlib.Core.Bool.{Bool, true, false, cond}
use mathlib.Core.List.{List}
use native.Mathlib.Nat.{le_refl, le_trans}
use native.Mathlib.Omega.{arith}
use borrow.Author.Tests.{le-leb, lt-leb, leb-true}
use lib.Dec.{leb}
use lib.ListN.{get_or}
use Rattle.lemmas.specs.Counts.{bit, bit_le, count_none, count_suc, count_le}
use Rattle.sizes.specs.Steps.{or_more, ones_or_more, all_or_more, Place, Top4, with, Falling}

below_bit : (v x : ℕ) → v ≤ x → bit (leb v x) ≡ 1
below_bit v x h = rw (le-leb v x h)

above_bit : (v x : ℕ) → x < v → bit (leb v x) ≡ 0
above_bit v x h = rw (lt-leb v x h)

place_ext : {G H : ℕ → ℕ} → ((v : ℕ) → G v ≡ H v) → {t a : ℕ} → Place G t a → Place H t a
place_ext e {t} {a} r = record { larger = rw (e (a + 1)) at r.larger; reached = ⊎_elim inl (λ h. inr (rw (e a) at h)) r.reached }

pub top_ext : {G H : ℕ → ℕ} → ((v : ℕ) → G v ≡ H v) → {a b c d : ℕ} → Top4 G a b c d → Top4 H a b c d
top_ext e r = record {
  first = place_ext e r.first;
  second = place_ext e r.second;
  third = place_ext e r.third;
  fourth = place_ext e r.fourth;
  ba = r.ba;
  cb = r.cb;
  dc = r.dc;
}

-- x joins the sizes that G counts
module _ (G : ℕ → ℕ) (falls : Falling G) (x : ℕ) where
  -- a size that x does not pass keeps its place
  stays : (t a : ℕ) → x ≤ a → Place G t a → Place (with G x) t a
  stays t a h r = record {
    larger = omega (arith, above_bit (a + 1) x (omega arith), r.larger);
    reached = ⊎_elim inl (λ l. inr (omega arith)) r.reached;
  }

  -- a size that x passes goes back one place
  shifts : (t a : ℕ) → a < x → Place G t a → Place (with G x) (t + 1) a
  shifts t a h r = record {
    larger = omega (arith, bit_le (leb (a + 1) x), r.larger);
    reached = ⊎_elim inl (λ l. inr (omega (arith, below_bit a x (omega arith)))) r.reached;
  }

  -- x takes the place of a, behind b
  comes : (t a b : ℕ) → a < x → x ≤ b → Place G (t + 1) a → Place G t b → Place (with G x) (t + 1) x
  comes t a b h k ra rb = record {
    larger = omega (arith, above_bit (x + 1) x (omega arith), ra.larger, falls (a + 1) (x + 1) (omega arith));
    reached = inr (omega (arith, below_bit x x (le_refl x), falls x b k, many rb.reached));
  }
    where
      many : (b ≡ 0) ⊎ (t < G b) → t < G b
      many (inl e) = omega arith
      many (inr l) = l

  -- x is the largest
  leads : (a : ℕ) → a < x → Place G 0 a → Place (with G x) 0 x
  leads a h r = record {
    larger = omega (arith, above_bit (x + 1) x (omega arith), r.larger, falls (a + 1) (x + 1) (omega arith));
    reached = inr (omega (arith, below_bit x x (le_refl x)));
  }

  -- `insert`, by the place that x takes
  module _ {a b c d : ℕ} (r : Top4 G a b c d) where
    pub into_none : x ≤ d → Top4 (with G x) a b c d
    into_none h = record {
      first = stays 0 a (omega (arith, r.ba, r.cb, r.dc)) r.first;
      second = stays 1 b (omega (arith, r.cb, r.dc)) r.second;
      third = stays 2 c (omega (arith, r.dc)) r.third;
      fourth = stays 3 d h r.fourth;
      ba = r.ba;
      cb = r.cb;
      dc = r.dc;
    }

    pub into_fourth : d < x → x ≤ c → Top4 (with G x) a b c x
    into_fourth l h = record {
      first = stays 0 a (omega (arith, r.ba, r.cb)) r.first;
      second = stays 1 b (omega (arith, r.cb)) r.second;
      third = stays 2 c h r.third;
      fourth = comes 2 d c l h r.fourth r.third;
      ba = r.ba;
      cb = r.cb;
      dc = h;
    }

    pub into_third : c < x → x ≤ b → Top4 (with G x) a b x c
    into_third l h = record {
      first = stays 0 a (omega (arith, r.ba)) r.first;
      second = stays 1 b h r.second;
      third = comes 1 c b l h r.third r.second;
      fourth = shifts 2 c l r.third;
      ba = r.ba;
      cb = h;
      dc = omega arith;
    }

    pub into_second : b < x → x ≤ a → Top4 (with G x) a x b c
    into_second l h = record {
      first = stays 0 a h r.first;
      second = comes 0 b a l h r.second r.first;
      third = shifts 1 b l r.second;
      fourth = shifts 2 c (omega (arith, r.cb)) r.third;
      ba = h;
      cb = omega arith;
      dc = r.cb;
    }

    pub into_first : a < x → Top4 (with G x) x a b c
    into_first l = record {
      first = leads a l r.first;
      second = shifts 0 a l r.first;
      third = shifts 1 b (omega (arith, r.ba)) r.second;
      fourth = shifts 2 c (omega (arith, r.ba, r.cb)) r.third;
      ba = omega arith;
      cb = r.ba;
      dc = r.cb;
    }

-- ---- the sizes of a list
or_more_falls : (sizes : List ℕ) (m : ℕ) → Falling (or_more sizes m)
or_more_falls sizes m v w h = count_le (λ t. leb w (get_or sizes t 0)) (λ t. leb v (get_or sizes t 0)) m
    (λ t e. le-leb v (get_or sizes t 0) (le_trans h (leb-true w (get_or sizes t 0) e)))

-- so many sizes 1: those at the places before that number are there
module _ (ones : ℕ) where
  ones_there : (t : ℕ) → t < ones → Place (ones_or_more ones) t 1
  ones_there t l = record { larger = zero-le; reached = inr l }

  ones_past : (t : ℕ) → ones ≤ t → Place (ones_or_more ones) t 0
  ones_past t l = record { larger = l; reached = inl refl }

  pub no_ones : ones ≡ 0 → Top4 (ones_or_more ones) 0 0 0 0
  no_ones e = record {
    first = ones_past 0 (omega arith);
    second = ones_past 1 (omega arith);
    third = ones_past 2 (omega arith);
    fourth = ones_past 3 (omega arith);
    ba = zero-le;
    cb = zero-le;
    dc = zero-le;
  }

  pub one_one : ones ≡ 1 → Top4 (ones_or_more ones) 1 0 0 0
  one_one e = record {
    first = ones_there 0 (omega arith);
    second = ones_past 1 (omega arith);
    third = ones_past 2 (omega arith);
    fourth = ones_past 3 (omega arith);
    ba = zero-le;
    cb = zero-le;
    dc = zero-le;
  }

  pub two_ones : ones ≡ 2 → Top4 (ones_or_more ones) 1 1 0 0
  two_ones e = record {
    first = ones_there 0 (omega arith);
    second = ones_there 1 (omega arith);
    third = ones_past 2 (omega arith);
    fourth = ones_past 3 (omega arith);
    ba = le_refl 1;
    cb = zero-le;
    dc = zero-le;
  }

  pub three_ones : ones ≡ 3 → Top4 (ones_or_more ones) 1 1 1 0
  three_ones e = record {
    first = ones_there 0 (omega arith);
    second = ones_there 1 (omega arith);
    third = ones_there 2 (omega arith);
    fourth = ones_past 3 (omega arith);
    ba = le_refl 1;
    cb = le_refl 1;
    dc = zero-le;
  }

  pub more_ones : 3 < ones → Top4 (ones_or_more ones) 1 1 1 1
  more_ones l = record {
    first = ones_there 0 (omega arith);
    second = ones_there 1 (omega arith);
    third = ones_there 2 (omega arith);
    fourth = ones_there 3 l;
    ba = le_refl 1;
    cb = le_refl 1;
    dc = le_refl 1;
  }

  ones_fall : Falling (ones_or_more ones)
  ones_fall v w h = go (leb w 1) refl
    where
      go : (b : Bool) → leb w 1 ≡ b → cond b ones 0 ≤ ones_or_more ones v
      go true e = rw (le-leb v 1 (le_trans h (leb-true w 1 e))) (le_refl ones)
      go false e = zero-le

  pub all_fall : (sizes : List ℕ) (m : ℕ) → Falling (all_or_more ones sizes m)
  all_fall sizes m v w h = omega (arith, ones_fall v w h, or_more_falls sizes m v w h)

  -- `top4_sizes` has taken the first i
  pub top_none : (sizes : List ℕ) {a b c d : ℕ} → Top4 (ones_or_more ones) a b c d → Top4 (all_or_more ones sizes 0) a b c d
  top_none sizes r = top_ext (λ v. omega (arith, count_none (λ t. leb v (get_or sizes t 0)))) r

  pub top_more : (sizes : List ℕ) (i : ℕ) {a b c d : ℕ} → Top4 (with (all_or_more ones sizes i) (get_or sizes i 0)) a b c d
      → Top4 (all_or_more ones sizes (i + 1)) a b c d
  top_more sizes i r = top_ext (λ v. omega (arith, count_suc (λ t. leb v (get_or sizes t 0)) i)) r
