-- A buffer that is filled from its front with the entries of a list, one store a turn.
use Rattle.std.specs.Prelude.{ℕ, zero, suc, ◌+◌, ◌≤◌, ◌<◌, ◌≡◌, refl, List, [], ◌∷◌, ◌++◌, length, get_or, take, drop, set, replicate}
use Rattle.std.proofs.Common.{◌∙◌, ap, arith, add-one, length-set, take_all}
use Rattle.lemmas.specs.Cells.{table}

-- the first k of the m entries of xs stand in ys, and behind them what was there before
pub record Filling {A : Type 0} (xs before : List A) (m k : ℕ) (ys : List A) : Type 0 where
  pub within : k ≤ m
  pub is : ys ≡ take k xs ++ drop k before
  pub long : length ys ≡ length before

more : {A : Type 0} (xs before : List A) (k : ℕ) (d : A) → k < length xs → k < length before
    → set (take k xs ++ drop k before) k (get_or xs k d) ≡ take (suc k) xs ++ drop (suc k) before
more [] before k d l r = absurd (omega arith)
more (x ∷ xs) [] k d l r = absurd (omega arith)
more (x ∷ xs) (b ∷ before) zero d l r = refl
more {A} (x ∷ xs) (b ∷ before) (suc k) d l r = ap (λ (q : List A). x ∷ q) (more xs before k d (omega arith) (omega arith))

module _ {A : Type 0} (xs before : List A) (m : ℕ) (count : length xs ≡ m) where
  pub filling_none : Filling xs before m 0 before
  filling_none = record { within = omega arith; is = refl; long = refl }

  pub filling_more : (k : ℕ) (ys : List A) (v d : A) → Filling xs before m k ys → k < m → m ≤ length before → v ≡ get_or xs k d
      → Filling xs before m (k + 1) (set ys k v)
  filling_more k ys v d f l r e = record {
    within = omega arith;
    is = rw (f.is, e, add-one k) (more xs before k d (omega arith) (omega arith));
    long = length-set ys k v ∙ f.long;
  }

  pub filled : (k : ℕ) (ys : List A) → Filling xs before m k ys → m ≤ k → ys ≡ xs ++ drop m before
  filled k ys f l =
      let e : k ≡ m = omega arith in
      f.is ∙ rw (e, take_all m xs (omega arith)) refl

-- a list with noughts behind it, as a table
pub padded : (bs : List ℕ) (m : ℕ) → length bs ≤ m → bs ++ drop (length bs) (replicate m 0) ≡ table m (λ k. get_or bs k 0)
unfolding table
padded [] zero h = refl
padded [] (suc m) h = ap (λ (q : List ℕ). 0 ∷ q) (padded [] m (omega arith))
padded (b ∷ bs) zero h = absurd (omega arith)
padded (b ∷ bs) (suc m) h = ap (λ (q : List ℕ). b ∷ q) (padded bs m (omega arith))
