-- A product distributes over sums, and is associative.
use Rattle.std.specs.Prelude.{ℕ, zero, suc, ◌≡◌, refl, ℤ, pos, negsuc, neg_ℤ, ◌+ℤ◌, ◌*ℤ◌}
use Rattle.std.proofs.Common.{sym, ◌∙◌, ap}
use Rattle.std.proofs.Math.IntN.{suc_ℤ, pred_ℤ, *ℤ_comm, *ℤ-zero, zero-*ℤ, suc_ℤ-*ℤ, pred_ℤ-*ℤ, neg_ℤ-+ℤ}
use Rattle.lemmas.specs.Sums.{sum, interchange}

-- what holds of 0, and goes on to the next number and to the one before, holds of every number
by_steps : (P : ℤ → Type 0) → P (pos 0) → ((j : ℤ) → P j → P (suc_ℤ j)) → ((j : ℤ) → P j → P (pred_ℤ j)) → (j : ℤ) → P j
by_steps P z up down (pos n) = rising n
  where
    rising : (n : ℕ) → P (pos n)
    rising zero = z
    rising (suc n) = up (pos n) (rising n)
by_steps P z up down (negsuc n) = falling n
  where
    falling : (n : ℕ) → P (negsuc n)
    falling zero = down (pos 0) z
    falling (suc n) = down (negsuc n) (falling n)

pub times_add : (j x y : ℤ) → j *ℤ (x +ℤ y) ≡ j *ℤ x +ℤ j *ℤ y
times_add j x y = by_steps (λ (j : ℤ). j *ℤ (x +ℤ y) ≡ j *ℤ x +ℤ j *ℤ y) none up down j
  where
    none : pos 0 *ℤ (x +ℤ y) ≡ pos 0 *ℤ x +ℤ pos 0 *ℤ y
    none = rw (zero-*ℤ (x +ℤ y), zero-*ℤ x, zero-*ℤ y)

    up : (j : ℤ) → j *ℤ (x +ℤ y) ≡ j *ℤ x +ℤ j *ℤ y → suc_ℤ j *ℤ (x +ℤ y) ≡ suc_ℤ j *ℤ x +ℤ suc_ℤ j *ℤ y
    up j e = rw (suc_ℤ-*ℤ j (x +ℤ y), suc_ℤ-*ℤ j x, suc_ℤ-*ℤ j y, e) (interchange (j *ℤ x) (j *ℤ y) x y)

    down : (j : ℤ) → j *ℤ (x +ℤ y) ≡ j *ℤ x +ℤ j *ℤ y → pred_ℤ j *ℤ (x +ℤ y) ≡ pred_ℤ j *ℤ x +ℤ pred_ℤ j *ℤ y
    down j e =
        rw (pred_ℤ-*ℤ j (x +ℤ y), pred_ℤ-*ℤ j x, pred_ℤ-*ℤ j y, e, neg_ℤ-+ℤ x y) (interchange (j *ℤ x) (j *ℤ y) (neg_ℤ x) (neg_ℤ y))

add_times : (x y j : ℤ) → (x +ℤ y) *ℤ j ≡ x *ℤ j +ℤ y *ℤ j
add_times x y j = *ℤ_comm (x +ℤ y) j ∙ (times_add j x y ∙ cc (*ℤ_comm j x, *ℤ_comm j y))

neg_times : (x y : ℤ) → neg_ℤ x *ℤ y ≡ neg_ℤ (x *ℤ y)
neg_times x y = by_steps (λ (y : ℤ). neg_ℤ x *ℤ y ≡ neg_ℤ (x *ℤ y)) none up down y
  where
    none : neg_ℤ x *ℤ pos 0 ≡ neg_ℤ (x *ℤ pos 0)
    none = rw (*ℤ-zero (neg_ℤ x), *ℤ-zero x)

    up : (y : ℤ) → neg_ℤ x *ℤ y ≡ neg_ℤ (x *ℤ y) → neg_ℤ x *ℤ suc_ℤ y ≡ neg_ℤ (x *ℤ suc_ℤ y)
    up y e =
        rw (*ℤ_comm (neg_ℤ x) (suc_ℤ y), *ℤ_comm x (suc_ℤ y), suc_ℤ-*ℤ y (neg_ℤ x), suc_ℤ-*ℤ y x, *ℤ_comm y (neg_ℤ x), *ℤ_comm y x, e)
        (sym (neg_ℤ-+ℤ (x *ℤ y) x))

    down : (y : ℤ) → neg_ℤ x *ℤ y ≡ neg_ℤ (x *ℤ y) → neg_ℤ x *ℤ pred_ℤ y ≡ neg_ℤ (x *ℤ pred_ℤ y)
    down y e =
        rw (*ℤ_comm (neg_ℤ x) (pred_ℤ y), *ℤ_comm x (pred_ℤ y), pred_ℤ-*ℤ y (neg_ℤ x), pred_ℤ-*ℤ y x, *ℤ_comm y (neg_ℤ x), *ℤ_comm y x, e)
        (sym (neg_ℤ-+ℤ (x *ℤ y) (neg_ℤ x)))

pub times_assoc : (j x y : ℤ) → j *ℤ x *ℤ y ≡ j *ℤ (x *ℤ y)
times_assoc j x y = by_steps (λ (j : ℤ). j *ℤ x *ℤ y ≡ j *ℤ (x *ℤ y)) none up down j
  where
    none : pos 0 *ℤ x *ℤ y ≡ pos 0 *ℤ (x *ℤ y)
    none = rw (zero-*ℤ x, zero-*ℤ y, zero-*ℤ (x *ℤ y))

    up : (j : ℤ) → j *ℤ x *ℤ y ≡ j *ℤ (x *ℤ y) → suc_ℤ j *ℤ x *ℤ y ≡ suc_ℤ j *ℤ (x *ℤ y)
    up j e = rw (suc_ℤ-*ℤ j x, suc_ℤ-*ℤ j (x *ℤ y), add_times (j *ℤ x) x y, e)

    down : (j : ℤ) → j *ℤ x *ℤ y ≡ j *ℤ (x *ℤ y) → pred_ℤ j *ℤ x *ℤ y ≡ pred_ℤ j *ℤ (x *ℤ y)
    down j e = rw (pred_ℤ-*ℤ j x, pred_ℤ-*ℤ j (x *ℤ y), add_times (j *ℤ x) (neg_ℤ x) y, neg_times x y, e)

pub sum_times : (m : ℕ) (j : ℤ) (f : ℕ → ℤ) → sum m (λ k. j *ℤ f k) ≡ j *ℤ sum m f
unfolding sum
sum_times zero j f = sym (*ℤ-zero j)
sum_times (suc m) j f = ap (λ (x : ℤ). x +ℤ j *ℤ f m) (sum_times m j f) ∙ sym (times_add j (sum m f) (f m))

pub sum_neg : (m : ℕ) (f : ℕ → ℤ) → sum m (λ k. neg_ℤ (f k)) ≡ neg_ℤ (sum m f)
unfolding sum
sum_neg zero f = refl
sum_neg (suc m) f = ap (λ (x : ℤ). x +ℤ neg_ℤ (f m)) (sum_neg m f) ∙ sym (neg_ℤ-+ℤ (sum m f) (f m))
