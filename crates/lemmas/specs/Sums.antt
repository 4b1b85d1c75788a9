-- Sums in ℤ: one more summand, and a bound on the whole from a bound on each.
use Rattle.std.specs.Prelude.{ℕ, zero, suc, ◌+◌, ◌*◌, ◌<◌, ◌≤◌, ◌≡◌, refl, ℤ, nat_abs, ◌+ℤ◌, pos, ◌≢◌, Bool, true, false, cond}
use Rattle.std.proofs.Common.{sym, ◌∙◌, ap, suc-mul, add-one, arith}
use Rattle.std.proofs.Math.IntN.{+ℤ_assoc, +ℤ_comm, +ℤ_idl, +ℤ_idr}
use Rattle.std.proofs.Math.Decide.{ℕ_discrete}
use Rattle.lemmas.specs.Ints.{abs_add}

-- f 0 + f 1 + .. + f (m - 1)
unfoldable pub sum : ℕ → (ℕ → ℤ) → ℤ
sum zero f = pos 0
sum (suc m) f = sum m f +ℤ f m

pub sum_more : (f : ℕ → ℤ) (n : ℕ) → sum (n + 1) f ≡ sum n f +ℤ f n
unfolding sum
sum_more f n = rw add-one

pub sum_bound : (f : ℕ → ℤ) (b n : ℕ) → ((k : ℕ) → k < n → nat_abs (f k) ≤ b) → nat_abs (sum n f) ≤ n * b
unfolding sum
sum_bound f b zero h = omega arith
sum_bound f b (suc n) h =
    let rest : nat_abs (sum n f) ≤ n * b = sum_bound f b n (λ k l. h k (omega arith)) in
    rw suc-mul (omega (arith, abs_add (sum n f) (f n), h n (omega arith)))

pub sum_ext : (m : ℕ) (f g : ℕ → ℤ) → ((k : ℕ) → k < m → f k ≡ g k) → sum m f ≡ sum m g
unfolding sum
sum_ext zero f g e = refl
sum_ext (suc m) f g e = cc (sum_ext m f g (λ k h. e k (omega arith)), e m (omega arith))

pub sum_zero : (m : ℕ) → sum m (λ k. pos 0) ≡ pos 0
unfolding sum
sum_zero zero = refl
sum_zero (suc m) = +ℤ_idr (sum m (λ k. pos 0)) ∙ sum_zero m

pub interchange : (a b c d : ℤ) → (a +ℤ b) +ℤ (c +ℤ d) ≡ (a +ℤ c) +ℤ (b +ℤ d)
interchange a b c d =
    +ℤ_assoc a b (c +ℤ d)
    ∙ (ap (λ (x : ℤ). a +ℤ x) (sym (+ℤ_assoc b c d) ∙ (ap (λ (x : ℤ). x +ℤ d) (+ℤ_comm b c) ∙ +ℤ_assoc c b d))
    ∙ sym (+ℤ_assoc a c (b +ℤ d)))

pub sum_add : (m : ℕ) (f g : ℕ → ℤ) → sum m (λ k. f k +ℤ g k) ≡ sum m f +ℤ sum m g
unfolding sum
sum_add zero f g = refl
sum_add (suc m) f g = ap (λ (x : ℤ). x +ℤ (f m +ℤ g m)) (sum_add m f g) ∙ interchange (sum m f) (sum m g) (f m) (g m)

pub sum_swap : (m n : ℕ) (h : ℕ → ℕ → ℤ) → sum m (λ k. sum n (λ v. h k v)) ≡ sum n (λ v. sum m (λ k. h k v))
unfolding sum
sum_swap zero n h = sym (sum_zero n)
sum_swap (suc m) n h = ap (λ (x : ℤ). x +ℤ sum n (λ v. h m v)) (sum_swap m n h) ∙ sym (sum_add n (λ v. sum m (λ k. h k v)) (λ v. h m v))

-- a sum of which one term alone is not 0
pub sum_none : (m : ℕ) (t : ℕ → Bool) (x : ℤ) → ((k : ℕ) → k < m → t k ≡ false) → sum m (λ k. cond (t k) x (pos 0)) ≡ pos 0
sum_none m t x e = sum_ext m (λ k. cond (t k) x (pos 0)) (λ k. pos 0) (λ k h. rw (e k h)) ∙ sum_zero m

pub sum_one : (m : ℕ) (t : ℕ → Bool) (x : ℤ) (j : ℕ) → j < m → t j ≡ true → ((k : ℕ) → k < m → k ≢ j → t k ≡ false) → sum m (λ k. cond (t k) x (pos 0)) ≡ x
unfolding sum
sum_one zero t x j h e o = absurd (omega arith)
sum_one (suc m) t x j h e o = go (ℕ_discrete j m) (λ (l : j < m). sum_one m t x j l e (λ k a b. o k (omega arith) b))
  where
    go : Dec (j ≡ m) → (j < m → sum m (λ k. cond (t k) x (pos 0)) ≡ x) → sum m (λ k. cond (t k) x (pos 0)) +ℤ cond (t m) x (pos 0) ≡ x
    go (yes q) ih = rw (sum_none m t x (λ k a. o k (omega arith) (λ e'. omega arith)), ← q, e) (+ℤ_idl x)
    go (no q) ih = rw (ih (omega arith), o m (omega arith) (λ e'. q (sym e'))) (+ℤ_idr x)
