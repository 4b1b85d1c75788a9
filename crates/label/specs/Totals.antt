-- Sums of numbers over the numbers below m.
use Rattle.std.specs.Prelude.{ℕ, zero, suc, ◌+◌, ◌*◌, ◌<◌, ◌≡◌, refl, ◌≢◌, Bool, true, false, cond}
use Rattle.std.proofs.Common.{sym, ap, ◌∙◌, zero-add, add-zero, mul-add, mul-zero, mul-one, arith}
use Rattle.std.proofs.Math.Decide.{ℕ_discrete}
use Rattle.lemmas.specs.Counts.{bit, count_where}

unfoldable pub total : (ℕ → ℕ) → ℕ → ℕ
total f zero = 0
total f (suc m) = total f m + f m

pub total_ext : (f g : ℕ → ℕ) (m : ℕ) → ((k : ℕ) → k < m → f k ≡ g k) → total f m ≡ total g m
unfolding total
total_ext f g zero e = refl
total_ext f g (suc m) e = cc (total_ext f g m (λ k h. e k (omega arith)), e m (omega arith))

pub total_zero : (m : ℕ) → total (λ k. 0) m ≡ 0
unfolding total
total_zero zero = refl
total_zero (suc m) = omega (arith, total_zero m)

pub total_add : (f g : ℕ → ℕ) (m : ℕ) → total (λ k. f k + g k) m ≡ total f m + total g m
unfolding total
total_add f g zero = refl
total_add f g (suc m) = omega (arith, total_add f g m)

pub total_swap : (h : ℕ → ℕ → ℕ) (m n : ℕ) → total (λ a. total (λ b. h a b) n) m ≡ total (λ b. total (λ a. h a b) m) n
unfolding total
total_swap h zero n = sym (total_zero n)
total_swap h (suc m) n = ap (λ (x : ℕ). x + total (λ b. h m b) n) (total_swap h m n) ∙ sym (total_add (λ b. total (λ a. h a b) m) (λ b. h m b) n)

-- a sum of which one term alone is not 0
pub total_one : (t : ℕ → Bool) (x m j : ℕ) → j < m → t j ≡ true → ((k : ℕ) → k < m → k ≢ j → t k ≡ false) → total (λ k. cond (t k) x 0) m ≡ x
unfolding total
total_one t x zero j h e o = absurd (omega arith)
total_one t x (suc m) j h e o = go (ℕ_discrete j m) (λ (l : j < m). total_one t x m j l e (λ k a b. o k (omega arith) b))
  where
    none : ((k : ℕ) → k < m → t k ≡ false) → total (λ k. cond (t k) x 0) m ≡ 0
    none n = total_ext (λ k. cond (t k) x 0) (λ k. 0) m (λ k a. rw (n k a)) ∙ total_zero m

    go : Dec (j ≡ m) → (j < m → total (λ k. cond (t k) x 0) m ≡ x) → total (λ k. cond (t k) x 0) m + cond (t m) x 0 ≡ x
    go (yes q) ih = rw (none (λ k a. o k (omega arith) (λ p. omega arith)), ← q, e) (zero-add x)
    go (no q) ih = rw (ih (omega arith), o m (omega arith) (λ p. q (sym p))) (add-zero x)

-- x times a count
pub total_count : (x : ℕ) (t : ℕ → Bool) (m : ℕ) → x * count_where t m ≡ total (λ k. cond (t k) x 0) m
unfolding total count_where
total_count x t zero = mul-zero x
total_count x t (suc m) = mul-add x (count_where t m) (bit (t m)) ∙ cc (total_count x t m, last (t m))
  where
    last : (b : Bool) → x * bit b ≡ cond b x 0
    last true = mul-one x
    last false = mul-zero x
