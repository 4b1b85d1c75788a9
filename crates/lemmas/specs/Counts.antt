-- Laws of `count_where`.
use Prim.Native.Nat.{ℕ, zero, suc, ◌+◌, ◌≤◌, ◌<◌, zero-le}
use Rattle.std.specs.Prelude.{◌≡◌, Bool, true, false, cond, List, [], ◌∷◌, length, get_or, count_by}
use Rattle.std.proofs.Math.Path.{refl}
use Rattle.std.proofs.Common.{◌∙◌, le_refl, add-zero, eq-or-lt_of_le, le_of_suc-le-suc, not-suc-le-zero, arith}
use Rattle.std.proofs.lemmas.List.Sums.{sum_by-cons}
use Rattle.std.proofs.Math.Logic.{⊎_elim}
use Rattle.std.proofs.Math.Numerals.{add-one}

abbrev pub bit : Bool → ℕ
bit true = 1
bit false = 0

-- how many i < m pass the test
unfoldable pub count_where : (ℕ → Bool) → ℕ → ℕ
count_where f zero = 0
count_where f (suc m) = count_where f m + bit (f m)

pub bit_le : (b : Bool) → bit b ≤ 1
bit_le true = le_refl 1
bit_le false = zero-le

module _ (f : ℕ → Bool) where
  pub count_none : count_where f 0 ≡ 0
  unfolding count_where
  count_none = refl

  pub count_suc : (m : ℕ) → count_where f (m + 1) ≡ count_where f m + bit (f m)
  unfolding count_where
  count_suc m = rw add-one

  pub count_yes : (m : ℕ) → f m ≡ true → count_where f (m + 1) ≡ count_where f m + 1
  count_yes m e = count_suc m ∙ rw e

  pub count_no : (m : ℕ) → f m ≡ false → count_where f (m + 1) ≡ count_where f m
  count_no m e = count_suc m ∙ rw e (add-zero (count_where f m))

  pub count_most : (m : ℕ) → count_where f m ≤ m
  unfolding count_where
  count_most zero = zero-le
  count_most (suc m) = omega (arith, count_most m, bit_le (f m))

  -- none passes; one does
  pub count_zero : (m : ℕ) → ((i : ℕ) → i < m → f i ≡ false) → count_where f m ≡ 0
  unfolding count_where
  count_zero zero h = refl
  count_zero (suc m) h = rw (h m (omega arith)) (omega (arith, count_zero m (λ i l. h i (omega arith))))

  pub count_pos : (m i : ℕ) → i < m → f i ≡ true → 0 < count_where f m
  unfolding count_where
  count_pos zero i l e = absurd (not-suc-le-zero l)
  count_pos (suc m) i l e = ⊎_elim (λ q. rw (rw q at e) (omega arith)) (λ k. omega (arith, count_pos m i k e)) (eq-or-lt_of_le (le_of_suc-le-suc l))

-- only the numbers below m matter
pub count_ext : (f g : ℕ → Bool) (m : ℕ) → ((i : ℕ) → i < m → f i ≡ g i) → count_where f m ≡ count_where g m
unfolding count_where
count_ext f g zero h = refl
count_ext f g (suc m) h = cc (h m (omega arith), count_ext f g m (λ i l. h i (omega arith)))

pub count_le : (f g : ℕ → Bool) (m : ℕ) → ((i : ℕ) → f i ≡ true → g i ≡ true) → count_where f m ≤ count_where g m
unfolding count_where
count_le f g zero h = le_refl 0
count_le f g (suc m) h = omega (arith, count_le f g m h, step (f m) refl)
  where
    step : (b : Bool) → f m ≡ b → bit b ≤ bit (g m)
    step true e = rw (h m e) (le_refl 1)
    step false e = omega arith

-- the first of them apart
count_front : (f : ℕ → Bool) (m : ℕ) → count_where f (suc m) ≡ bit (f 0) + count_where (λ k. f (suc k)) m
unfolding count_where
count_front f zero = omega arith
count_front f (suc m) = omega (arith, count_front f m)

bit_cond : (b : Bool) → cond b 1 0 ≡ bit b
bit_cond true = refl
bit_cond false = refl

-- of a list, the elements that pass are counted by their places
pub count_places : {A : Type 0} (d : A) (p : A → Bool) (xs : List A) → count_by p xs ≡ count_where (λ k. p (get_or xs k d)) (length xs)
unfolding count_where
count_places d p [] = refl
count_places d p (x ∷ xs) =
    let first : count_by p (x ∷ xs) ≡ cond (p x) 1 0 + count_by p xs = sum_by-cons (λ y. cond (p y) 1 0) x xs in
    omega (arith, first, bit_cond (p x), count_places d p xs, count_front (λ k. p (get_or (x ∷ xs) k d)) (length xs))
