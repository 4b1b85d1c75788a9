-- Tests, and what it tells that they pass.
use Rattle.std.specs.Prelude.{ℕ, zero, suc, ◌<◌, ◌≡◌, refl, Bool, true, false, ◌&&◌, ◌||◌, ltb}
use Rattle.std.proofs.Common.{arith, ltb-true}
use Rattle.std.proofs.Math.Decide.{ℕ_discrete}

pub never : {P : Type 0} → false ≡ true → P
never e = let z : ◌≡◌ {A = ℕ} 0 1 = cc in absurd (omega arith)

pub and_left : (a b : Bool) → (a && b) ≡ true → a ≡ true
and_left true b e = refl
and_left false b e = e

pub and_right : (a b : Bool) → (a && b) ≡ true → b ≡ true
and_right true b e = e
and_right false b e = never e

pub and_no : (b : Bool) → (b && false) ≡ false
and_no true = refl
and_no false = refl

pub or_right : (a b : Bool) → b ≡ true → (a || b) ≡ true
or_right true b e = refl
or_right false b e = e

unfoldable pub every : ℕ → (ℕ → Bool) → Bool
every zero f = true
every (suc m) f = f m && every m f

pub every_is : (m : ℕ) (f : ℕ → Bool) → every m f ≡ true → (k : ℕ) → k < m → f k ≡ true
unfolding every
every_is zero f e k h = absurd (omega arith)
every_is (suc m) f e k h = at (ℕ_discrete k m) (every_is m f (and_right (f m) (every m f) e) k)
  where
    at : Dec (k ≡ m) → (k < m → f k ≡ true) → f k ≡ true
    at (yes q) ih = rw q (and_left (f m) (every m f) e)
    at (no q) ih = ih (omega arith)

abbrev pub below_test : ℕ → ℕ → (ℕ → ℕ) → Bool
below_test m s f = every m (λ k. ltb (f k) s)

pub below_by : (m s : ℕ) (f : ℕ → ℕ) → below_test m s f ≡ true → (k : ℕ) → k < m → f k < s
below_by m s f e k h = ltb-true _ _ (every_is m (λ k. ltb (f k) s) e k h)
