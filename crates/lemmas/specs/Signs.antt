-- Spins: their products, their ranges, and what the machine reads back from their bits.
use Rattle.std.specs.Prelude.{ℕ, ◌^◌, ◌≤◌, ◌≡◌, refl, ◌⊎◌, T, ltb, ℤ, pos, negsuc, nat_abs, ◌*ℤ◌}
use Rattle.std.proofs.Common.{sym, ◌∙◌, subst, inl, inr, mul-one, lit≤}
use Rattle.std.specs.Int.{Width, w8}
use mir.Val.{SFits, to_z, of_z, hbits}
use Rattle.std.proofs.Math.Facts.{sfits_lit}
use Rattle.lemmas.specs.Ints.{abs_mul}
use Rattle.lemmas.specs.Held.{Holds, Value, given, stored, reads, held_mul, small_fits, mul_small}

-- a spin, by cases
pub data Sign : ℤ → Type 0 where
  up : Sign (pos 1)
  down : Sign (negsuc 0)

pub sign : {z : ℤ} → (z ≡ pos 1) ⊎ (z ≡ negsuc 0) → Sign z
sign (inl p) = subst Sign (sym p) up
sign (inr p) = subst Sign (sym p) down

pub spin : {z : ℤ} → Sign z → (z ≡ pos 1) ⊎ (z ≡ negsuc 0)
spin up = inl refl
spin down = inr refl

pub times : {a b : ℤ} → Sign a → Sign b → Sign (a *ℤ b)
times up up = up
times up down = down
times down up = down
times down down = up

pub narrow : {a : ℤ} → Sign a → SFits w8 a
narrow up = sfits_lit tt
narrow down = sfits_lit tt

pub one : {a : ℤ} → Sign a → nat_abs a ≤ 1
one up = lit≤ tt
one down = lit≤ tt

-- a spin changes no size
pub sign_abs : (z : ℤ) {a : ℤ} → Sign a → nat_abs (z *ℤ a) ≡ nat_abs z
sign_abs z up = abs_mul z _ ∙ mul-one (nat_abs z)
sign_abs z down = abs_mul z _ ∙ mul-one (nat_abs z)

-- what the machine reads of a spin's 8 bits
pub read8 : {a : ℤ} → Sign a → to_z w8 (of_z w8 a) ≡ a
read8 s = reads (given (narrow s))

pub sign_read : {a : ℤ} → Sign a → Sign (to_z w8 (of_z w8 a))
sign_read up = up
sign_read down = down

-- a coupling times two spins, at a width that holds a coupling
module _ (w : Width) (room : T (ltb 1000000 (2 ^ hbits w))) {l m n : ℕ} {j s t : ℤ} (x : Holds w l j) (y : Holds w m s) (z : Holds w n t)
    (h : nat_abs j ≤ 1000000) (p : Sign s) (q : Sign t) where
  once_small : nat_abs (j *ℤ s) ≤ 1000000
  once_small = mul_small j s 1000000 1 h (one p)

  pub twice_small : nat_abs (j *ℤ s *ℤ t) ≤ 1000000
  twice_small = mul_small (j *ℤ s) t 1000000 1 once_small (one q)

  pub once : Value w (to_z w l *ℤ to_z w m) (j *ℤ s)
  once = held_mul x y (small_fits w (j *ℤ s) 1000000 once_small room)

  pub twice : Value w (to_z w (of_z w (to_z w l *ℤ to_z w m)) *ℤ to_z w n) (j *ℤ s *ℤ t)
  twice = held_mul (stored once) z (small_fits w (j *ℤ s *ℤ t) 1000000 twice_small room)
