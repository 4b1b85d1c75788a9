-- Bounds on sums and products in ℤ, and what the machine reads back from a signed number's bits.
use Rattle.std.specs.Prelude.{◌≡◌, refl, Bool, true, false, cond, ◌&&◌, ℕ, zero, suc, ◌+◌, ◌*◌, ◌-◌, ◌^◌, ◌<◌, ◌≤◌, T, ltb, eqb, ℤ, pos, negsuc, nat_abs, neg_ℤ, ◌+ℤ◌, ◌-ℤ◌, ◌*ℤ◌}
use Rattle.std.proofs.Common.{sym, ap, subst, le_refl, le_of_lt, eq-eqb, ne_eqb, eqb-true, arith, le→leb, ltb→lt}
use Rattle.std.proofs.Math.IntN.{sub_ℕ, +ℤ_idl}
use Rattle.std.specs.Int.Signed.{lt_z, le_z}
use Rattle.std.specs.Float.{binary32}
use Rattle.std.specs.Float.Ieee.{in_float}
use Rattle.std.specs.Int.{Width}
use mir.Val.{SFits, hbits}
use Rattle.lemmas.specs.Tells.{Test, same, both, said, test_le}
use Rattle.lemmas.specs.Bools.{never}

-- equality of two integers, as a test
abbrev pub eq_z : ℤ → ℤ → Bool
eq_z (pos a) (pos b) = eqb a b
eq_z (pos a) (negsuc b) = false
eq_z (negsuc a) (pos b) = false
eq_z (negsuc a) (negsuc b) = eqb a b

pub same_is : (a b : ℤ) → a ≡ b → eq_z a b ≡ true
same_is (pos a) b e = rw (← e) (eq-eqb a a refl)
same_is (negsuc a) b e = rw (← e) (eq-eqb a a refl)

pub is_same : (a b : ℤ) → eq_z a b ≡ true → a ≡ b
is_same (pos a) (pos b) e = ap pos (eqb-true a b e)
is_same (pos a) (negsuc b) e = never e
is_same (negsuc a) (pos b) e = never e
is_same (negsuc a) (negsuc b) e = ap negsuc (eqb-true a b e)

-- ---- sizes

pub abs_neg : (z : ℤ) → nat_abs (neg_ℤ z) ≡ nat_abs z
abs_neg (pos zero) = refl
abs_neg (pos (suc n)) = refl
abs_neg (negsuc n) = refl

pub abs_mul : (a b : ℤ) → nat_abs (a *ℤ b) ≡ nat_abs a * nat_abs b
abs_mul (pos a) (pos b) = refl
abs_mul (pos a) (negsuc b) = abs_neg (pos (a * suc b))
abs_mul (negsuc a) (pos b) = abs_neg (pos (suc a * b))
abs_mul (negsuc a) (negsuc b) = refl

abs_sub : (a b : ℕ) (t : Bool) → ltb a b ≡ t → nat_abs (cond t (negsuc (b - suc a)) (pos (a - b))) ≤ a + b
abs_sub a b true e = let h : a < b = ltb→lt a b (subst T (sym e) tt) in omega arith
abs_sub a b false e = omega arith

pub abs_add : (a b : ℤ) → nat_abs (a +ℤ b) ≤ nat_abs a + nat_abs b
abs_add (pos a) (pos b) = le_refl (a + b)
abs_add (pos a) (negsuc b) = abs_sub a (suc b) (ltb a (suc b)) refl
abs_add (negsuc a) (pos b) = let h : nat_abs (sub_ℕ b (suc a)) ≤ b + suc a = abs_sub b (suc a) (ltb b (suc a)) refl in omega arith
abs_add (negsuc a) (negsuc b) = omega arith

-- ---- a number whose size is below half the width's power fits
pub sfits_abs : (w : Width) (z : ℤ) → nat_abs z < 2 ^ hbits w → SFits w z
sfits_abs w (pos n) h = record { sfits = h }
sfits_abs w (negsuc n) h = record { sfits = le_of_lt h }

-- ---- the size by a test of the sign
pub minus_abs : (j : ℤ) → lt_z j (pos 0) ≡ true → pos 0 -ℤ j ≡ pos (nat_abs j)
minus_abs (pos n) t = let h : n < 0 = ltb→lt n 0 (subst T (sym t) tt) in absurd (omega arith)
minus_abs (negsuc n) t = +ℤ_idl (pos (suc n))

pub self_abs : (j : ℤ) → lt_z j (pos 0) ≡ false → j ≡ pos (nat_abs j)
self_abs (pos n) t = refl
self_abs (negsuc n) t = absurd (subst T t tt)

-- ---- a whole number up to 2 ^ 24 is an `f32`
pub exact32 : (n : ℕ) → n ≤ 16777216 → T (in_float binary32 (pos n))
unfolding in_float
exact32 n h = le→leb n 16777216 h

-- ---- a test of equality of two signed numbers compares their bits
pub eq_z_no : (a b : ℤ) → (a ≡ b → ⊥) → eq_z a b ≡ false
eq_z_no (pos a) (pos b) h = ne_eqb a b (λ e. h (ap pos e))
eq_z_no (pos a) (negsuc b) h = refl
eq_z_no (negsuc a) (pos b) h = refl
eq_z_no (negsuc a) (negsuc b) h = ne_eqb a b (λ e. h (ap negsuc e))

-- ---- a number between two bounds of one size
pub within : (m : ℕ) (z : ℤ) → Test (le_z z (pos (suc m)) && le_z (negsuc m) z) (nat_abs z ≤ suc m)
within m (pos n) = same (n ≤ suc m) (λ h. h.0) (λ h. (h, tt)) (both (test_le n (suc m)) (said true (Unit {0}) tt))
within m (negsuc n) = same (suc n ≤ suc m) (λ h. let l : n ≤ m = h.1 in omega arith) (λ h. (tt, omega arith)) (both (said true (Unit {0}) tt) (test_le n m))
