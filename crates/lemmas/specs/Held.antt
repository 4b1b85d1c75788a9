-- Signed numbers as the machine holds them: a local holds bits, an operation reads numbers from them and stores the bits of its result.
-- `Holds w n z`: the bits n read as z, which fits. `Value w y z`: what an operation computed, y, is z, which fits.
-- A need that asks `SFits w y` is `asks v`, and a return of y's bits is `reads (stored v)`, for v a `Value` built as the code is built.
use Rattle.std.specs.Prelude.{◌≡◌, refl, Bool, true, false, ℕ, ◌*◌, ◌^◌, ◌<◌, ◌≤◌, T, ltb, leb, ℤ, nat_abs, ◌+ℤ◌, ◌-ℤ◌, ◌*ℤ◌}
use Rattle.std.proofs.Common.{sym, ◌∙◌, ap, subst, le_trans, lt_of_le_of_lt, mul-le-mul_left, mul-le-mul_right, ltb→lt}
use Rattle.std.specs.Int.Signed.{lt_z, mag}
use Rattle.std.specs.Int.{Width, w8}
use mir.Val.{SFits, to_z, of_z, hbits}
use Rattle.std.proofs.lemmas.Int.{to_z-of_z}
use Rattle.std.proofs.Math.Facts.{sfits_widen}
use Rattle.lemmas.specs.Ints.{eq_z, abs_mul, sfits_abs, same_is, eq_z_no}

pub record Holds (w : Width) (n : ℕ) (z : ℤ) : Type 0 where
  pub bits : n ≡ of_z w z
  pub fits : SFits w z

pub record Value (w : Width) (y z : ℤ) : Type 0 where
  pub is : y ≡ z
  pub fits : SFits w z

-- what is read of the bits
pub reads : {w : Width} {n : ℕ} {z : ℤ} → Holds w n z → to_z w n ≡ z
reads {w} {n} {z} h = ap (to_z w) h.bits ∙ to_z-of_z w z h.fits

-- a parameter, by `c.fits.x`
pub given : {w : Width} {z : ℤ} → SFits w z → Holds w (of_z w z) z
given f = record { bits = refl; fits = f }

-- from a plain bound, as a call's `.ok` and a signed element's `.given` have it. z is explicit: nothing else shows it
pub bounded : (w : Width) (z : ℤ) → mag z < 2 ^ hbits w → Holds w (of_z w z) z
bounded w z h = given (record { sfits = h })

-- what an operation asks of its result
pub asks : {w : Width} {y z : ℤ} → Value w y z → SFits w y
asks {w} v = subst (SFits w) (sym v.is) v.fits

pub stored : {w : Width} {y z : ℤ} → Value w y z → Holds w (of_z w y) z
stored {w} v = record { bits = ap (of_z w) v.is; fits = v.fits }

module _ {w : Width} {m n : ℕ} {a b : ℤ} (x : Holds w m a) (y : Holds w n b) where
  pub held_mul : SFits w (a *ℤ b) → Value w (to_z w m *ℤ to_z w n) (a *ℤ b)
  held_mul f = record { is = λ i. reads x i *ℤ reads y i; fits = f }

  -- the number that the sum or the difference is
  pub held_add_to : {z : ℤ} → a +ℤ b ≡ z → SFits w z → Value w (to_z w m +ℤ to_z w n) z
  held_add_to e f = record { is = (λ i. reads x i +ℤ reads y i) ∙ e; fits = f }

  pub held_sub_to : {z : ℤ} → a -ℤ b ≡ z → SFits w z → Value w (to_z w m -ℤ to_z w n) z
  held_sub_to e f = record { is = (λ i. reads x i -ℤ reads y i) ∙ e; fits = f }

  -- a test compares what is read; a test of equality compares the bits
  pub held_lt : {t : Bool} → lt_z (to_z w m) (to_z w n) ≡ t → lt_z a b ≡ t
  held_lt e = sym (λ i. lt_z (reads x i) (reads y i)) ∙ e

  pub held_same : m ≡ n → eq_z a b ≡ true
  held_same e = same_is a b (sym (reads x) ∙ ap (to_z w) e ∙ reads y)

  pub held_differ : (m ≡ n → ⊥) → eq_z a b ≡ false
  held_differ h = eq_z_no a b (λ p. h (x.bits ∙ ap (of_z w) p ∙ sym y.bits))

-- a cast to a width that holds it
pub held_cast : {w w' : Width} {n : ℕ} {z : ℤ} → Holds w n z → SFits w' z → Value w' (to_z w n) z
held_cast x f = record { is = reads x; fits = f }

pub held_wide : {w w' : Width} {n : ℕ} {z : ℤ} → Holds w n z → T (leb (hbits w) (hbits w')) → Value w' (to_z w n) z
held_wide x t = held_cast x (sfits_widen t x.fits)

-- ---- a size that is small enough
pub small_fits : (w : Width) (z : ℤ) (n : ℕ) → nat_abs z ≤ n → T (ltb n (2 ^ hbits w)) → SFits w z
small_fits w z n h t = sfits_abs w z (lt_of_le_of_lt h (ltb→lt n (2 ^ hbits w) t))

pub mul_small : (a b : ℤ) (m n : ℕ) → nat_abs a ≤ m → nat_abs b ≤ n → nat_abs (a *ℤ b) ≤ m * n
mul_small a b m n ha hb = subst (λ (k : ℕ). k ≤ m * n) (sym (abs_mul a b)) (le_trans (mul-le-mul_left (nat_abs a) hb) (mul-le-mul_right n ha))

pub bits_inj : (a b : ℤ) → SFits w8 a → SFits w8 b → of_z w8 a ≡ of_z w8 b → a ≡ b
bits_inj a b ha hb e = sym (to_z-of_z w8 a ha) ∙ (ap (to_z w8) e ∙ to_z-of_z w8 b hb)
