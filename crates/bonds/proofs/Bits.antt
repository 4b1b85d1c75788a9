-- The spins that a column's lowest bits show.
use Prim.Native.Nat.{ℕ, zero, suc, ◌%◌, ◌/◌, ◌<◌}
use mathlib.Core.Path.{◌≡◌, refl, ◌∙◌, ap}
use mathlib.Core.Bool.{Bool, true, false, cond, beq}
use native.Mathlib.Nat.{div-one, mod-lt, mul-one}
use native.Mathlib.Omega.{arith}
use lib.Dec.{eqb}
use lib.IntN.{ℤ, pos, negsuc, neg_ℤ, ◌*ℤ◌, *ℤ-negsuc, neg_ℤ-neg_ℤ}
use Rattle.lemmas.specs.Ints.{eq_z}
use Rattle.columns.specs.Column.{sign, shown}

pub data Bit : ℕ → Type 0 where
  off : Bit 0
  on : Bit 1

pub odd : (x : ℕ) → Bit (x % 2)
odd x = go (x % 2) (mod-lt x (omega arith))
  where
    go : (y : ℕ) → y < 2 → Bit y
    go zero h = off
    go (suc zero) h = on
    go (suc (suc y)) h = absurd (omega arith)

first : (x : ℕ) → shown x 0 ≡ sign (eqb (x % 2) 1)
first x = rw div-one

-- ---- bits are equal where the spins are
bits_same : {x y : ℕ} → Bit x → Bit y → eqb x y ≡ eq_z (sign (eqb x 1)) (sign (eqb y 1))
bits_same off off = refl
bits_same off on = refl
bits_same on off = refl
bits_same on on = refl

pub pair_same : (x : ℕ) → eqb (x % 2) (x / 2 % 2) ≡ eq_z (shown x 0) (shown x 1)
pair_same x = rw (first x) (bits_same (odd x) (odd (x / 2)))

pub firsts_same : (x y : ℕ) → eqb (x % 2) (y % 2) ≡ eq_z (shown x 0) (shown y 0)
firsts_same x y = rw (first x, first y) (bits_same (odd x) (odd y))

-- ---- products of spins
signs_same : (p q : Bool) → eq_z (sign p) (sign q) ≡ beq p q
signs_same true true = refl
signs_same true false = refl
signs_same false true = refl
signs_same false false = refl

pub product : (p q : Bool) → sign p *ℤ sign q ≡ sign (eq_z (sign p) (sign q))
product true true = refl
product true false = refl
product false true = refl
product false false = refl

pub overlaps_same : (p q r s : Bool) → eq_z (sign p *ℤ sign q) (sign r *ℤ sign s) ≡ beq (eq_z (sign p) (sign q)) (eq_z (sign r) (sign s))
overlaps_same p q r s = rw (product p q, product r s) (signs_same (eq_z (sign p) (sign q)) (eq_z (sign r) (sign s)))

times_one : (j : ℤ) → j *ℤ pos 1 ≡ j
times_one (pos m) = rw mul-one
times_one (negsuc m) = rw mul-one

times_minus : (j : ℤ) → j *ℤ negsuc 0 ≡ neg_ℤ j
times_minus j = *ℤ-negsuc j 0 ∙ ap neg_ℤ (times_one j)

pub align : (j : ℤ) (p q : Bool) → j *ℤ sign p *ℤ sign q ≡ cond (eq_z (sign p) (sign q)) j (neg_ℤ j)
align j true true = times_one (j *ℤ pos 1) ∙ times_one j
align j true false = times_minus (j *ℤ pos 1) ∙ ap neg_ℤ (times_one j)
align j false true = times_one (j *ℤ negsuc 0) ∙ times_minus j
align j false false = times_minus (j *ℤ negsuc 0) ∙ (ap neg_ℤ (times_minus j) ∙ neg_ℤ-neg_ℤ j)
