-- The difference of two bits, as the machine computes it; and a bond's change by its bits.
use Prim.Native.Nat.{ℕ, zero, suc, ◌/◌, ◌%◌, ◌^◌, ◌≤◌, ◌<◌}
use mathlib.Core.Path.{◌≡◌, refl, sym, ◌∙◌, ap}
use native.Mathlib.Omega.{arith}
use native.Mathlib.Nat.{mod-lt}
use lib.Dec.{eqb, lit≤}
use lib.Bits.{bit_xor, xor_shr, xor_mod}
use lib.IntN.{ℤ, pos, negsuc, neg_ℤ, nat_abs, one, ◌+ℤ◌, ◌-ℤ◌, ◌*ℤ◌, *ℤ-one, *ℤ-zero, *ℤ_comm, *ℤ-negsuc, +ℤ_invr, neg_ℤ-neg_ℤ, neg_ℤ-+ℤ, suc_ℤ-*ℤ}
use mir.Syntax.{w64}
use mir.Val.{to_z}
use mir.Facts.{sfits_lit}
use Rattle.lemmas.specs.Held.{Holds, Value, held_sub_to, small_fits, mul_small}
use Rattle.columns.specs.Column.{sign, shown}
use Rattle.totals.specs.Gain.{bond_gain, bit_gain}

-- a digit, by cases
pub data Digit : ℕ → Type 0 where
  none : Digit 0
  some : Digit 1

pub digit : (x k : ℕ) → Digit (x / 2 ^ k % 2)
digit x k = at (x / 2 ^ k % 2) (mod-lt (x / 2 ^ k) (omega arith))
  where
    at : (n : ℕ) → n < 2 → Digit n
    at zero h = none
    at (suc zero) h = some
    at (suc (suc n)) h = absurd (omega arith)

held : {n : ℕ} → Digit n → Holds w64 n (pos n)
held none = record { bits = refl; fits = sfits_lit tt }
held some = record { bits = refl; fits = sfits_lit tt }

pub difference_small : {m n : ℕ} → Digit m → Digit n → nat_abs (pos m -ℤ pos n) ≤ 1
difference_small none none = lit≤ tt
difference_small none some = lit≤ tt
difference_small some none = lit≤ tt
difference_small some some = lit≤ tt

pub difference : {m n : ℕ} → Digit m → Digit n → Value w64 (to_z w64 m -ℤ to_z w64 n) (pos m -ℤ pos n)
difference {m} {n} a b = held_sub_to (held a) (held b) refl (small_fits w64 (pos m -ℤ pos n) 1 (difference_small a b) tt)

-- the change by the bits is at most twice the coupling
pub bit_small : (j : ℤ) (x y k : ℕ) → nat_abs j ≤ 1000000 → nat_abs (bit_gain j x y k) ≤ 2000000
bit_small j x y k h =
    mul_small (pos 2 *ℤ j) (pos (y / 2 ^ k % 2) -ℤ pos (x / 2 ^ k % 2)) 2000000 1 (mul_small (pos 2) j 2 1000000 (lit≤ tt) h)
    (difference_small (digit y k) (digit x k))

-- ---- the ends of a bond are unlike where the bit of their exclusive or is set

-- a coupling where the ends are alike, and its negative where not
abbrev signed_by : ℤ → ℕ → ℤ
signed_by j zero = j
signed_by j (suc n) = neg_ℤ j

minus_one : (j : ℤ) → j *ℤ negsuc 0 ≡ neg_ℤ j
unfolding one
minus_one j = *ℤ-negsuc j 0 ∙ ap neg_ℤ (*ℤ-one j)

plus_one : (j : ℤ) → j *ℤ pos 1 ≡ j
unfolding one
plus_one j = *ℤ-one j

twice : (j : ℤ) → pos 2 *ℤ j ≡ j +ℤ j
unfolding one
twice j = suc_ℤ-*ℤ (pos 1) j ∙ ap (λ (z : ℤ). z +ℤ j) (*ℤ_comm (pos 1) j ∙ *ℤ-one j)

unlike : {m n : ℕ} (j : ℤ) → Digit m → Digit n → j *ℤ sign (eqb m 1) *ℤ sign (eqb n 1) ≡ signed_by j (bit_xor m n)
unlike j none none = minus_one (j *ℤ negsuc 0) ∙ (ap neg_ℤ (minus_one j) ∙ neg_ℤ-neg_ℤ j)
unlike j none some = plus_one (j *ℤ negsuc 0) ∙ minus_one j
unlike j some none = minus_one (j *ℤ pos 1) ∙ ap neg_ℤ (plus_one j)
unlike j some some = plus_one (j *ℤ pos 1) ∙ plus_one j

apart : {u v : ℕ} (j : ℤ) → Digit u → Digit v → signed_by j u -ℤ signed_by j v ≡ (pos 2 *ℤ j) *ℤ (pos v -ℤ pos u)
apart j none none = +ℤ_invr j ∙ sym (*ℤ-zero (pos 2 *ℤ j))
apart j none some = ap (λ (z : ℤ). j +ℤ z) (neg_ℤ-neg_ℤ j) ∙ (sym (twice j) ∙ sym (plus_one (pos 2 *ℤ j)))
apart j some none = sym (neg_ℤ-+ℤ j j) ∙ (ap neg_ℤ (sym (twice j)) ∙ sym (minus_one (pos 2 *ℤ j)))
apart j some some = +ℤ_invr (neg_ℤ j) ∙ sym (*ℤ-zero (pos 2 *ℤ j))

xor_bit : (a b k : ℕ) → bit_xor a b / 2 ^ k % 2 ≡ bit_xor (a / 2 ^ k % 2) (b / 2 ^ k % 2)
xor_bit a b k = ap (λ (x : ℕ). x % 2) (xor_shr a b k) ∙ xor_mod (a / 2 ^ k) (b / 2 ^ k) 1

product : (j : ℤ) (a b k : ℕ) → j *ℤ shown a k *ℤ shown b k ≡ signed_by j (bit_xor a b / 2 ^ k % 2)
product j a b k = unlike j (digit a k) (digit b k) ∙ ap (signed_by j) (sym (xor_bit a b k))

pub bits_gain : (j : ℤ) (a a' b b' k : ℕ) → bond_gain j a a' b b' k ≡ bit_gain j (bit_xor a b) (bit_xor a' b') k
bits_gain j a a' b b' k = (λ i. product j a b k i -ℤ product j a' b' k i) ∙ apart j (digit (bit_xor a b) k) (digit (bit_xor a' b') k)

pub bond_small : (j : ℤ) (a a' b b' k : ℕ) → nat_abs j ≤ 1000000 → nat_abs (bond_gain j a a' b b' k) ≤ 2000000
bond_small j a a' b b' k h = rw (bits_gain j a a' b b' k) (bit_small j (bit_xor a b) (bit_xor a' b') k h)

-- ends that are as unlike as they were change nothing
pub bits_same : (j : ℤ) (x y k : ℕ) → x ≡ y → bit_gain j x y k ≡ pos 0
bits_same j x y k e = rw e (ap (λ (z : ℤ). (pos 2 *ℤ j) *ℤ z) (+ℤ_invr (pos (y / 2 ^ k % 2))) ∙ *ℤ-zero (pos 2 *ℤ j))
