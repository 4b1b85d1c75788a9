-- A column as the sum of eight bits, of which those past the group are none.
use Prim.Native.Nat.{ℕ, zero, suc, ◌+◌, ◌*◌, ◌^◌, ◌≤◌}
use mathlib.Core.Path.{◌≡◌}
use mathlib.Core.Bool.{Bool, true, false, cond}
use native.Mathlib.Omega.{arith}
use lib.Dec.{ltb}
use Rattle.lemmas.specs.Counts.{bit}
use Rattle.columns.specs.Column.{code}
use Rattle.columns.specs.Bits.{bit_times}
use Rattle.columns.specs.Rows.{bit_in}

pub bit_most : (m k : ℕ) (b : Bool) → bit_in m k b ≤ 2 ^ k
bit_most m k b = go (ltb k m)
  where
    go : (t : Bool) → cond t (bit b * 2 ^ k) 0 ≤ 2 ^ k
    go true = bit_times b (2 ^ k)
    go false = omega arith

nine : (P : ℕ → Type 0) → P 0 → P 1 → P 2 → P 3 → P 4 → P 5 → P 6 → P 7 → P 8 → (m : ℕ) → m ≤ 8 → P m
nine P a b c d e f g h i zero l = a
nine P a b c d e f g h i (suc zero) l = b
nine P a b c d e f g h i (suc (suc zero)) l = c
nine P a b c d e f g h i (suc (suc (suc zero))) l = d
nine P a b c d e f g h i (suc (suc (suc (suc zero)))) l = e
nine P a b c d e f g h i (suc (suc (suc (suc (suc zero))))) l = f
nine P a b c d e f g h i (suc (suc (suc (suc (suc (suc zero)))))) l = g
nine P a b c d e f g h i (suc (suc (suc (suc (suc (suc (suc zero))))))) l = h
nine P a b c d e f g h i (suc (suc (suc (suc (suc (suc (suc (suc zero)))))))) l = i
nine P a b c d e f g h i (suc (suc (suc (suc (suc (suc (suc (suc (suc m))))))))) l = absurd (omega arith)

-- the bits as they are added
abbrev Eight : (ℕ → Bool) → ℕ → Type 0
Eight f m =
    bit_in m 0 (f 0) + bit_in m 1 (f 1) + (bit_in m 2 (f 2) + bit_in m 3 (f 3))
    + (bit_in m 4 (f 4) + bit_in m 5 (f 5) + (bit_in m 6 (f 6) + bit_in m 7 (f 7)))
    ≡ code m f

pub eight_bits : (m : ℕ) (f : ℕ → Bool) → m ≤ 8 → Eight f m
unfolding code
eight_bits m f h =
    nine (Eight f) (omega arith) (omega arith) (omega arith) (omega arith) (omega arith) (omega arith) (omega arith) (omega arith) (omega arith) m h

-- a group of two has the first two alone
pub two_bits : (f : ℕ → Bool) → bit_in 2 0 (f 0) + bit_in 2 1 (f 1) ≡ code 2 f
unfolding code
two_bits f = omega arith
