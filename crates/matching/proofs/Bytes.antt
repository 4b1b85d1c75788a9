-- Steps of the functions on sets: one site's, and a byte with one bit.
use Prim.Native.Nat.{ℕ, ◌+◌, ◌*◌, ◌%◌, ◌^◌, ◌<◌}
use mathlib.Core.Path.{◌≡◌, refl, ◌∙◌}
use mathlib.Core.Bool.{Bool, true, false, not, ◌&&◌}
use native.Mathlib.Omega.{arith}
use borrow.Author.Tests.{eq-eqb, ne_eqb}
use lib.Bits.{bit_and, bit_xor}
use lib.Pow.{shl_exact}
use Rattle.columns.specs.Column.{bit_of}
use Rattle.matching.specs.Bits.{alike, bit_in, repeated, spread_of, and_bit, xor_bit, repeated_bit, spread_bit, all_bit, own_bit}
use Rattle.matching.specs.Sources.{MayCome}

-- a byte with one bit, as it is shifted there
pub shifted : (k : ℕ) → k < 8 → 1 * 2 ^ k % 256 ≡ 2 ^ k
shifted k h = shl_exact {a = 1} 1 k 8 (omega arith) (omega arith) ∙ omega arith

and_true : (x : Bool) → x ≡ (x && true)
and_true true = refl
and_true false = refl

-- where not (not (alike a b)) is written with an exclusive or more
same : (a b : Bool) → not (alike (not (alike a b)) true) ≡ alike a b
same true true = refl
same true false = refl
same false true = refl
same false false = refl

module _ {old new : ℕ} (old-byte : old < 256) (new-byte : new < 256) where
  abbrev shows : ℕ
  shows = bit_xor (bit_xor (repeated old) (spread_of new)) 18446744073709551615

  shows_bit : (k j : ℕ) → k < 8 → j < 8 → bit_in shows k j ≡ alike (bit_of old j) (bit_of new k)
  shows_bit k j hk hj =
      xor_bit (bit_xor (repeated old) (spread_of new)) 18446744073709551615 (8 * k + j)
      ∙ (rw (all_bit k j hk hj, xor_bit (repeated old) (spread_of new) (8 * k + j), repeated_bit old k j old-byte hk hj, spread_bit new k j new-byte hk hj)
      (same (bit_of old j) (bit_of new k)))

  pub may_pinned : {pin : ℕ} → pin ≡ 1 → MayCome old new pin (bit_and shows 9241421688590303745)
  may_pinned {pin} e = record {
    at = λ k j hk hj.
        and_bit shows 9241421688590303745 (8 * k + j) ∙ rw (shows_bit k j hk hj, own_bit k j hk hj, eq-eqb pin 1 e) refl;
  }

  pub may_free : {pin : ℕ} → (pin ≡ 1 → ⊥) → MayCome old new pin shows
  may_free {pin} e = record {
    at = λ k j hk hj. shows_bit k j hk hj ∙ rw (ne_eqb pin 1 e) (and_true (alike (bit_of old j) (bit_of new k)));
  }
