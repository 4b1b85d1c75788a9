-- xoshiro256** as Blackman and Vigna give it, over numbers below 2^64. `x << k` is x * 2^k with what passes 64 bits cut off, `x >> k` is x / 2^k.
use Rattle.std.specs.Prelude.{◌≡◌, ℕ, zero, suc, ◌-◌, ◌*◌, ◌/◌, ◌%◌, ◌^◌, Bool, false, ◌&&◌, ◌==◌, bit_or, bit_xor}
use Rattle.draws.specs.declared.Source.{Source}
use Rattle.draws.specs.Answer.{Drawn}

abbrev pub source : ℕ → ℕ → ℕ → ℕ → Source
source a b c d = record { s0 = a; s1 = b; s2 = c; s3 = d }

-- (x << k) | (x >> (64 - k))
abbrev pub rotl : ℕ → ℕ → ℕ
rotl x k = bit_or (x * 2 ^ k % 2 ^ 64) (x / 2 ^ (64 - k))

-- rotl(s1 * 5, 7) * 9
abbrev pub word : Source → ℕ
word s = rotl (s.s1 * 5 % 2 ^ 64) 7 * 9 % 2 ^ 64

-- t = s1 << 17; s2 ^= s0; s3 ^= s1; s1 ^= s2; s0 ^= s3; s2 ^= t; s3 = rotl(s3, 45)
abbrev pub next : Source → Source
next s =
    let t = s.s1 * 2 ^ 17 % 2 ^ 64 in
    let a = bit_xor s.s2 s.s0 in
    let b = bit_xor s.s3 s.s1 in
    source (bit_xor s.s0 b) (bit_xor s.s1 a) (bit_xor a t) (rotl b 45)

-- the source after k words
unfoldable pub after : ℕ → Source → Source
after zero s = s
after (suc k) s = next (after k s)

-- all four words are 0: nothing is drawn from such a source
abbrev pub is_blank : Source → Bool
is_blank s = s.s0 == 0 && s.s1 == 0 && s.s2 == 0 && s.s3 == 0

abbrev pub Live : Source → Type 0
Live s = is_blank s ≡ false

abbrev pub drawn : ℕ → ℕ → Source → Drawn
drawn r v s = record { refusal = r; value = v; source = s }

-- one word
abbrev pub stepped : Source → Drawn
stepped s = drawn 0 (word s) (next s)
