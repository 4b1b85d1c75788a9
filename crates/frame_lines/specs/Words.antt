-- Numbers of two bytes and spins of one, both ways.
use Rattle.std.specs.Prelude.{ℕ, zero, suc, ◌+◌, ◌-◌, ◌*◌, ◌/◌, ◌%◌, ◌<◌, ◌≡◌, refl, List, [], ◌∷◌, length, get_or, ℤ, pos, negsuc}
use Rattle.std.proofs.Common.{ap, arith, lt-ltb, le-ltb}
use Rattle.std.specs.Int.Signed.{mag}
use Rattle.paper.specs.Answer.Frame.{words, two_bytes, signed, spin_byte}
use Rattle.frame_text.specs.Digits.{Below}

twice : (k : ℕ) → 2 * suc k ≡ suc (suc (2 * k))
twice k = omega arith

twice_one : (k : ℕ) → suc (suc (2 * k)) + 1 ≡ suc (suc (2 * k + 1))
twice_one k = omega arith

pub words_length : (bs : List ℕ) (m : ℕ) → length bs ≡ 2 * m → length (words bs) ≡ m
unfolding words
words_length [] m e = omega arith
words_length (a ∷ []) m e = absurd (omega arith)
words_length (a ∷ (b ∷ r)) zero e = absurd (omega arith)
words_length (a ∷ (b ∷ r)) (suc m) e = ap suc (words_length r m (omega arith))

pub words_at : (bs : List ℕ) (k : ℕ) → 2 * k + 1 < length bs → get_or (words bs) k 0 ≡ 256 * get_or bs (2 * k) 0 + get_or bs (2 * k + 1) 0
unfolding words
words_at [] k l = absurd (omega arith)
words_at (a ∷ []) k l = absurd (omega arith)
words_at (a ∷ (b ∷ r)) zero l = refl
words_at (a ∷ (b ∷ r)) (suc k) l = rw (twice k, twice_one k) (words_at r k (omega arith))

pub two_bytes_length : (xs : List ℕ) → length (two_bytes xs) ≡ 2 * length xs
unfolding two_bytes
two_bytes_length [] = refl
two_bytes_length (x ∷ xs) = let ih = two_bytes_length xs in omega arith

pub two_bytes_small : (xs : List ℕ) → Below 65536 xs → Below 256 (two_bytes xs)
unfolding two_bytes
two_bytes_small [] h k l = absurd (omega arith)
two_bytes_small (x ∷ xs) h zero l = let s = h 0 (omega arith) in omega arith
two_bytes_small (x ∷ xs) h (suc zero) l = omega arith
two_bytes_small (x ∷ xs) h (suc (suc k)) l = two_bytes_small xs (λ j q. h (suc j) (omega arith)) k (omega arith)

pub two_bytes_high : (xs : List ℕ) (k : ℕ) → k < length xs → get_or (two_bytes xs) (2 * k) 0 ≡ get_or xs k 0 / 256
unfolding two_bytes
two_bytes_high [] k l = absurd (omega arith)
two_bytes_high (x ∷ xs) zero l = refl
two_bytes_high (x ∷ xs) (suc k) l = rw (twice k) (two_bytes_high xs k (omega arith))

pub two_bytes_low : (xs : List ℕ) (k : ℕ) → k < length xs → get_or (two_bytes xs) (2 * k + 1) 0 ≡ get_or xs k 0 % 256
unfolding two_bytes
two_bytes_low [] k l = absurd (omega arith)
two_bytes_low (x ∷ xs) zero l = refl
two_bytes_low (x ∷ xs) (suc k) l = rw (twice k, twice_one k) (two_bytes_low xs k (omega arith))

-- what is written in two bytes reads back
pub words_two_bytes : (xs : List ℕ) → words (two_bytes xs) ≡ xs
unfolding words two_bytes
words_two_bytes [] = refl
words_two_bytes (x ∷ xs) = rw (words_two_bytes xs) (ap (λ (y : ℕ). y ∷ xs) (omega arith))

-- so does a spin, and every signed byte
pub spin_byte_small : (z : ℤ) → mag z < 128 → spin_byte z < 256
spin_byte_small (pos x) h = omega arith
spin_byte_small (negsuc x) h = omega arith

pub signed_spin_byte : (z : ℤ) → mag z < 128 → signed (spin_byte z) ≡ z
signed_spin_byte (pos x) h = rw (lt-ltb x 128 h) refl
signed_spin_byte (negsuc x) h = rw (le-ltb (255 - x) 128 (omega arith)) (ap negsuc (omega arith))
