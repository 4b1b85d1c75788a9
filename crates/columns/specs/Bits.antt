-- The bits of columns: one place more, what a shift reads, and the number that holds all of them.
use Rattle.std.specs.Prelude.{ℕ, zero, suc, ◌+◌, ◌-◌, ◌*◌, ◌/◌, ◌%◌, ◌^◌, ◌≤◌, ◌<◌, ◌≡◌, refl, Bool, true, false, eqb, neg_ℤ}
use Rattle.std.proofs.Common.{sym, ◌∙◌, ap, arith, add-one, mod-lt, mod-eq_of_lt, lt_of_lt_of_le, pow_mono, shl_exact}
use Rattle.std.proofs.Math.Nat.{mod-one}
use Rattle.std.proofs.lemmas.Nat.{mod-pow-add}
use Rattle.lemmas.specs.Counts.{bit}
use Rattle.columns.specs.Column.{code, code_lt, code_ext, bit_of, sign, shown, is_up, column_of}

-- a code with one place more
pub code_none : (f : ℕ → Bool) → code 0 f ≡ 0
unfolding code
code_none f = refl

pub code_more : (m : ℕ) (f : ℕ → Bool) → code (m + 1) f ≡ code m f + bit (f m) * 2 ^ m
unfolding code
code_more m f = rw add-one

pub sign_up : (b : Bool) → is_up (sign b) ≡ b
sign_up true = refl
sign_up false = refl

-- the bit k of x as a number, which is what a shift and a remainder compute
pub bit_value : (x k : ℕ) → bit (bit_of x k) ≡ x / 2 ^ k % 2
bit_value x k = at (x / 2 ^ k % 2) (mod-lt (x / 2 ^ k) (omega arith))
  where
    at : (y : ℕ) → y < 2 → bit (eqb y 1) ≡ y
    at zero h = refl
    at (suc zero) h = refl
    at (suc (suc y)) h = absurd (omega arith)

pub shown_value : (x k : ℕ) → bit (is_up (shown x k)) ≡ x / 2 ^ k % 2
shown_value x k = rw sign_up (bit_value x k)

-- and of the negated spin
pub negated_value : (x k : ℕ) → bit (is_up (neg_ℤ (shown x k))) ≡ 1 - x / 2 ^ k % 2
negated_value x k = other (bit_of x k) ∙ ap (λ (y : ℕ). 1 - y) (bit_value x k)
  where
    other : (b : Bool) → bit (is_up (neg_ℤ (sign b))) ≡ 1 - bit b
    other true = refl
    other false = refl

pub bit_times : (b : Bool) (x : ℕ) → bit b * x ≤ x
bit_times true x = omega arith
bit_times false x = omega arith

-- a column of at most eight places is a byte
pub code_byte : (m : ℕ) (f : ℕ → Bool) → m ≤ 8 → code m f < 256
code_byte m f h = lt_of_lt_of_le (code_lt m f) (pow_mono h)

-- and so with one place more, where b is its bit, shifted there
pub code_step : (k : ℕ) (f : ℕ → Bool) (x b : ℕ) → k < 8 → x ≡ code k f → b ≡ bit (f k) → x + b * 2 ^ k % 256 ≡ code (k + 1) f
code_step k f x b h e eb = rw (shl_exact {a = b} 1 k 8 (rw eb (bit_lt (f k))) (omega arith), e, eb, code_more)
  where
    bit_lt : (t : Bool) → bit t < 2
    bit_lt true = omega arith
    bit_lt false = omega arith

-- ---- the first bits of a byte

-- one bit more
pub low_more : (x m : ℕ) → x % 2 ^ suc m ≡ x / 2 ^ m % 2 * 2 ^ m + x % 2 ^ m
low_more x m = ap (λ (e : ℕ). x % 2 ^ e) (omega arith) ∙ mod-pow-add x 1 m

pub bits_low : (m x : ℕ) → code m (bit_of x) ≡ x % 2 ^ m
unfolding code
bits_low zero x = sym (mod-one x)
bits_low (suc m) x = rw (bits_low m x, bit_value x m) (omega (arith, low_more x m))

-- the column of what a byte shows is its first bits
pub column_low : (m x : ℕ) → column_of m (shown x) ≡ x % 2 ^ m
column_low m x = code_ext m _ (bit_of x) (λ k h. sign_up (bit_of x k)) ∙ bits_low m x

-- so a column of m members is the column of what it shows
pub column_same : (m x : ℕ) → x < 2 ^ m → column_of m (shown x) ≡ x
column_same m x h = column_low m x ∙ mod-eq_of_lt h
