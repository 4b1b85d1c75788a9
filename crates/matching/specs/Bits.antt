-- Bits of bytes under `&`, `^` and shifts.
use Rattle.std.specs.Prelude.{ℕ, zero, suc, ◌+◌, ◌-◌, ◌*◌, ◌/◌, ◌%◌, ◌^◌, ◌≤◌, ◌<◌, ◌≡◌, refl, Bool, true, false, not, ◌&&◌, ◌||◌, eqb, ltb}
use Rattle.std.proofs.Common.{sym, ◌∙◌, ap, ap₂, arith, div-add-mod', div-one, mod-lt, mul_comm, pow-suc, lt-ltb, pow-add}
use Rattle.std.proofs.Math.Nat.{div-div-eq-div-mul, zero-div}
use Rattle.std.specs.Int.Count.{count_trailing_zeros, under}
use Rattle.std.specs.Int.Bits.{bit_and, bit_xor}
use Rattle.std.proofs.lemmas.Nat.{and_shr, and_mod, and_mask, xor_shr, xor_mod}
use Rattle.lemmas.specs.Bools.{never, every, every_is}
use Rattle.lemmas.specs.Counts.{bit}
use Rattle.columns.specs.Column.{bit_of}
use Rattle.columns.specs.Bits.{bit_value}

-- two truth values are the same
abbrev pub alike : Bool → Bool → Bool
alike true b = b
alike false b = not b

and_bits : (a b : Bool) → eqb (bit_and (bit a) (bit b)) 1 ≡ (a && b)
and_bits true true = refl
and_bits true false = refl
and_bits false true = refl
and_bits false false = refl

xor_bits : (a b : Bool) → eqb (bit_xor (bit a) (bit b)) 1 ≡ not (alike a b)
xor_bits true true = refl
xor_bits true false = refl
xor_bits false true = refl
xor_bits false false = refl

pub and_bit : (x y j : ℕ) → bit_of (bit_and x y) j ≡ (bit_of x j && bit_of y j)
and_bit x y j =
    ap (λ (z : ℕ). eqb z 1)
    (ap (λ (z : ℕ). z % 2) (and_shr x y j) ∙ (and_mod (x / 2 ^ j) (y / 2 ^ j) 1 ∙ ap₂ bit_and (sym (bit_value x j)) (sym (bit_value y j))))
    ∙ and_bits (bit_of x j) (bit_of y j)

pub xor_bit : (x y j : ℕ) → bit_of (bit_xor x y) j ≡ not (alike (bit_of x j) (bit_of y j))
xor_bit x y j =
    ap (λ (z : ℕ). eqb z 1)
    (ap (λ (z : ℕ). z % 2) (xor_shr x y j) ∙ (xor_mod (x / 2 ^ j) (y / 2 ^ j) 1 ∙ ap₂ bit_xor (sym (bit_value x j)) (sym (bit_value y j))))
    ∙ xor_bits (bit_of x j) (bit_of y j)

-- ---- bytes with one bit, with all, with the first m, and with none

same_bit : (x y : Bool) → alike x y ≡ true → x ≡ y
same_bit true true e = refl
same_bit true false e = sym e
same_bit false true e = e
same_bit false false e = refl

abbrev one_test : ℕ → ℕ → Bool
one_test k j = alike (bit_of (2 ^ k) j) (eqb j k)

abbrev top_test : ℕ → ℕ → Bool
top_test m j = alike (bit_of (2 ^ m - 1) j) (ltb j m)

-- a test of two numbers below b, made for all of them
pub both_below : (b : ℕ) (f : ℕ → ℕ → Bool) → every b (λ k. every b (f k)) ≡ true → (k j : ℕ) → k < b → j < b → f k j ≡ true
both_below b f e k j hk hj = every_is b (f k) (every_is b (λ k. every b (f k)) e k hk) j hj

pub one_bit : (k j : ℕ) → k < 8 → j < 8 → bit_of (2 ^ k) j ≡ eqb j k
unfolding every
one_bit k j hk hj = same_bit (bit_of (2 ^ k) j) (eqb j k) (both_below 8 one_test refl k j hk hj)

pub top_bit : (m j : ℕ) → m < 9 → j < 9 → bit_of (2 ^ m - 1) j ≡ ltb j m
unfolding every
top_bit m j hm hj = same_bit (bit_of (2 ^ m - 1) j) (ltb j m) (both_below 9 top_test refl m j hm hj)

pub full_bit : (j : ℕ) → j < 8 → bit_of 255 j ≡ true
full_bit j h = top_bit 8 j (omega arith) (omega arith) ∙ lt-ltb j 8 h

and_true : (x : Bool) → (x && true) ≡ x
and_true true = refl
and_true false = refl

pub no_bit : (j : ℕ) → bit_of 0 j ≡ false
no_bit j = ap (λ (x : ℕ). eqb (x % 2) 1) (zero-div (2 ^ j))

-- a byte without bits is 0
pub some_bit : (x j : ℕ) → bit_of x j ≡ true → 0 < x
some_bit zero j e = never (sym (no_bit j) ∙ e)
some_bit (suc x) j e = omega arith

-- ---- eight bytes in one number

-- bit j of byte k
abbrev pub bit_in : ℕ → ℕ → ℕ → Bool
bit_in x k j = bit_of x (8 * k + j)

abbrev pub byte_of : ℕ → ℕ → ℕ
byte_of x k = x / 2 ^ (8 * k) % 256

-- every byte is x
abbrev pub repeated : ℕ → ℕ
repeated x = x * 72340172838076673

-- byte k is 255 where x has bit k, and else 0
abbrev pub spread_of : ℕ → ℕ
spread_of x = bit_and ((bit_and (repeated x) 9241421688590303745 + 9187201950435737471) / 2 ^ 7) 72340172838076673 * 255

-- a test of a byte and of a bit of eight bytes, made for all of them
abbrev byte_test : (ℕ → ℕ → ℕ → Bool) → Bool
byte_test f = every 256 (λ x. every 8 (λ k. every 8 (f x k)))

all_bytes : (f : ℕ → ℕ → ℕ → Bool) → byte_test f ≡ true → (x k j : ℕ) → x < 256 → k < 8 → j < 8 → f x k j ≡ true
all_bytes f e x k j hx hk hj = both_below 8 (f x) (every_is 256 (λ x. every 8 (λ k. every 8 (f x k))) e x hx) k j hk hj

pub repeated_bit : (x k j : ℕ) → x < 256 → k < 8 → j < 8 → bit_in (repeated x) k j ≡ bit_of x j
unfolding every
repeated_bit x k j hx hk hj = same_bit _ _ (all_bytes (λ x k j. alike (bit_in (repeated x) k j) (bit_of x j)) refl x k j hx hk hj)

pub spread_bit : (x k j : ℕ) → x < 256 → k < 8 → j < 8 → bit_in (spread_of x) k j ≡ bit_of x k
unfolding every
spread_bit x k j hx hk hj = same_bit _ _ (all_bytes (λ x k j. alike (bit_in (spread_of x) k j) (bit_of x k)) refl x k j hx hk hj)

-- a bit of a byte of it
low_bit : (x j : ℕ) → j < 8 → bit_of (x % 256) j ≡ bit_of x j
low_bit x j h =
    ap (λ (y : ℕ). bit_of y j) (sym (and_mask x 8))
    ∙ (and_bit x 255 j ∙ (ap (λ (b : Bool). bit_of x j && b) (full_bit j h) ∙ and_true (bit_of x j)))

high_bit : (x a j : ℕ) → bit_of (x / 2 ^ a) j ≡ bit_of x (a + j)
high_bit x a j = ap (λ (y : ℕ). eqb (y % 2) 1) (div-div-eq-div-mul x (2 ^ a) (2 ^ j) ∙ ap (λ (y : ℕ). x / y) (sym (pow-add 2 a j)))

pub byte_bit : (x k j : ℕ) → j < 8 → bit_of (byte_of x k) j ≡ bit_in x k j
byte_bit x k j h = low_bit (x / 2 ^ (8 * k)) j h ∙ high_bit x (8 * k) j

-- all bits, those of each byte that are its own, and these of the first m bytes
pub all_bit : (k j : ℕ) → k < 8 → j < 8 → bit_in 18446744073709551615 k j ≡ true
unfolding every
all_bit k j hk hj = both_below 8 (bit_in 18446744073709551615) refl k j hk hj

pub own_bit : (k j : ℕ) → k < 8 → j < 8 → bit_in 9241421688590303745 k j ≡ eqb j k
unfolding every
own_bit k j hk hj = same_bit _ _ (both_below 8 (λ k j. alike (bit_in 9241421688590303745 k j) (eqb j k)) refl k j hk hj)

abbrev own_test : ℕ → ℕ → ℕ → Bool
own_test m k j = not (ltb 1 m) || alike (bit_in (bit_and 9241421688590303745 (18446744073709551615 / 2 ^ (64 - 8 * m))) k j) (eqb j k && ltb k m)

pub own_first : (m k j : ℕ) → 2 ≤ m → m < 9 → k < 8 → j < 8
    → bit_in (bit_and 9241421688590303745 (18446744073709551615 / 2 ^ (64 - 8 * m))) k j ≡ (eqb j k && ltb k m)
unfolding every
own_first m k j low high hk hj =
    same_bit _ _
    (rw (lt-ltb 1 m (omega arith)) at (both_below 8 (own_test m) (every_is 9 (λ m. every 8 (λ k. every 8 (own_test m k))) refl m high) k j hk hj))

-- ---- the lowest bit

half_bit : (x j : ℕ) → bit_of x (suc j) ≡ bit_of (x / 2) j
half_bit x j = ap (λ (y : ℕ). eqb (y % 2) 1) (ap (λ (y : ℕ). x / y) (pow-suc 2 j ∙ mul_comm (2 ^ j) 2) ∙ sym (div-div-eq-div-mul x 2 (2 ^ j)))

pub trailing_low : (d x j : ℕ) → j < count_trailing_zeros d x → bit_of x j ≡ false
unfolding count_trailing_zeros
trailing_low zero x j h = absurd (omega arith)
trailing_low (suc d) x j h = go (x % 2) refl j h (λ i l. trailing_low d (x / 2) i l)
  where
    go :
        (r : ℕ) → x % 2 ≡ r → (j : ℕ) → j < under r (count_trailing_zeros d (x / 2)) → ((i : ℕ) → i < count_trailing_zeros d (x / 2) → bit_of (x / 2) i ≡ false)
        → bit_of x j ≡ false
    go zero e zero l ih = ap (λ (y : ℕ). eqb (y % 2) 1) (div-one x) ∙ ap (λ (y : ℕ). eqb y 1) e
    go zero e (suc j) l ih = half_bit x j ∙ ih j (omega arith)
    go (suc r) e j l ih = absurd (omega arith)

-- it stands at one of the d places, and is set
pub record Lowest (d x r : ℕ) : Type 0 where
  pub place : r < d
  pub set : bit_of x r ≡ true
  pub none_below : (j : ℕ) → j < r → bit_of x j ≡ false

abbrev SetAt : ℕ → ℕ → ℕ → Type 0
SetAt d x r = (r < d) × (bit_of x r ≡ true)

trailing_set : (d x : ℕ) → 0 < x → x < 2 ^ d → SetAt d x (count_trailing_zeros d x)
unfolding count_trailing_zeros
trailing_set zero x low high = absurd (omega arith)
trailing_set (suc d) x low high = go (x % 2) refl (λ l h. trailing_set d (x / 2) l h)
  where
    go :
        (r : ℕ) → x % 2 ≡ r → (0 < x / 2 → x / 2 < 2 ^ d → SetAt d (x / 2) (count_trailing_zeros d (x / 2)))
        → SetAt (suc d) x (under r (count_trailing_zeros d (x / 2)))
    go zero e ih =
        let w = ih (omega (arith, div-add-mod' x 2)) (omega (arith, div-add-mod' x 2, pow-suc 2 d)) in
        (omega (arith, w.0), half_bit x (count_trailing_zeros d (x / 2)) ∙ w.1)
    go (suc zero) e ih = (omega arith, ap (λ (y : ℕ). eqb (y % 2) 1) (div-one x) ∙ ap (λ (y : ℕ). eqb y 1) e)
    go (suc (suc r)) e ih = let h : x % 2 < 2 = mod-lt x (omega arith) in absurd (omega arith)

pub trailing_lowest : (d x : ℕ) → 0 < x → x < 2 ^ d → Lowest d x (count_trailing_zeros d x)
trailing_lowest d x low high =
    let w = trailing_set d x low high in
    record { place = w.0; set = w.1; none_below = λ j h. trailing_low d x j h }
