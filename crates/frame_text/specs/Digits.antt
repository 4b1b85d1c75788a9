-- Lower-case hexadecimal both ways: what is written reads back, and what is read was so written.
use Rattle.std.specs.Prelude.{ℕ, zero, suc, ◌+◌, ◌-◌, ◌*◌, ◌/◌, ◌%◌, ◌≤◌, ◌<◌, ◌≡◌, refl, ◌⊎◌, Bool, true, false, List, [], ◌∷◌, length, get_or}
use Rattle.std.proofs.Common.{ap, inl, inr, ⊎_elim, arith, lt-ltb, le-ltb}
use Rattle.std.proofs.Math.Decide.{dec_lt}
use Rattle.lemmas.specs.Tells.{Tells}
use Rattle.paper.specs.Answer.Frame.{digit, digit_value, hex, unhex}

-- a to f; 0 to 9 or a to f
abbrev pub Letter : ℕ → Type 0
Letter a = (97 ≤ a) × (a < 103)

abbrev pub Digit : ℕ → Type 0
Digit a = ((48 ≤ a) × (a < 58)) ⊎ Letter a

-- a digit's value
pub record Valued (a r : ℕ) : Type 0 where
  pub is : r ≡ digit_value a
  pub small : r < 16

-- every entry is a digit; every entry is below m
abbrev pub Digits : List ℕ → Type 0
Digits xs = (k : ℕ) → k < length xs → Digit (get_or xs k 0)

abbrev pub Below : ℕ → List ℕ → Type 0
Below m xs = (k : ℕ) → k < length xs → get_or xs k 0 < m

pub below_digits : {a : ℕ} → a < 48 → Digit a → ⊥
below_digits h (inl d) = omega arith
below_digits h (inr d) = omega arith

-- from 58 on a digit is a letter
pub letter_tells : {a : ℕ} (r : Bool) → 58 ≤ a → Tells r (Letter a) → Tells r (Digit a)
letter_tells true l t = inr t
letter_tells false l t = λ d. ⊎_elim (λ w. omega arith) t d

pub digit_low : {a : ℕ} → Digit a → 48 ≤ a
digit_low (inl h) = h.0
digit_low (inr h) = omega arith

pub digit_high : {a : ℕ} → Digit a → a < 103
digit_high (inl h) = omega arith
digit_high (inr h) = h.1

pub letter_low : {a : ℕ} → Digit a → 58 ≤ a → 97 ≤ a
letter_low (inl h) l = absurd (omega arith)
letter_low (inr h) l = h.0

pub value_small : (a : ℕ) → Digit a → digit_value a < 16
value_small a (inl h) = rw (lt-ltb a 58 h.1) (omega arith)
value_small a (inr h) = rw (le-ltb a 58 (omega arith)) (omega arith)

-- a digit's value is written as that digit
pub digit_back : (a : ℕ) → Digit a → digit (digit_value a) ≡ a
digit_back a (inl h) = rw (lt-ltb a 58 h.1, lt-ltb (a - 48) 10 (omega arith)) (omega arith)
digit_back a (inr h) = rw (le-ltb a 58 (omega arith), le-ltb (a - 87) 10 (omega arith)) (omega arith)

pub digit_is : (x : ℕ) → x < 16 → Digit (digit x)
digit_is x h = at (dec_lt x 10)
  where
    at : Dec (x < 10) → Digit (digit x)
    at (yes l) = rw (lt-ltb x 10 l) (inl (omega arith))
    at (no l) = rw (le-ltb x 10 (omega arith)) (inr (omega arith))

-- a value that is written reads back
pub value_back : (x : ℕ) → x < 16 → digit_value (digit x) ≡ x
value_back x h = at (dec_lt x 10)
  where
    at : Dec (x < 10) → digit_value (digit x) ≡ x
    at (yes l) = rw (lt-ltb x 10 l, lt-ltb (48 + x) 58 (omega arith)) (omega arith)
    at (no l) = rw (le-ltb x 10 (omega arith), le-ltb (87 + x) 58 (omega arith)) (omega arith)

pub feed_no_digit : Digit 10 → ⊥
feed_no_digit (inl h) = omega arith
feed_no_digit (inr h) = omega arith

-- ---- whole lists
pub hex_length : (bs : List ℕ) → length (hex bs) ≡ 2 * length bs
unfolding hex
hex_length [] = refl
hex_length (b ∷ bs) = let ih = hex_length bs in omega arith

pub hex_digits : (bs : List ℕ) → Below 256 bs → Digits (hex bs)
unfolding hex
hex_digits [] h k l = absurd (omega arith)
hex_digits (b ∷ bs) h zero l = let s = h 0 (omega arith) in digit_is (b / 16) (omega arith)
hex_digits (b ∷ bs) h (suc zero) l = digit_is (b % 16) (omega arith)
hex_digits (b ∷ bs) h (suc (suc k)) l = hex_digits bs (λ j q. h (suc j) (omega arith)) k (omega arith)

pub unhex_hex : (bs : List ℕ) → Below 256 bs → unhex (hex bs) ≡ bs
unfolding hex unhex
unhex_hex [] h = refl
unhex_hex (b ∷ bs) h =
    let high = value_back (b / 16) (omega (arith, h 0 (omega arith))) in
    let low = value_back (b % 16) (omega arith) in
    rw (high, low, unhex_hex bs (λ j q. h (suc j) (omega arith))) (ap (λ (x : ℕ). x ∷ bs) (omega arith))

pub unhex_length : (ds : List ℕ) (m : ℕ) → length ds ≡ 2 * m → length (unhex ds) ≡ m
unfolding unhex
unhex_length [] m e = omega arith
unhex_length (a ∷ []) m e = absurd (omega arith)
unhex_length (a ∷ (b ∷ r)) zero e = absurd (omega arith)
unhex_length (a ∷ (b ∷ r)) (suc m) e = ap suc (unhex_length r m (omega arith))

pub unhex_at : (ds : List ℕ) (k : ℕ) → 2 * k + 1 < length ds → get_or (unhex ds) k 0 ≡ 16 * digit_value (get_or ds (2 * k) 0) + digit_value (get_or ds (2 * k + 1) 0)
unfolding unhex
unhex_at [] k l = absurd (omega arith)
unhex_at (a ∷ []) k l = absurd (omega arith)
unhex_at (a ∷ (b ∷ r)) zero l = refl
unhex_at (a ∷ (b ∷ r)) (suc k) l = rw (twice k, twice_one k) (unhex_at r k (omega arith))
  where
    twice : (k : ℕ) → 2 * suc k ≡ suc (suc (2 * k))
    twice k = omega arith

    twice_one : (k : ℕ) → suc (suc (2 * k)) + 1 ≡ suc (suc (2 * k + 1))
    twice_one k = omega arith

pub hex_unhex : (ds : List ℕ) (m : ℕ) → length ds ≡ 2 * m → Digits ds → hex (unhex ds) ≡ ds
unfolding hex unhex
hex_unhex [] m e h = refl
hex_unhex (a ∷ []) m e h = absurd (omega arith)
hex_unhex (a ∷ (b ∷ r)) zero e h = absurd (omega arith)
hex_unhex (a ∷ (b ∷ r)) (suc m) e h =
    let rest = hex_unhex r m (omega arith) (λ k l. h (suc (suc k)) (omega arith)) in
    rw (high (digit_value a) (digit_value b) vb, low (digit_value a) (digit_value b) vb, digit_back a da, digit_back b db, rest) refl
  where
    da : Digit a
    da = h 0 (omega arith)

    db : Digit b
    db = h 1 (omega arith)

    vb : digit_value b < 16
    vb = value_small b db

    high : (x y : ℕ) → y < 16 → (16 * x + y) / 16 ≡ x
    high x y l = omega arith

    low : (x y : ℕ) → y < 16 → (16 * x + y) % 16 ≡ y
    low x y l = omega arith

pub unhex_small : (ds : List ℕ) → Digits ds → Below 256 (unhex ds)
unfolding unhex
unhex_small [] h k l = absurd (omega arith)
unhex_small (a ∷ []) h k l = absurd (omega arith)
unhex_small (a ∷ (b ∷ r)) h zero l = omega (arith, value_small a (h 0 (omega arith)), value_small b (h 1 (omega arith)))
unhex_small (a ∷ (b ∷ r)) h (suc k) l = unhex_small r (λ j q. h (suc (suc j)) (omega arith)) k (omega arith)
