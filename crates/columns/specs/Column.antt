-- A site's whole group as one number, its column: bit k is set where member k is +1.
use Rattle.std.specs.Prelude.{ℕ, zero, suc, ◌+◌, ◌-◌, ◌*◌, ◌/◌, ◌%◌, ◌^◌, ◌≤◌, ◌<◌, ◌≡◌, refl, Bool, true, false, cond, List, eqb, ltb, length, get_or, ℤ, pos, negsuc, neg_ℤ}
use Rattle.std.proofs.Common.{sym, ◌∙◌, ap, inl, inr, arith, mul_assoc, pow-suc, zero-add, pow-add, pow_pos}
use Rattle.std.proofs.Math.Decide.{ℕ_discrete}
use Rattle.std.proofs.Math.Nat.{add-mul-div_right, add-mul-mod_self_right, div-eq_of_lt}
use Rattle.lemmas.specs.Ints.{eq_z}
use Rattle.lemmas.specs.Counts.{bit}
use Rattle.paper.specs.declared.Group.{Group}
use Rattle.paper.specs.declared.Mode.{Mode}
use Rattle.paper.specs.declared.Mode.TheVariants.{Houd, Pair, Perm, Gperm, Jorg, Cmr}
use Rattle.paper.specs.Panel.Input.{Pattern, member, pattern_of}
use Rattle.paper.specs.Move.Moving.{partner}
use Rattle.paper.specs.Refusal.Rules.{Spin}

-- the number whose bits below m are f 0, f 1, ..
unfoldable pub code : ℕ → (ℕ → Bool) → ℕ
code zero f = 0
code (suc m) f = code m f + bit (f m) * 2 ^ m

abbrev pub bit_of : ℕ → ℕ → Bool
bit_of x k = eqb (x / 2 ^ k % 2) 1

abbrev pub sign : Bool → ℤ
sign true = pos 1
sign false = negsuc 0

-- the pattern that a column shows, and the column of the first m spins of a pattern
abbrev pub shown : ℕ → Pattern
shown x k = sign (bit_of x k)

abbrev pub is_up : ℤ → Bool
is_up z = eq_z z (pos 1)

abbrev pub column_of : ℕ → Pattern → ℕ
column_of m f = code m (λ k. is_up (f k))

-- what a chosen flip makes of a pattern of m systems; the perm modes take no flip
abbrev pub flipped : Mode → ℕ → Pattern → Pattern
flipped Houd m f k = cond (ltb k (2 * (m / 2))) (neg_ℤ (f k)) (f k)
flipped Pair m f k = f (partner m k)
flipped Perm m f k = f k
flipped Gperm m f k = f k
flipped Jorg m f k = f (partner m k)
flipped Cmr m f k = neg_ℤ (f k)

-- cols has the column of each site's pattern of m spins
pub record Columns (n m : ℕ) (f : ℕ → Pattern) (cols : List ℕ) : Type 0 where
  pub long : length cols ≡ n
  pub at : (i : ℕ) → i < n → get_or cols i 0 ≡ column_of m (f i)

-- each member of the group has its row of n spins within xs
abbrev pub Inside : ℕ → Group → List ℤ → Type 0
Inside n g xs = (k : ℕ) → k < g.len → member g k * n + n ≤ length xs

-- and they are spins
abbrev pub Spinning : ℕ → Group → List ℤ → Type 0
Spinning n g xs = (i k : ℕ) → i < n → k < g.len → Spin (pattern_of n g xs i k)

-- ---- laws

pub code_lt : (m : ℕ) (f : ℕ → Bool) → code m f < 2 ^ m
unfolding code
code_lt zero f = omega arith
code_lt (suc m) f = go (f m) (code_lt m f)
  where
    go : (b : Bool) → code m f < 2 ^ m → code m f + bit b * 2 ^ m < 2 ^ suc m
    go true h = omega arith
    go false h = omega arith

pub code_ext : (m : ℕ) (f g : ℕ → Bool) → ((k : ℕ) → k < m → f k ≡ g k) → code m f ≡ code m g
unfolding code
code_ext zero f g e = refl
code_ext (suc m) f g e = cc (e m (omega arith), code_ext m f g (λ k h. e k (omega arith)))

bit_is : (b : Bool) → eqb (bit b % 2) 1 ≡ b
bit_is true = refl
bit_is false = refl

-- a bit above the place m does not change the bits below it
even : (x b j : ℕ) → (x + b * 2 ^ suc j) % 2 ≡ x % 2
even x b j = rw (pow-suc 2 j, ← mul_assoc b (2 ^ j) 2) (add-mul-mod_self_right x (b * 2 ^ j) 2)

below_high : (x b m k : ℕ) → k < m → (x + b * 2 ^ m) / 2 ^ k % 2 ≡ x / 2 ^ k % 2
below_high x b m k h =
    let s : suc (m - suc k) + k ≡ m = omega arith in
    let e : b * 2 ^ m ≡ b * 2 ^ suc (m - suc k) * 2 ^ k = split s in
    rw (e, add-mul-div_right x (b * 2 ^ suc (m - suc k)) (pow_pos k)) (even (x / 2 ^ k) b (m - suc k))
  where
    split : suc (m - suc k) + k ≡ m → b * 2 ^ m ≡ b * 2 ^ suc (m - suc k) * 2 ^ k
    split s = ap (λ (y : ℕ). b * 2 ^ y) (sym s) ∙ (ap (λ (y : ℕ). b * y) (pow-add 2 (suc (m - suc k)) k) ∙ sym (mul_assoc b (2 ^ suc (m - suc k)) (2 ^ k)))

pub bit_code : (m : ℕ) (f : ℕ → Bool) (k : ℕ) → k < m → bit_of (code m f) k ≡ f k
unfolding code
bit_code zero f k h = absurd (omega arith)
bit_code (suc m) f k h = at (ℕ_discrete k m) (λ (l : k < m). bit_code m f k l)
  where
    at : Dec (k ≡ m) → (k < m → bit_of (code m f) k ≡ f k) → bit_of (code m f + bit (f m) * 2 ^ m) k ≡ f k
    at (yes q) ih = rw (q, add-mul-div_right (code m f) (bit (f m)) (pow_pos m), div-eq_of_lt (code_lt m f), zero-add) (bit_is (f m))
    at (no q) ih = rw (below_high (code m f) (bit (f m)) m k (omega arith)) (ih (omega arith))

up_sign : (z : ℤ) → Spin z → sign (is_up z) ≡ z
up_sign z (inl p) = rw p
up_sign z (inr p) = rw p

-- a column shows the spins that it was made of
pub shown_column : (m : ℕ) (f : Pattern) (k : ℕ) → k < m → Spin (f k) → shown (column_of m f) k ≡ f k
shown_column m f k h s = rw (bit_code m (λ k. is_up (f k)) k h) (up_sign (f k) s)

pub shown_spin : (x k : ℕ) → Spin (shown x k)
shown_spin x k = at (bit_of x k)
  where
    at : (b : Bool) → Spin (sign b)
    at true = inl refl
    at false = inr refl

pub column_lt : (m : ℕ) (f : Pattern) → column_of m f < 2 ^ m
column_lt m f = code_lt m (λ k. is_up (f k))

pub column_ext : (m : ℕ) (f g : Pattern) → ((k : ℕ) → k < m → f k ≡ g k) → column_of m f ≡ column_of m g
column_ext m f g e = code_ext m (λ k. is_up (f k)) (λ k. is_up (g k)) (λ k h. ap is_up (e k h))
