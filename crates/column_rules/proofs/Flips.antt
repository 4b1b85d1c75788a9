-- Flips, worked out on the bits of a byte.
use Prim.Native.Nat.{ℕ, zero, suc, ◌+◌, ◌-◌, ◌*◌, ◌/◌, ◌%◌, ◌^◌, ◌≤◌, ◌<◌}
use mathlib.Core.Path.{◌≡◌, refl, sym, ◌∙◌, ap}
use mathlib.Core.Bool.{Bool, true, false, not, cond, ◌&&◌}
use native.Mathlib.Omega.{arith}
use native.Mathlib.Decide.{ℕ_discrete}
use native.Mathlib.Nat.{mod-eq_of_lt, mod-le, add-zero, add-suc}
use lib.Dec.{eqb, ltb}
use lib.IntN.{ℤ, neg_ℤ}
use lib.Bits.{bit_and}
use lib.Pow.{mod-mod-pow}
use borrow.Author.Tests.{lt-ltb, le-ltb, eqb-true}
use Rattle.lemmas.specs.Bools.{never}
use Rattle.lemmas.specs.Counts.{bit}
use Rattle.paper.specs.declared.Mode.TheVariants.{Houd, Pair, Cmr}
use Rattle.paper.specs.Move.Moving.{other}
use Rattle.columns.specs.Column.{code, bit_code, bit_of, sign, is_up, shown, column_of, column_ext, flipped}
use Rattle.columns.specs.Bits.{bit_value, sign_up}
use Rattle.columns.specs.Bits.{low_more, bits_low, column_low}
use Rattle.column_rules.proofs.Bits.{seen}

-- ---- each pair exchanged, seen of every byte in turn
abbrev exchanged : ℕ → ℕ
exchanged x = 2 * bit_and x 85 + bit_and (x / 2) 85

abbrev right : ℕ → Bool
right x = eqb (exchanged x) (column_of 8 (λ k. shown x (other k)))

every : (ℕ → Bool) → ℕ → Bool
every f zero = true
every f (suc n) = f n && every f n

every_at : (f : ℕ → Bool) (n : ℕ) → every f n ≡ true → (x : ℕ) → x < n → f x ≡ true
unfolding every
every_at f zero e x h = absurd (omega arith)
every_at f (suc n) e x h = go (f n) refl e (ℕ_discrete x n) (λ q. every_at f n q x)
  where
    go : (b : Bool) → f n ≡ b → (b && every f n) ≡ true → Dec (x ≡ n) → (every f n ≡ true → x < n → f x ≡ true) → f x ≡ true
    go true p q (yes r) below = rw r p
    go true p q (no r) below = below q (omega arith)
    go false p q r below = never q

all_right : every right 256 ≡ true
unfolding every code other
all_right = refl

pub exchanged_is : (x : ℕ) → x < 256 → exchanged x ≡ column_of 8 (λ k. shown x (other k))
exchanged_is x h = eqb-true _ _ (every_at right 256 all_right x h)

-- ---- the first c bits of y, and behind them those of x
module _ (y x c : ℕ) where
  abbrev mixed : ℕ → ℤ
  mixed k = cond (ltb k c) (shown y k) (shown x k)

  first : column_of c mixed ≡ y % 2 ^ c
  first = column_ext c mixed (shown y) (λ k h. rw (lt-ltb k c h)) ∙ column_low c y

  behind : (j : ℕ) → bit (is_up (mixed (c + j))) ≡ x / 2 ^ (c + j) % 2
  behind j = rw (le-ltb (c + j) c (omega arith), sign_up (bit_of x (c + j))) (bit_value x (c + j))

  grown : (j : ℕ) → column_of (c + j) mixed + x % 2 ^ c ≡ y % 2 ^ c + x % 2 ^ (c + j)
  unfolding code
  grown zero = rw add-zero (omega (arith, first))
  grown (suc j) = rw (add-suc, behind j) (omega (arith, grown j, low_more x (c + j)))

  pub low_le : (m : ℕ) → c ≤ m → x % 2 ^ c ≤ x % 2 ^ m
  low_le m h =
      let e : m - c + c ≡ m = omega arith in
      rw (← mod-mod-pow x (m - c) c, e) (mod-le (x % 2 ^ m) (2 ^ c))

  pub joined_low : (m : ℕ) → c ≤ m → y % 2 ^ c + (x % 2 ^ m - x % 2 ^ c) ≡ column_of m mixed
  joined_low m h =
      let e : c + (m - c) ≡ m = omega arith in
      let g = rw e at (grown (m - c)) in
      omega (arith, g, low_le m h)

-- ---- each spin negated
code_not : (m : ℕ) (f : ℕ → Bool) → code m (λ k. not (f k)) + code m f + 1 ≡ 2 ^ m
unfolding code
code_not zero f = refl
code_not (suc m) f = go (f m) (code_not m f)
  where
    go : (b : Bool) → code m (λ k. not (f k)) + code m f + 1 ≡ 2 ^ m
        → code m (λ k. not (f k)) + bit (not b) * 2 ^ m + (code m f + bit b * 2 ^ m) + 1 ≡ 2 ^ suc m
    go true e = omega (arith, e)
    go false e = omega (arith, e)

pub opposite : (x k : ℕ) → x < 256 → k < 8 → shown (255 - x) k ≡ neg_ℤ (shown x k)
opposite x k h l = ap sign (ap (λ (y : ℕ). bit_of y k) e ∙ bit_code 8 (λ k. not (bit_of x k)) k l) ∙ turn (bit_of x k)
  where
    e : 255 - x ≡ code 8 (λ k. not (bit_of x k))
    e = omega (arith, code_not 8 (bit_of x), bits_low 8 x, mod-eq_of_lt {n = x} {m = 256} h)

    turn : (b : Bool) → sign (not b) ≡ neg_ℤ (sign b)
    turn true = refl
    turn false = refl

-- ---- the flips of the modes, of a byte x
module _ (m x : ℕ) (few : m ≤ 8) (byte : x < 256) where
  pub flip_houd : column_of m (mixed (255 - x) x (2 * (m / 2))) ≡ column_of m (flipped Houd m (shown x))
  flip_houd = column_ext m _ _ (λ k h. ap (λ (z : ℤ). cond (ltb k (2 * (m / 2))) z (shown x k)) (opposite x k byte (omega (arith, few))))

  pub flip_pair : (y : ℕ) → y ≡ column_of 8 (λ k. shown x (other k)) → column_of m (mixed y x (2 * (m / 2))) ≡ column_of m (flipped Pair m (shown x))
  flip_pair y e = column_ext m _ _ (λ k h. at k (ltb k (2 * (m / 2))) (seen m x y few e k (omega (arith, few))))
    where
      at : (k : ℕ) (t : Bool) → shown y k ≡ shown x (other k) → cond t (shown y k) (shown x k) ≡ shown x (cond t (other k) k)
      at k true q = q
      at k false q = refl

  pub flip_cmr : (255 - x) % 2 ^ m ≡ column_of m (flipped Cmr m (shown x))
  flip_cmr = sym (column_low m (255 - x)) ∙ column_ext m _ _ (λ k h. opposite x k byte (omega (arith, few)))
