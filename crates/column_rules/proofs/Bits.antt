-- The first bits of a byte: the number that they make, and the rules worked out on it.
use Prim.Native.Nat.{ℕ, zero, suc, ◌+◌, ◌*◌, ◌/◌, ◌%◌, ◌^◌, ◌≤◌, ◌<◌}
use mathlib.Core.Path.{◌≡◌, refl, sym, ◌∙◌, ap}
use mathlib.Core.Bool.{Bool, true, false, not, ◌&&◌}
use native.Mathlib.Omega.{arith}
use native.Mathlib.Decide.{ℕ_discrete}
use native.Mathlib.Nat.{mod-one, mod-lt, mod-eq_of_lt}
use native.Mathlib.Numerals.{add-one}
use lib.Dec.{eqb}
use lib.Count.{ones, ones_in, ones_cat}
use lib.IntN.{ℤ, pos, nat_abs, ◌+ℤ◌, ◌-ℤ◌, +ℤ_idl, +ℤ_invr, +ℤ-neg_ℤ_cancel, pos-+ℤ-pos}
use lib.Pow.{pow_pos}
use borrow.Author.Tests.{eq-eqb, ne_eqb}
use Rattle.lemmas.specs.Bools.{never}
use Rattle.lemmas.specs.Ints.{eq_z, same_is, eq_z_no}
use Rattle.lemmas.specs.Sums.{sum, interchange}
use Rattle.paper.specs.Panel.Input.{Pattern}
use Rattle.paper.specs.Site.Acting.{differs, pair_differs}
use Rattle.paper.specs.Move.Moving.{other}
use Rattle.laws.specs.Patterns.{differs_no, no_differs, other_first}
use Rattle.laws.specs.Partners.{pairs_fit, partner_in, partner_same}
use Rattle.columns.specs.Column.{bit_of, sign, shown, column_of, shown_column, shown_spin, column_ext}
use Rattle.columns.specs.Bits.{low_more, column_low}

-- so these are equal just where the bytes show the same
module _ (m x y : ℕ) where
  pub low_shown : x % 2 ^ m ≡ y % 2 ^ m → (k : ℕ) → k < m → shown x k ≡ shown y k
  low_shown e k h =
      sym (shown_column m (shown x) k h (shown_spin x k))
      ∙ (ap (λ (z : ℕ). shown z k) (column_low m x ∙ (e ∙ sym (column_low m y))) ∙ shown_column m (shown y) k h (shown_spin y k))

  pub shown_low : ((k : ℕ) → k < m → shown x k ≡ shown y k) → x % 2 ^ m ≡ y % 2 ^ m
  shown_low e = sym (column_low m x) ∙ (column_ext m (shown x) (shown y) e ∙ column_low m y)

-- a test that two numbers are not equal
differ : (a b : ℕ) (t : Bool) → (a ≡ b → t ≡ false) → (t ≡ false → a ≡ b) → not (eqb a b) ≡ t
differ a b true p q = ap not (ne_eqb a b (λ e. never (sym (p e))))
differ a b false p q = ap not (eq-eqb a b (q refl))

-- ---- pairs: y is x with its pairs exchanged
no_pair : (m : ℕ) (f : Pattern) → ((i : ℕ) → i < m → f (2 * i) ≡ f (2 * i + 1)) → pair_differs m f ≡ false
unfolding pair_differs
no_pair zero f e = refl
no_pair (suc m) f e = rw (same_is (f (2 * m)) (f (2 * m + 1)) (e m (omega arith))) (no_pair m f (λ i h. e i (omega arith)))

module _ (m x y : ℕ) (few : m ≤ 8) (turned : y ≡ column_of 8 (λ k. shown x (other k))) where
  pub seen : (k : ℕ) → k < 8 → shown y k ≡ shown x (other k)
  seen k h = rw turned (shown_column 8 (λ k. shown x (other k)) k h (shown_spin x (other k)))

  pub pair_low : not (eqb (y % 2 ^ (2 * (m / 2))) (x % 2 ^ (2 * (m / 2)))) ≡ pair_differs (m / 2) (shown x)
  pair_low = differ _ _ (pair_differs (m / 2) (shown x)) agree exchange
    where
      agree : y % 2 ^ (2 * (m / 2)) ≡ x % 2 ^ (2 * (m / 2)) → pair_differs (m / 2) (shown x) ≡ false
      agree e =
          no_pair (m / 2) (shown x)
          (λ i h. sym (low_shown (2 * (m / 2)) y x e (2 * i) (omega arith)) ∙ (seen (2 * i) (omega (arith, pairs_fit m, few)) ∙ ap (shown x) (other_first i)))

      exchange : pair_differs (m / 2) (shown x) ≡ false → y % 2 ^ (2 * (m / 2)) ≡ x % 2 ^ (2 * (m / 2))
      exchange e =
          shown_low (2 * (m / 2)) y x
          (λ k h. seen k (omega (arith, pairs_fit m, few)) ∙ (ap (shown x) (sym (partner_in m k h)) ∙ partner_same m (shown x) e k))

-- ---- all equal: the bits are those of 0 or of 255
eight : (P : ℕ → Type 0) → P 0 → P 1 → P 2 → P 3 → P 4 → P 5 → P 6 → P 7 → (k : ℕ) → k < 8 → P k
eight P a b c d e f g h zero l = a
eight P a b c d e f g h (suc zero) l = b
eight P a b c d e f g h (suc (suc zero)) l = c
eight P a b c d e f g h (suc (suc (suc zero))) l = d
eight P a b c d e f g h (suc (suc (suc (suc zero)))) l = e
eight P a b c d e f g h (suc (suc (suc (suc (suc zero))))) l = f
eight P a b c d e f g h (suc (suc (suc (suc (suc (suc zero)))))) l = g
eight P a b c d e f g h (suc (suc (suc (suc (suc (suc (suc zero))))))) l = h
eight P a b c d e f g h (suc (suc (suc (suc (suc (suc (suc (suc k)))))))) l = absurd (omega arith)

none_up : (k : ℕ) → k < 8 → shown 0 k ≡ sign false
none_up = eight (λ k. shown 0 k ≡ sign false) refl refl refl refl refl refl refl refl

all_up : (k : ℕ) → k < 8 → shown 255 k ≡ sign true
all_up = eight (λ k. shown 255 k ≡ sign true) refl refl refl refl refl refl refl refl

and_off : (a : Bool) → (a && false) ≡ false
and_off true = refl
and_off false = refl

module _ (m x : ℕ) (few : m ≤ 8) where
  -- the bits of a byte z whose spins are all b
  alike : (z : ℕ) (b : Bool) → ((k : ℕ) → k < 8 → shown z k ≡ sign b) → x % 2 ^ m ≡ z % 2 ^ m → differs m (shown x) ≡ false
  alike z b all e = no_differs m (shown x) (λ k h. at k h ∙ sym (at 0 (omega (arith, h))))
    where
      at : (k : ℕ) → k < m → shown x k ≡ sign b
      at k h = low_shown m x z e k h ∙ all k (omega (arith, few))

  -- a byte whose spins are all b has the bits of z
  bits_of : (z : ℕ) (b : Bool) → ((k : ℕ) → k < 8 → shown z k ≡ sign b) → differs m (shown x) ≡ false → bit_of x 0 ≡ b → x % 2 ^ m ≡ z % 2 ^ m
  bits_of z b all e q = shown_low m x z (λ k h. differs_no m (shown x) e k h ∙ (ap sign q ∙ sym (all k (omega (arith, few)))))

  none : 0 % 2 ^ m ≡ 0
  none = mod-eq_of_lt (pow_pos m)

  pub differs_low : (not (eqb (x % 2 ^ m) 0) && not (eqb (x % 2 ^ m) (255 % 2 ^ m))) ≡ differs m (shown x)
  differs_low = go (differs m (shown x)) refl
    where
      equal : differs m (shown x) ≡ false → (b : Bool) → bit_of x 0 ≡ b → (not (eqb (x % 2 ^ m) 0) && not (eqb (x % 2 ^ m) (255 % 2 ^ m))) ≡ false
      equal e true q = rw (eq-eqb _ _ (bits_of 255 true all_up e q)) (and_off (not (eqb (x % 2 ^ m) 0)))
      equal e false q = rw (eq-eqb _ _ (bits_of 0 false none_up e q ∙ none))

      go : (t : Bool) → differs m (shown x) ≡ t → (not (eqb (x % 2 ^ m) 0) && not (eqb (x % 2 ^ m) (255 % 2 ^ m))) ≡ t
      go true e =
          rw (
            ne_eqb (x % 2 ^ m) 0 (λ q. never (sym (alike 0 false none_up (q ∙ sym none)) ∙ e)),
            ne_eqb (x % 2 ^ m) (255 % 2 ^ m) (λ q. never (sym (alike 255 true all_up q) ∙ e)),
          )
      go false e = equal e (bit_of x 0) refl

-- ---- the sum of the spins: twice the set bits, less their number
ones_bit : (b : ℕ) → b < 2 → ones b ≡ b
unfolding ones ones_in
ones_bit zero h = refl
ones_bit (suc zero) h = refl
ones_bit (suc (suc b)) h = absurd (omega arith)

ones_more : (x m : ℕ) → ones (x % 2 ^ suc m) ≡ x / 2 ^ m % 2 + ones (x % 2 ^ m)
ones_more x m =
    ap ones (low_more x m)
    ∙ (ones_cat m (x / 2 ^ m % 2) (x % 2 ^ m) (mod-lt x (pow_pos m))
    ∙ ap (λ (y : ℕ). y + ones (x % 2 ^ m)) (ones_bit (x / 2 ^ m % 2) (mod-lt (x / 2 ^ m) (omega arith))))

spin_more : (x m : ℕ) → shown x m +ℤ pos 1 ≡ pos (2 * (x / 2 ^ m % 2))
spin_more x m = at (x / 2 ^ m % 2) (mod-lt (x / 2 ^ m) (omega arith))
  where
    at : (b : ℕ) → b < 2 → sign (eqb b 1) +ℤ pos 1 ≡ pos (2 * b)
    at zero h = refl
    at (suc zero) h = refl
    at (suc (suc b)) h = absurd (omega arith)

sum_ones : (m x : ℕ) → sum m (shown x) +ℤ pos m ≡ pos (2 * ones (x % 2 ^ m))
unfolding sum ones ones_in
sum_ones zero x = sym (ap (λ (y : ℕ). pos (2 * ones y)) (mod-one x))
sum_ones (suc m) x =
    ap (λ (z : ℤ). (sum m (shown x) +ℤ shown x m) +ℤ z) (sym (pos-+ℤ-pos m 1 ∙ ap pos (add-one m)))
    ∙ (interchange (sum m (shown x)) (shown x m) (pos m) (pos 1)
    ∙ ((λ i. sum_ones m x i +ℤ spin_more x m i)
    ∙ (pos-+ℤ-pos (2 * ones (x % 2 ^ m)) (2 * (x / 2 ^ m % 2)) ∙ ap pos (omega (arith, ones_more x m)))))

pub houd_low : (m x : ℕ) → eqb (2 * ones (x % 2 ^ m)) m ≡ eq_z (sum m (shown x)) (pos 0)
houd_low m x = go (ℕ_discrete (2 * ones (x % 2 ^ m)) m)
  where
    go : Dec (2 * ones (x % 2 ^ m) ≡ m) → eqb (2 * ones (x % 2 ^ m)) m ≡ eq_z (sum m (shown x)) (pos 0)
    go (yes e) =
        let z : sum m (shown x) ≡ pos 0 =
        sym (+ℤ-neg_ℤ_cancel (sum m (shown x)) (pos m)) ∙ (ap (λ (z : ℤ). z -ℤ pos m) (sum_ones m x ∙ ap pos e) ∙ +ℤ_invr (pos m))
        in
        eq-eqb (2 * ones (x % 2 ^ m)) m e ∙ sym (same_is (sum m (shown x)) (pos 0) z)
    go (no n) =
        ne_eqb (2 * ones (x % 2 ^ m)) m n
        ∙ sym (eq_z_no (sum m (shown x)) (pos 0)
        (λ (z : sum m (shown x) ≡ pos 0). n (ap nat_abs (sym (sum_ones m x) ∙ (ap (λ (y : ℤ). y +ℤ pos m) z ∙ +ℤ_idl (pos m))))))
