-- Jörg's sum over the pairs of two columns, taken from the lowest bits up.
use Prim.Native.Nat.{ℕ, zero, suc, ◌+◌, ◌*◌, ◌/◌, ◌%◌, ◌^◌, ◌≤◌}
use mathlib.Core.Path.{◌≡◌, sym, ◌∙◌, ap}
use mathlib.Core.Bool.{Bool, true, false, not, cond, ◌&&◌}
use native.Mathlib.Nat.{add-zero, div-one}
use native.Mathlib.Numerals.{add-one}
use native.Mathlib.Omega.{arith}
use lib.Dec.{eqb, lit≤}
use lib.IntN.{ℤ, pos, nat_abs, ◌+ℤ◌, ◌*ℤ◌}
use lib.Pow.{shr-shr}
use Rattle.lemmas.specs.Ints.{eq_z, abs_add}
use Rattle.lemmas.specs.Sums.{sum}
use Rattle.paper.specs.Site.Bonds.{pair_term}
use Rattle.columns.specs.Column.{sign, bit_of, shown}
use Rattle.bonds.proofs.Bits.{product}

-- the column without its first k pairs
abbrev pub past : ℕ → ℕ → ℕ
past x k = x / 2 ^ (2 * k)

pub past_none : (x : ℕ) → x ≡ past x 0
past_none x = sym (div-one x)

pub past_more : (x k : ℕ) → past x k / 4 ≡ past x (k + 1)
past_more x k = shr-shr x (2 * k) 2 ∙ ap (λ (e : ℕ). x / 2 ^ e) (omega arith)

shown_past : (x k i : ℕ) → shown (past x k) i ≡ shown x (2 * k + i)
shown_past x k i = ap (λ (y : ℕ). sign (eqb (y % 2) 1)) (shr-shr x (2 * k) i)

shown_first : (x k : ℕ) → shown (past x k) 0 ≡ shown x (2 * k)
shown_first x k = shown_past x k 0 ∙ ap (shown x) (add-zero (2 * k))

pub term_past : (a b k : ℕ) → pair_term (shown (past a k)) (shown (past b k)) 0 ≡ pair_term (shown a) (shown b) k
term_past a b k =
    λ i. cond (not (eq_z (shown_first a k i) (shown_past a k 1 i)) && not (eq_z (shown_first b k i) (shown_past b k 1 i)))
    (shown_first a k i *ℤ shown_first b k i)
    (pos 0)

-- ---- sizes
sign_small : (p : Bool) → nat_abs (sign p) ≤ 1
sign_small true = lit≤ tt
sign_small false = lit≤ tt

one_or_none : (t p q : Bool) → nat_abs (cond t (sign p *ℤ sign q) (pos 0)) ≤ 1
one_or_none true p q = rw (product p q) (sign_small (eq_z (sign p) (sign q)))
one_or_none false p q = lit≤ tt

pub sum_more : (f : ℕ → ℤ) (m : ℕ) → sum m f +ℤ f m ≡ sum (m + 1) f
unfolding sum
sum_more f m = rw add-one

sum_bound : (f : ℕ → ℤ) (m : ℕ) → ((k : ℕ) → nat_abs (f k) ≤ 1) → nat_abs (sum m f) ≤ m
unfolding sum
sum_bound f zero h = omega arith
sum_bound f (suc m) h = omega (arith, sum_bound f m h, abs_add (sum m f) (f m), h m)

pub pairs_small : (a b m : ℕ) → nat_abs (sum m (pair_term (shown a) (shown b))) ≤ m
pairs_small a b m = sum_bound (pair_term (shown a) (shown b)) m (λ k. one_or_none (both k) (bit_of a (2 * k)) (bit_of b (2 * k)))
  where
    both : ℕ → Bool
    both k = not (eq_z (shown a (2 * k)) (shown a (2 * k + 1))) && not (eq_z (shown b (2 * k)) (shown b (2 * k + 1)))
