-- A loop that adds n signed numbers of bounded size: its total fits, and is their sum.
use Rattle.std.specs.Prelude.{ℕ, ◌+◌, ◌*◌, ◌^◌, ◌≤◌, ◌<◌, ◌≡◌, refl, ℤ, nat_abs, ◌+ℤ◌}
use Rattle.std.proofs.Common.{sym, ◌∙◌, ap, le_antisymm, lt_of_le_of_lt, le_trans, mul-le-mul_right, arith}
use Rattle.std.specs.Int.{Width}
use mir.Val.{SFits, to_z, of_z, hbits}
use Rattle.lemmas.specs.Sums.{sum, sum_more, sum_bound}
use Rattle.lemmas.specs.Ints.{sfits_abs}
use Rattle.lemmas.specs.Held.{Holds, Value, reads, stored, held_add_to}

-- each of n summands is at most b in size, and n * b is within the width
pub record Bounded (w : Width) (f : ℕ → ℤ) (n b : ℕ) : Type 0 where
  pub each : (k : ℕ) → k < n → nat_abs (f k) ≤ b
  pub room : n * b < 2 ^ hbits w

-- k of n are added, and the total's bits are those of their sum
pub record Adding (w : Width) (f : ℕ → ℤ) (n k total : ℕ) : Type 0 where
  pub reached : k ≤ n
  pub bits : total ≡ of_z w (sum k f)

pub adding_none : (w : Width) (f : ℕ → ℤ) (n : ℕ) → Adding w f n 0 0
unfolding sum
adding_none w f n = record { reached = omega arith; bits = refl }

module _ {w : Width} {f : ℕ → ℤ} {n b : ℕ} (h : Bounded w f n b) where
  pub sum_size : (k : ℕ) → k ≤ n → nat_abs (sum k f) ≤ n * b
  sum_size k l = le_trans (sum_bound f b k (λ i li. h.each i (omega arith))) (mul-le-mul_right b l)

  pub sum_fits : (k : ℕ) → k ≤ n → SFits w (sum k f)
  sum_fits k l = sfits_abs w (sum k f) (lt_of_le_of_lt (sum_size k l) h.room)

  module _ {k total : ℕ} (a : Adding w f n k total) where
    pub total_held : Holds w total (sum k f)
    total_held = record { bits = a.bits; fits = sum_fits k a.reached }

    -- the next summand is r
    pub added : {r : ℤ} → k < n → r ≡ f k → Holds w (of_z w r) r → Value w (to_z w total +ℤ to_z w (of_z w r)) (sum (k + 1) f)
    added {r} l e x = held_add_to total_held x (ap (λ (z : ℤ). sum k f +ℤ z) e ∙ sym (sum_more f k)) (sum_fits (k + 1) (omega arith))

    pub adding_end : n ≤ k → to_z w total ≡ sum n f
    adding_end l = reads total_held ∙ ap (λ (i : ℕ). sum i f) (le_antisymm a.reached l)

pub adding_more : {w : Width} {f : ℕ → ℤ} (n : ℕ) {k : ℕ} {y : ℤ} → k < n → Value w y (sum (k + 1) f) → Adding w f n (k + 1) (of_z w y)
adding_more n l v = record { reached = omega arith; bits = (stored v).bits }
