-- A total that is the sum of the first k summands: the next one added, it fits and is the sum of k + 1.
use Prim.Native.Nat.{ℕ, ◌+◌, ◌≤◌, ◌<◌}
use mathlib.Core.Path.{◌≡◌, sym, ◌∙◌, ap}
use native.Mathlib.Nat.{le_antisymm}
use native.Mathlib.Omega.{arith}
use lib.IntN.{ℤ, ◌+ℤ◌}
use mir.Syntax.{Width}
use mir.Val.{to_z, of_z}
use Rattle.lemmas.specs.Sums.{sum, sum_more}
use Rattle.lemmas.specs.Adding.{Bounded, sum_fits}
use Rattle.lemmas.specs.Held.{Holds, Value, reads}

module _ {w : Width} {f : ℕ → ℤ} {n b : ℕ} (h : Bounded w f n b) {k : ℕ} {total : ℤ} (is : total ≡ sum k f) where
  pub next_total : {r : ℤ} → k < n → r ≡ f k → Holds w (of_z w r) r → Value w (total +ℤ to_z w (of_z w r)) (sum (k + 1) f)
  next_total {r} l e x =
      record {
        is = (λ i. is i +ℤ (reads x ∙ e) i) ∙ sym (sum_more f k);
        fits = sum_fits h (k + 1) (omega arith);
      }

  pub all_added : k ≤ n → n ≤ k → total ≡ sum n f
  all_added l m = is ∙ ap (λ (i : ℕ). sum i f) (le_antisymm l m)
