-- A word of a list, lent and put back.
use Prim.Native.Nat.{ℕ, ◌+◌, ◌-◌, ◌*◌, ◌≤◌, ◌<◌}
use mathlib.Core.Path.{◌≡◌, sym, ◌∙◌, ap}
use mathlib.Core.Logic.{◌≢◌}
use mathlib.Core.List.{List}
use native.Mathlib.Omega.{arith}
use native.Mathlib.Nat.{mul-le-mul_right, suc-mul}
use lib.ListN.{length, get_or, take, drop, length-take, length-drop}
use lib.Seq.{get_or-take, get_or-drop}
use Rattle.paper.specs.Answer.Task.{part}
use Rattle.tasks.specs.Plan.{Bounding}
use Rattle.tasks.specs.Parts.{back, lent_part, back_own, back_other, back_length}
use Rattle.orders.specs.Words.{word_at}

-- the word r of n words of m is in the list
pub room : (n m r : ℕ) (xs : List ℕ) → length xs ≡ n * m → r < n → r * m + m ≤ length xs
room n m r xs long h = omega (arith, long, mul-le-mul_right m h, suc-mul r m)

pub entry_at : (m : ℕ) (xs : List ℕ) (r k : ℕ) → k < m → get_or (part r m xs) k 0 ≡ word_at m xs r k
entry_at m xs r k h = get_or-take m (drop (r * m) xs) k 0 h ∙ get_or-drop (r * m) xs k 0

module _ (m r : ℕ) (xs : List ℕ) (fits : r * m + m ≤ length xs) where
  bounding : Bounding (length xs) r m (r * m) (r * m + m)
  bounding = record { starts = omega arith; ends = omega arith }

  -- what is lent
  pub lent_at : (k : ℕ) → k < m → get_or (take (r * m + m - r * m) (drop (r * m) xs)) k 0 ≡ word_at m xs r k
  lent_at k h = ap (λ (ys : List ℕ). get_or ys k 0) (lent_part xs r m (r * m) (r * m + m) bounding) ∙ entry_at m xs r k h

  pub lent_long : length (take (r * m + m - r * m) (drop (r * m) xs)) ≡ m
  lent_long = simp (length-take, length-drop) (omega arith)

  module _ (ys : List ℕ) (long : length ys ≡ m) where
    gap : length ys ≡ r * m + m - r * m
    gap = omega arith

    abbrev put : List ℕ
    put = back xs (r * m) (r * m + m) ys

    pub put_long : length put ≡ length xs
    put_long = back_length xs r m (r * m) (r * m + m) bounding ys gap

    pub put_own : (k : ℕ) → k < m → word_at m put r k ≡ get_or ys k 0
    put_own k h =
        sym (entry_at m put r k h) ∙ ap (λ (zs : List ℕ). get_or zs k 0) (back_own xs r m (r * m) (r * m + m) bounding ys gap)

    pub put_other : (s k : ℕ) → s ≢ r → k < m → word_at m put s k ≡ word_at m xs s k
    put_other s k ne h =
        sym (entry_at m put s k h)
        ∙ (ap (λ (zs : List ℕ). get_or zs k 0) (back_other xs r m (r * m) (r * m + m) bounding ys gap 0 s ne) ∙ entry_at m xs s k h)
