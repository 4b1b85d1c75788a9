-- What the functions that fill are handed, and what one that writes a row leaves.
use Rattle.std.specs.Prelude.{◌≡◌, ℕ, ◌+◌, ◌*◌, ◌<◌, ◌≤◌, List, length, slice_index, slice_index_or}
use Rattle.draws.specs.declared.Source.{Source}
use Rattle.draws.specs.Draw.{Topped}
use Rattle.draws.specs.Fill.{stop}
use Rattle.draws.specs.Rows.{Members}

-- numbers below m that, with `plus` added, are at most `most`
pub record Numbering (plus most m top : ℕ) : Type 0 where
  pub topped : Topped m top
  pub room : m + plus ≤ most + 1

-- of draws that each give `value` and leave `leaves`: ys holds the values of the first n at its front, and u is the source after them
pub record DrawnTo {T : Type 0} (Draws : Source → T × Source → Type 0) (n : ℕ) (s : Source) (xs : List T) (u : Source) (ys : List T) : Type 0 where
  pub long : length ys ≡ length xs
  pub drawn :
      (value : Source → T) (leaves : Source → Source) → ((t : Source) (r : T × Source) → Draws t r → (r.0 ≡ value t) × (r.1 ≡ leaves t))
      → (u ≡ stop leaves n s) × ((j : ℕ) (d : T) → j < n → slice_index_or ys j d ≡ value (stop leaves j s))

abbrev pub DrawnInto : {T : Type 0} → (Source → T × Source → Type 0) → Source → List T → Source → List T → Type 0
DrawnInto Draws s xs u ys = DrawnTo Draws (length xs) s xs u ys

-- k rows of n fill xs
pub record Rowing (n k : ℕ) (xs : List ℕ) : Type 0 where
  pub members : Members n
  pub long : length xs ≡ k * n

-- the row from the place at on lies in xs
pub record RowAt (n at : ℕ) (xs : List ℕ) : Type 0 where
  pub members : n ≤ 8
  pub inside : at + n ≤ length xs

-- the row is written, and what stood before it stays
pub record RowPut (n at : ℕ) (row xs ys : List ℕ) : Type 0 where
  pub long : length ys ≡ length xs
  pub before : (j : ℕ) → j < at → slice_index ys j ≡ slice_index xs j
  pub here : (k : ℕ) → k < n → slice_index ys (at + k) ≡ slice_index row k
