-- A permutation of five as one number (8/14): the rows that a buffer of numbers stands for.
use Rattle.std.specs.Prelude.{ℕ, ◌*◌, ◌/◌, ◌%◌, ◌≡◌, cond, List, ◌++◌, ltb, length, get_or, take}
use Rattle.std.proofs.Common.{subst}
use Rattle.std.proofs.Math.Seq.{take-append_seam}
use Rattle.lemmas.specs.Cells.{table, length_table}
use Rattle.orders.specs.Table.{row}

-- the place k of the row that the number v stands for. No number above 119 stands for a permutation: of five places 5 is none
unfoldable pub spelt : ℕ → ℕ → ℕ
spelt v k = cond (ltb v 120) (row v k) 5

-- the rows of the numbers one after another, five bytes each
unfoldable pub rows_of : List ℕ → List ℕ
rows_of vs = table (length vs * 5) (λ x. spelt (get_or vs (x / 5) 0) (x % 5))

pub length_rows : (vs : List ℕ) → length (rows_of vs) ≡ length vs * 5
unfolding rows_of
length_rows vs = length_table (length vs * 5) _

-- rows written over the front of an area
pub rows_front : (vs ys : List ℕ) → take (length vs * 5) (rows_of vs ++ ys) ≡ rows_of vs
rows_front vs ys = subst (λ (k : ℕ). take k (rows_of vs ++ ys) ≡ rows_of vs) (length_rows vs) (take-append_seam (rows_of vs) ys)
