-- Rows written one after another, cell by cell.
use Prim.Native.Nat.{ℕ, ◌+◌, ◌*◌, ◌/◌, ◌%◌, ◌≤◌, ◌<◌}
use mathlib.Core.Path.{◌≡◌, sym, ◌∙◌}
use mathlib.Core.List.{List, ◌++◌}
use native.Mathlib.Omega.{arith}
use lib.ListN.{length, get_or, drop, length-drop, length-append}
use lib.Seq.{ext_get_or}
use Rattle.lemmas.specs.Cells.{table, table_at, length_table, row_of, column_of_lem}
use Rattle.lemmas.specs.Stores.{Filled}
use Rattle.spelling.specs.Rows.{spelt, rows_of, length_rows}

abbrev pub cells : List ℕ → ℕ → ℕ
cells vs x = spelt (get_or vs (x / 5) 0) (x % 5)

pub cell : (vs : List ℕ) (i k : ℕ) → k < 5 → cells vs (i * 5 + k) ≡ spelt (get_or vs i 0) k
cell vs i k h = rw (row_of 5 i k h, column_of_lem 5 i k h)

-- all rows are written
pub all_rows : (vs : List ℕ) {xs ys : List ℕ} → length xs ≡ length vs * 5 → Filled 0 (cells vs) (length vs * 5) xs ys → ys ≡ rows_of vs
unfolding rows_of
all_rows vs {xs} {ys} long w =
    ext_get_or 0 ys (table (length vs * 5) (cells vs)) (w.long ∙ (long ∙ sym (length_table (length vs * 5) (cells vs))))
    (λ x h. let l : x < length vs * 5 = omega (arith, w.long, long) in w.done x l ∙ sym (table_at (length vs * 5) (cells vs) x l))

-- what is left behind them keeps the length
pub rows_long : (vs xs : List ℕ) → length vs * 5 ≤ length xs → length (rows_of vs ++ drop (length vs * 5) xs) ≡ length xs
rows_long vs xs h = rw (length-append (rows_of vs) (drop (length vs * 5) xs), length_rows vs, length-drop (length vs * 5) xs) (omega arith)
