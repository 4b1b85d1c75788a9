-- One row of five: as a table of one row, and written out.
use Prim.Native.Nat.{ℕ, ◌+◌, ◌*◌, ◌≤◌, ◌<◌}
use mathlib.Core.Path.{◌≡◌, sym, ◌∙◌}
use mathlib.Core.List.{List}
use native.Mathlib.Nat.{zero-add}
use native.Mathlib.Omega.{arith}
use lib.ListN.{length, get_or}
use lib.Seq.{ext_get_or}
use Rattle.lemmas.specs.Stores.{Filled}
use Rattle.paper.specs.Refusal.Rules.{Permutes}
use Rattle.orders.specs.Table.{row}
use Rattle.orders.specs.Answers.{row_of, word}
use Rattle.orders.proofs.Laws.{row_at}

-- what `permutations_ok` tells of one row
abbrev pub OneRow : List ℕ → Type 0
OneRow xs = (r : ℕ) → r < 1 → Permutes 5 (λ k. get_or xs (r * 5 + k) 0)

pub row_alone : (xs : List ℕ) → OneRow xs → Permutes 5 (word xs)
row_alone xs h = simp zero-add at (h 0 (omega arith))

pub alone_row : (xs : List ℕ) → Permutes 5 (word xs) → OneRow xs
alone_row xs h r l = let e : r ≡ 0 = omega arith in rw e (simp zero-add h)

pub all_written : (r : ℕ) {k : ℕ} {xs ys : List ℕ} → Filled 0 (row r) k xs ys → length xs ≡ 5 → 5 ≤ k → ys ≡ row_of r
all_written r {k} {xs} {ys} f long done =
    ext_get_or 0 ys (row_of r) (f.long ∙ long) (λ j l. let b : j < 5 = omega (arith, f.long) in f.done j (omega arith) ∙ sym (row_at r j b))
