-- A table of eight numbers filled from the front: the others stay 0.
use Prim.Native.Nat.{ℕ, zero, suc, ◌<◌, ◌≤◌}
use mathlib.Core.Path.{◌≡◌, refl, sym, ◌∙◌}
use mathlib.Core.Bool.{cond}
use mathlib.Core.List.{List}
use native.Mathlib.Omega.{arith}
use native.Mathlib.Decide.{dec_lt}
use borrow.Author.Tests.{lt-ltb, le-ltb}
use lib.Dec.{ltb}
use lib.ListN.{get_or}
use lib.Seq.{ext_get_or}
use Rattle.lemmas.specs.Cells.{table, table_at, length_table}
use Rattle.lemmas.specs.Stores.{Filled}

abbrev pub blank : List ℕ
blank = table 8 (λ k. 0)

-- the first x are f's, the others 0
abbrev pub up_to : (ℕ → ℕ) → ℕ → ℕ → ℕ
up_to f x y = cond (ltb y x) (f y) 0

zeros : (m y : ℕ) → get_or (table m (λ k. 0)) y 0 ≡ 0
unfolding table
zeros zero y = refl
zeros (suc m) zero = refl
zeros (suc m) (suc y) = zeros m y

pub fill_done : {f : ℕ → ℕ} {x : ℕ} {xs : List ℕ} → Filled 0 f x blank xs → xs ≡ table 8 (up_to f x)
fill_done {f} {x} {xs} h =
    ext_get_or 0 xs (table 8 (up_to f x)) (h.long ∙ (length_table 8 (λ k. 0) ∙ sym (length_table 8 (up_to f x))))
    (λ y l. at y (dec_lt y x) ∙ sym (table_at 8 (up_to f x) y (omega (arith, h.long, length_table 8 (λ k. 0)))))
  where
    at : (y : ℕ) → Dec (y < x) → get_or xs y 0 ≡ up_to f x y
    at y (yes l) = rw (lt-ltb y x l) (h.done y l)
    at y (no l) = let o : x ≤ y = omega arith in rw (le-ltb y x o) (h.rest y o ∙ zeros 8 y)
