-- Spins one by one, and row by row.
use Rattle.std.specs.Prelude.{ℕ, zero, suc, ◌+◌, ◌*◌, ◌/◌, ◌%◌, ◌<◌, ◌≡◌, List, Bool, ℤ, pos, length, get_or}
use Rattle.std.proofs.Common.{arith, div-add-mod', mod-lt, div-lt_iff_lt-mul}
use Rattle.lemmas.specs.Cells.{cell_lt}
use Rattle.lemmas.specs.Tells.{Tells, said, same}
use Rattle.paper.specs.Refusal.Rules.{Spin, AllSystems, Spins}

-- every entry of the list is +1 or -1
abbrev pub AllSpins : List ℤ → Type 0
AllSpins xs = (k : ℕ) → k < length xs → Spin (get_or xs k (pos 0))

-- where the list has a row for each system, and no more, that is the paper's test 3
module _ (n s : ℕ) (xs : List ℤ) (long : length xs ≡ s * n) where
  by_rows : AllSpins xs → Spins n (AllSystems s) xs
  by_rows h t i ht hi = h (t * n + i) (rw long (cell_lt s n t i ht hi))

  one_by_one : Spins n (AllSystems s) xs → AllSpins xs
  one_by_one h k l = rw (← div-add-mod' k n) (h (k / n) (k % n) ((div-lt_iff_lt-mul some).1 (rw long at l)) (mod-lt k some))
    where
      some : 0 < n
      some = go n (rw long at l)
        where
          go : (n : ℕ) → k < s * n → 0 < n
          go zero q = absurd (omega arith)
          go (suc n) q = omega arith

  pub all_rows : (r : Bool) → Tells r (AllSpins xs) → Tells r (Spins n (AllSystems s) xs)
  all_rows r h = (same (Spins n (AllSystems s) xs) by_rows one_by_one (said r (AllSpins xs) h)).says
