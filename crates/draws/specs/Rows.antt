-- A permutation drawn: from 0 to N-1, the places from the last down to place 1 are each exchanged with a place drawn from 0 up to it.
use Rattle.std.specs.Prelude.{ℕ, zero, suc, ◌+◌, ◌-◌, ◌≤◌, Bool, true, cond, ◌&&◌, List, [], ◌∷◌, ◌==◌, nat_lt, slice_index, slice_set}
use Rattle.draws.specs.declared.Source.{Source}
use Rattle.draws.specs.Answer.{Row}
use Rattle.draws.specs.Words.{is_blank}
use Rattle.draws.specs.Draw.{number, within}

abbrev pub drawn_row : ℕ → List ℕ → Source → Row
drawn_row r xs s = record { refusal = r; row = xs; source = s }

-- refused: the row is 0 and the source as lent
abbrev pub refused_row : Source → Row
refused_row s = drawn_row 12 (0 ∷ 0 ∷ 0 ∷ 0 ∷ 0 ∷ 0 ∷ 0 ∷ 0 ∷ []) s

-- entries past N are 0
abbrev pub placed : ℕ → ℕ → ℕ
placed n k = cond (nat_lt k n) k 0

abbrev pub first_row : ℕ → List ℕ
first_row n = placed n 0 ∷ placed n 1 ∷ placed n 2 ∷ placed n 3 ∷ placed n 4 ∷ placed n 5 ∷ placed n 6 ∷ placed n 7 ∷ []

abbrev pub swapped : List ℕ → ℕ → ℕ → List ℕ
swapped xs i j = slice_set (slice_set xs i (slice_index xs j)) j (slice_index xs i)

-- the places from i down to 1 are still to be exchanged; refused, `lent` is handed back
unfoldable pub shuffled : Source → ℕ → List ℕ → Source → Row
shuffled lent zero xs s = drawn_row 0 xs s
shuffled lent (suc i) xs s =
    let d = number (suc i + 1) s in
    cond (d.refusal == 0) (shuffled lent i (swapped xs (suc i) d.value) d.source) (refused_row lent)

abbrev pub permuted : ℕ → Source → Row
permuted n s = shuffled s (n - 1) (first_row n) s

-- the first n places hold their own numbers
unfoldable pub is_identity : ℕ → List ℕ → Bool
is_identity zero xs = true
is_identity (suc k) xs = is_identity k xs && slice_index xs k == k

-- the whole permutation is drawn again while it is the identity, with so many to try
unfoldable pub retried : Source → ℕ → ℕ → Source → Row
retried lent zero n s = refused_row lent
retried lent (suc k) n s =
    let r = permuted n s in
    cond (r.refusal == 0) (cond (is_identity n r.row) (retried lent k n r.source) r) (refused_row lent)

-- any permutation, or one other than the identity
abbrev pub row_by : Bool → ℕ → Source → Row
row_by moving n s = cond moving (retried s 64 n s) (permuted n s)

pub record Members (n : ℕ) : Type 0 where
  pub low : 2 ≤ n
  pub top : n ≤ 8

abbrev pub permutation_of : ℕ → Source → Row
permutation_of n s = cond (is_blank s) (refused_row s) (cond (within 2 8 n) (permuted n s) (refused_row s))
