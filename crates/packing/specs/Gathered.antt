-- One group's rows in its members' order, and the call that is made on them.
use Rattle.std.specs.Prelude.{ℕ, ◌+◌, ◌*◌, ◌/◌, ◌%◌, ◌<◌, ◌≡◌, refl, List, length, ℤ}
use Rattle.std.proofs.Common.{◌∙◌}
use Rattle.lemmas.specs.Cells.{tabulate, tabulate_at, length_tabulate, row_of, column_of_lem, cell_lt}
use Rattle.paper.specs.Panel.Input.{Call, spin, pattern, size, system}
use Rattle.paper.specs.Panel.Made.{lattice_of}
use Rattle.packing.specs.Bytes.{own_group}

-- the group's rows in its members' order
unfoldable pub group_rows : Call → List ℤ → List ℤ
group_rows c xs =
    tabulate (size c * c.lattice.n) (λ a. spin c.lattice.n xs (system c (a / c.lattice.n)) (a % c.lattice.n))

pub length_group : (c : Call) (xs : List ℤ) → length (group_rows c xs) ≡ size c * c.lattice.n
unfolding group_rows
length_group c xs = length_tabulate (size c * c.lattice.n) _

pub group_at : (c : Call) (xs : List ℤ) (i k : ℕ) → i < c.lattice.n → k < size c → spin c.lattice.n (group_rows c xs) k i ≡ pattern c xs i k
unfolding group_rows
group_at c xs i k hi hk =
    let n = c.lattice.n in
    tabulate_at (size c * n) (λ a. spin n xs (system c (a / n)) (a % n)) (k * n + i) (cell_lt (size c) n k i hk hi)
    ∙ rw (row_of n k i hi, column_of_lem n k i hi) refl

-- the call on these rows: as many systems as members, in their order
abbrev pub own_of : Call → Call
own_of c = record {
  mode = c.mode;
  form = c.form;
  lattice = lattice_of c.lattice.n c.lattice.d (size c) c.lattice.fwd c.lattice.bwd c.lattice.couplings;
  pins = c.pins;
  group = own_group (size c);
  temperature = c.temperature;
  cuts = c.cuts;
  reference = c.reference;
  seed = c.seed;
}
