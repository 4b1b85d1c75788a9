-- What the functions that bring totals along ask and promise.
use Rattle.std.specs.Prelude.{ℕ, ◌*◌, ◌≤◌, ◌<◌, ◌≡◌, ◌≢◌, List, length, get_or, ℤ, pos, nat_abs, ◌+ℤ◌}
use Rattle.lemmas.specs.Places.{Unplaced}
use Rattle.paper.specs.declared.Group.{Group}
use Rattle.paper.specs.declared.Task.{Task}
use Rattle.paper.specs.Panel.Input.{Lattice, member, spin, pattern_of}
use Rattle.paper.specs.Panel.Made.{lattice_of}
use Rattle.paper.specs.Refusal.Rules.{Sizes, Inverse, Distinct, Grouped, SmallCouplings}
use Rattle.columns.specs.Column.{shown, Spinning}
use Rattle.paper.specs.Answer.Totals.{total, Brought}

-- the lattice of a task, with the tables and couplings that are lent
abbrev pub lattice_for : Task → List ℕ → List ℕ → List ℤ → Lattice
lattice_for t = lattice_of t.n t.d t.s

-- the totals of the group's systems may be energies
abbrev pub GroupSmall : Group → List ℤ → Type 0
GroupSmall g ts = (k : ℕ) → k < g.len → nat_abs (total ts (member g k)) ≤ 16384000000

-- a sum for each member, and a total that takes it
pub record Payable (g : Group) (sums xs : List ℤ) : Type 0 where
  pub few : g.len ≤ 8
  pub below : (k : ℕ) → k < g.len → member g k < length xs
  pub distinct : Distinct g.len (member g)
  pub small : GroupSmall g xs
  pub long : length sums ≡ 8
  pub room : (k : ℕ) → k < g.len → nat_abs (get_or sums k (pos 0)) ≤ 80000000000

-- the totals of the first m members have their sums, and the others are as they were
pub record Paid (m : ℕ) (g : Group) (sums xs ys : List ℤ) : Type 0 where
  pub long : length ys ≡ length xs
  pub group : (k : ℕ) → k < m → total ys (member g k) ≡ total xs (member g k) +ℤ get_or sums k (pos 0)
  pub others : (t : ℕ) → ((k : ℕ) → k < m → t ≢ member g k) → total ys t ≡ total xs t

-- what is kept by every accepted call, and totals that may be energies
pub record Bringable (g : Lattice) (group : Group) (totals : List ℤ) : Type 0 where
  pub sizes : Sizes g.n g.d g.s
  pub few : group.len ≤ 8
  pub fwd_long : length g.fwd ≡ g.n * g.d
  pub bwd_long : length g.bwd ≡ g.n * g.d
  pub js_long : length g.couplings ≡ g.n * g.d
  pub totals_long : length totals ≡ g.s
  pub inverse : Inverse g.n g.d g.fwd g.bwd
  pub grouped : Grouped g.s group
  pub couplings : SmallCouplings g.couplings
  pub totals_small : GroupSmall group totals

-- areas of columns, with one for each site
pub record Columned (n : ℕ) (olds news : List ℕ) : Type 0 where
  pub olds_long : n ≤ length olds
  pub news_long : n ≤ length news

-- rows, and those of the group hold spins
pub record Spun (g : Lattice) (group : Group) (xs : List ℤ) : Type 0 where
  pub long : length xs ≡ g.s * g.n
  pub spins : Spinning g.n group xs

-- the columns olds are of the spins xs, and news of ys; the systems outside the group keep theirs
pub record Between (n : ℕ) (group : Group) (olds news : List ℕ) (xs ys : List ℤ) : Type 0 where
  pub before : (i k : ℕ) → i < n → k < group.len → pattern_of n group xs i k ≡ shown (get_or olds i 0) k
  pub after : (i k : ℕ) → i < n → k < group.len → pattern_of n group ys i k ≡ shown (get_or news i 0) k
  pub others : (i t : ℕ) → i < n → Unplaced group.len (member group) t → spin n ys t i ≡ spin n xs t i

-- for any spins that have these columns
pub record BringsAll (g : Lattice) (group : Group) (olds news : List ℕ) (totals totals' : List ℤ) : Type 0 where
  pub long : length totals' ≡ length totals
  pub each : (xs ys : List ℤ) → Between g.n group olds news xs ys → Brought g xs totals ys totals'
