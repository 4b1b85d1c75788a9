-- What one move is handed. A call has the panel, the group and the sites; the choices are the draws; the buffers are what is lent and may change.
use Rattle.std.specs.Prelude.{ℕ, ◌+◌, ◌*◌, Bool, List, eqb, get_or, ℤ, pos, Float}
use Rattle.paper.specs.declared.Group.{Group}
use Rattle.paper.specs.declared.Mode.{Mode}
use Rattle.paper.specs.declared.Form.{Form}

-- what the labelling sees of it: n sites, and the site that each of their d bonds leads to
pub record Graph : Type 0 where
  pub n : ℕ
  pub d : ℕ
  pub fwd : List ℕ

abbrev pub leads_to : Graph → ℕ → ℕ → ℕ
leads_to t i e = get_or t.fwd (i * t.d + e) 0

-- the panel: n sites, d directions, s systems, the neighbour tables and the couplings
pub record Lattice : Type 0 where
  pub n : ℕ
  pub d : ℕ
  pub s : ℕ
  pub fwd : List ℕ
  pub bwd : List ℕ
  pub couplings : List ℤ

-- what stays the same from one move to the next. A mode that does not take an input does not read its field. A pin byte for each site: 1 pins it
pub record Call : Type 0 where
  pub mode : Mode
  pub form : Form
  pub lattice : Lattice
  pub pins : List ℕ
  pub group : Group
  pub temperature : Float
  pub cuts : List Float
  pub reference : ℕ
  pub seed : ℕ

-- the choices by component: SW has one entry for each label, which is the component's number, Wolff and grow one entry in all. An entry is a flip, or in
-- perm and gperm a permutation; Wolff and grow take no flip. CMR's grey components have a grey number each
pub record Choices : Type 0 where
  pub choices : List ℕ
  pub greys : List ℕ

-- the lent buffers, before the call or after it. `found` and `grey_found` have one number each, how many components the labels tell of
pub record Buffers : Type 0 where
  pub spins : List ℤ
  pub labels : List ℕ
  pub grey_labels : List ℕ
  pub counts : List ℕ
  pub sizes : List ℕ
  pub members : List ℕ
  pub found : List ℕ
  pub grey_found : List ℕ

-- is the site i pinned?
abbrev pub pinned : Call → ℕ → Bool
pinned c i = eqb (get_or c.pins i 0) 1

-- the number of systems in the group, N, and the system at its place k
abbrev pub size : Call → ℕ
size c = c.group.len

abbrev pub member : Group → ℕ → ℕ
member g k = get_or g.systems k 0

abbrev pub system : Call → ℕ → ℕ
system c k = member c.group k

-- the spin of system t at site i
abbrev pub spin : ℕ → List ℤ → ℕ → ℕ → ℤ
spin n xs t i = get_or xs (t * n + i) (pos 0)

-- the group's spins at one site, by their places 0 to N - 1
abbrev pub Pattern : Type 0
Pattern = ℕ → ℤ

abbrev pub pattern_of : ℕ → Group → List ℤ → ℕ → Pattern
pattern_of n g xs i k = spin n xs (member g k) i

abbrev pub pattern : Call → List ℤ → ℕ → Pattern
pattern c xs i k = pattern_of c.lattice.n c.group xs i k

-- the number of the bond (i, e), site i's in direction e, and the site that it leads to
abbrev pub bond_of : Lattice → ℕ → ℕ → ℕ
bond_of t i e = i * t.d + e

abbrev pub ahead_of : Lattice → ℕ → ℕ → ℕ
ahead_of t i e = get_or t.fwd (bond_of t i e) 0

abbrev pub bond : Call → ℕ → ℕ → ℕ
bond c = bond_of c.lattice

abbrev pub ahead : Call → ℕ → ℕ → ℕ
ahead c = ahead_of c.lattice

abbrev pub graph : Call → Graph
graph c = record { n = c.lattice.n; d = c.lattice.d; fwd = c.lattice.fwd }
