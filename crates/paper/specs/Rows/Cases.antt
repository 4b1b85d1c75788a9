-- The lattices, calls and buffers of document 01's rows.
use Rattle.std.specs.Prelude.{ℕ, zero, suc, ◌^◌, false, List, [], ◌∷◌, get_or, ℤ, pos, negsuc, Float}
use Prim.Native.Char.{code}
use Prim.Native.String.{String, [] as end, ◌∷◌ as ◌then◌}
use Rattle.std.specs.Float.{binary32}
use Rattle.std.specs.Float.Ieee.{round}
use Rattle.lemmas.specs.Cells.{table}
use Rattle.paper.specs.declared.Group.{Group}
use Rattle.paper.specs.declared.Mode.{Mode}
use Rattle.paper.specs.declared.Mode.TheVariants.{Houd}
use Rattle.paper.specs.declared.Form.{Form}
use Rattle.paper.specs.declared.Form.TheVariants.{Sw, Wolff}
use Rattle.paper.specs.Panel.Input.{Lattice, Call, Choices, Buffers, Pattern}
use Rattle.paper.specs.Site.Bonds.{whole}

abbrev pub + : ℤ
+ = pos 1

abbrev pub - : ℤ
- = negsuc 0

-- a pattern and a permutation from a list, and back
abbrev pub of : List ℤ → Pattern
of xs k = get_or xs k (pos 0)

abbrev pub perm : List ℕ → ℕ → ℕ
perm p k = get_or p k 0

unfoldable pub row : ℕ → Pattern → List ℤ
row zero f = []
row (suc m) f = f 0 ∷ row m (λ k. f (suc k))

-- the `f32` nearest to m / 10 ^ k
abbrev pub decimal : ℕ → ℕ → Float
decimal m k = round binary32 false m (10 ^ k)

-- a lattice of D = 1, and a call on it that takes no temperature and pins nothing
abbrev pub line : ℕ → ℕ → List ℕ → List ℕ → List ℤ → Lattice
line n s fwd bwd couplings = record { n = n; d = 1; s = s; fwd = fwd; bwd = bwd; couplings = couplings }

abbrev pub plain : Mode → Form → Lattice → Group → Call
plain mode form lattice group = record {
  mode = mode;
  form = form;
  lattice = lattice;
  pins = table lattice.n (λ k. 0);
  group = group;
  temperature = whole 1;
  cuts = [];
  reference = 0;
  seed = 0;
}

-- the group of the systems 0 to m - 1
abbrev pub first : ℕ → Group
first m = record { len = m; systems = 0 ∷ 1 ∷ 2 ∷ 3 ∷ 4 ∷ 5 ∷ 6 ∷ 7 ∷ [] }

abbrev pub buffers : List ℤ → List ℕ → List ℕ → List ℕ → ℕ → Buffers
buffers spins labels counts sizes found = record {
  spins = spins;
  labels = labels;
  grey_labels = [];
  counts = counts;
  sizes = sizes;
  members = [];
  found = found ∷ [];
  grey_found = [];
}

-- row 11: a ring of three
abbrev pub ring : Lattice
ring = line 3 1 (1 ∷ 2 ∷ 0 ∷ []) (2 ∷ 0 ∷ 1 ∷ []) (pos 1 ∷ pos 2 ∷ negsuc 2 ∷ [])

-- row 12: two sites and four systems, (+,+,-,-) beside (+,+,+,-)
abbrev pub houd4 : Call
houd4 = plain Houd Wolff (line 2 4 (1 ∷ 0 ∷ []) (1 ∷ 0 ∷ []) []) (first 4)

abbrev pub before12 : Buffers
before12 = buffers (+ ∷ + ∷ + ∷ + ∷ - ∷ + ∷ - ∷ - ∷ []) (0 ∷ 0 ∷ []) (0 ∷ 0 ∷ 0 ∷ []) (0 ∷ 0 ∷ 0 ∷ 0 ∷ []) 0

abbrev pub after12 : Buffers
after12 = buffers (- ∷ + ∷ - ∷ + ∷ + ∷ + ∷ + ∷ - ∷ []) (0 ∷ 1 ∷ []) (0 ∷ 1 ∷ 0 ∷ []) (1 ∷ 0 ∷ 0 ∷ 0 ∷ []) 2

-- row 13: the frame case
abbrev pub frame : Mode → Call
frame mode = plain mode Sw (line 3 2 (1 ∷ 2 ∷ 0 ∷ []) (2 ∷ 0 ∷ 1 ∷ []) []) (record { len = 2; systems = 0 ∷ 1 ∷ 0 ∷ 0 ∷ 0 ∷ 0 ∷ 0 ∷ 0 ∷ [] })

abbrev pub no_choices : Choices
no_choices = record { choices = []; greys = [] }

abbrev pub frame_perms : Choices
frame_perms = record { choices = 1 ∷ 0 ∷ 1 ∷ 0 ∷ 1 ∷ 0 ∷ []; greys = [] }

abbrev pub all_flips : Choices
all_flips = record { choices = 1 ∷ 1 ∷ 1 ∷ []; greys = [] }

abbrev pub before13 : Buffers
before13 = buffers (+ ∷ + ∷ - ∷ + ∷ - ∷ - ∷ []) (0 ∷ 0 ∷ 0 ∷ []) (0 ∷ 0 ∷ 0 ∷ 0 ∷ []) (0 ∷ 0 ∷ 0 ∷ 0 ∷ []) 0

abbrev pub after13 : List ℤ → Buffers
after13 spins = buffers spins (0 ∷ 1 ∷ 2 ∷ []) (0 ∷ 1 ∷ 0 ∷ 0 ∷ []) (1 ∷ 0 ∷ 0 ∷ 0 ∷ []) 3

-- the spins after its move
abbrev pub moved13 : List ℤ
moved13 = + ∷ - ∷ - ∷ + ∷ + ∷ - ∷ []

-- the text that asks for it, and the text that answers, in the codes of their characters
unfoldable pub codes : String → List ℕ
codes end = []
codes (c then s) = code c ∷ codes s

abbrev pub case_text : List ℕ
case_text = codes "1000030102\n110101ff01ffff\n12000100020000\n130001\n14010001000100\n"

abbrev pub case_out : List ℕ
case_out = codes "20000000010002\n210000000100000000\n2201ffff0101ff\n"
