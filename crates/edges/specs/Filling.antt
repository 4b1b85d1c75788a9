-- What the steps of reading promise: the look-up of a bond, the lines one by one, the whole text, and the table from its cells.
use Rattle.std.specs.Prelude.{ℕ, zero, suc, ◌+◌, ◌*◌, ◌≤◌, ◌<◌, ◌≡◌, Bool, true, false, Option, Some, None, List, length, get_or, ℤ, pos, ◌-ℤ◌}
use Rattle.paper.specs.Refusal.Rules.{Inverse}
use Rattle.edge_text.specs.declared.Edge.{Edge}
use Rattle.edge_text.specs.Form.{lines_of}
use Rattle.edge_text.specs.Reading.{code_of}
use Rattle.edges.specs.Bonds.{Joins, Cell, free, holds, Fills}
use Rattle.edges.specs.Answer.{IsList}

-- ---- the look-up. A cell is 0 where its bond is free
pub record Open (fwd cells : List ℕ) (to b : ℕ) : Type 0 where
  pub leads : get_or fwd b 0 ≡ to
  pub is_free : get_or cells b 0 ≡ 0

-- the bonds of a site have entries
pub record Ways (d : ℕ) (fwd cells : List ℕ) (from : ℕ) : Type 0 where
  pub fwd_long : from * d + d ≤ length fwd
  pub cells_long : from * d + d ≤ length cells

-- the first way from one site to another by a free bond is e, or d where there is none
pub record ScanAs (d : ℕ) (fwd cells : List ℕ) (from to e : ℕ) : Type 0 where
  pub within : e ≤ d
  pub before : (k : ℕ) → k < e → Open fwd cells to (from * d + k) → ⊥
  pub found : e < d → Open fwd cells to (from * d + e)

abbrev pub FirstWay : ℕ → List ℕ → List ℕ → ℕ → ℕ → Option ℕ → Type 0
FirstWay d fwd cells from to (Some e) = (e < d) × ScanAs d fwd cells from to e
FirstWay d fwd cells from to None = ScanAs d fwd cells from to d

-- a table of n sites in d directions, with a cell for each bond
pub record Celled (n d : ℕ) (fwd cells : List ℕ) : Type 0 where
  pub n_high : n ≤ 4096
  pub d_high : d ≤ 4
  pub fwd_long : length fwd ≡ n * d
  pub cells_long : n * d ≤ length cells

pub record Pair (n d : ℕ) (fwd cells : List ℕ) (i j : ℕ) : Type 0 where
  pub celled : Celled n d fwd cells
  pub first : i < n
  pub second : j < n

pub record Ordered (n d : ℕ) (fwd cells : List ℕ) (i j : ℕ) : Type 0 where
  pub pair : Pair n d fwd cells i j
  pub rising : i ≤ j

-- the lowest free bond between i and j is b, or n * d where there is none
pub record FoundAs (n d : ℕ) (fwd cells : List ℕ) (i j b : ℕ) : Type 0 where
  pub within : b ≤ n * d
  pub joins : b < n * d → Joins d fwd i j b
  pub is_free : b < n * d → get_or cells b 0 ≡ 0
  pub least : (c : ℕ) → c < b → Joins d fwd i j c → get_or cells c 0 ≡ 0 → ⊥

abbrev pub FirstBond : ℕ → ℕ → List ℕ → List ℕ → ℕ → ℕ → Option ℕ → Type 0
FirstBond n d fwd cells i j (Some b) = (b < n * d) × FoundAs n d fwd cells i j b
FirstBond n d fwd cells i j None = FoundAs n d fwd cells i j (n * d)

-- ---- cells as numbers: 0 where the bond is free, else the coupling's code
abbrev pub cell_code : Cell → ℕ
cell_code free = 0
cell_code (holds z) = code_of z

abbrev pub Coded : ℕ → (ℕ → Cell) → List ℕ → Type 0
Coded m cells xs = (b : ℕ) → b < m → get_or xs b 0 ≡ cell_code (cells b)

-- ---- m lines from here on, which take the cells to this end
pub record LinesFrom (n d : ℕ) (fwd : List ℕ) (cells : ℕ → Cell) (s : List ℕ) (m : ℕ) (end : ℕ → Cell) : Type 0 where
  pub list : List Edge
  pub count : length list ≡ m
  pub text : s ≡ lines_of list
  pub fills : Fills n d fwd cells list end

-- what the lines are read with: a tested table, the lines' place in the text, and cells that are all free
pub record Readable (n d : ℕ) (fwd text : List ℕ) (a : ℕ) (cells : List ℕ) : Type 0 where
  pub celled : Celled n d fwd cells
  pub bwd : List ℕ
  pub inverse : Inverse n d fwd bwd
  pub place : a ≤ length text
  pub empty : Coded (n * d) (λ b. free) cells

pub record Filled (n d : ℕ) (fwd s : List ℕ) (m : ℕ) (cells : List ℕ) : Type 0 where
  pub end : ℕ → Cell
  pub lines : LinesFrom n d fwd (λ b. free) s m end
  pub coded : Coded (n * d) end cells

abbrev pub FilledAs : ℕ → ℕ → List ℕ → List ℕ → ℕ → Bool → List ℕ → Type 0
FilledAs n d fwd s m true cells = Filled n d fwd s m cells
FilledAs n d fwd s m false cells = (end : ℕ → Cell) → LinesFrom n d fwd (λ b. free) s m end → ⊥

-- ---- the whole text
pub record Loaded (n d : ℕ) (fwd text cells : List ℕ) : Type 0 where
  pub read : IsList n d fwd text
  pub coded : Coded (n * d) read.cells cells

abbrev pub LoadedAs : ℕ → ℕ → List ℕ → List ℕ → Bool → List ℕ → Type 0
LoadedAs n d fwd text true cells = Loaded n d fwd text cells
LoadedAs n d fwd text false cells = IsList n d fwd text → ⊥

-- ---- the table from the cells
abbrev pub decoded : ℕ → ℤ
decoded zero = pos 0
decoded (suc x) = pos (suc x) -ℤ pos 1000001

abbrev pub SmallCodes : ℕ → List ℕ → Type 0
SmallCodes m cells = (k : ℕ) → k < m → get_or cells k 0 < 2000002

pub record Decodable (m : ℕ) (cells : List ℕ) : Type 0 where
  pub long : m ≤ length cells
  pub small : SmallCodes m cells

pub record Decoded (cells : List ℕ) (js js' : List ℤ) : Type 0 where
  pub long : length js' ≡ length js
  pub each : (k : ℕ) → k < length js → get_or js' k (pos 0) ≡ decoded (get_or cells k 0)
