-- Which bond a line of an edge list belongs to: the lowest that joins its two sites, in either sense, and is not filled yet.
use Rattle.std.specs.Prelude.{ℕ, zero, suc, ◌+◌, ◌*◌, ◌<◌, ◌≡◌, ◌⊎◌, cond, List, [], ◌∷◌, eqb, get_or, ℤ, pos}
use Rattle.edge_text.specs.declared.Edge.{Edge}

-- the bond with the number b leads from site i to its forward neighbour j
pub record Ahead (d : ℕ) (fwd : List ℕ) (i j b : ℕ) : Type 0 where
  pub way : ℕ
  pub below : way < d
  pub is : b ≡ i * d + way
  pub leads : get_or fwd b 0 ≡ j

abbrev pub Joins : ℕ → List ℕ → ℕ → ℕ → ℕ → Type 0
Joins d fwd i j b = Ahead d fwd i j b ⊎ Ahead d fwd j i b

-- a bond is free, or a line has filled it; 0 fills as well
pub data Cell : Type 0 where
  free : Cell
  holds : ℤ → Cell

-- of n * d bonds b is the lowest free one that joins i and j
pub record Lowest (n d : ℕ) (fwd : List ℕ) (cells : ℕ → Cell) (i j b : ℕ) : Type 0 where
  pub below : b < n * d
  pub joins : Joins d fwd i j b
  pub is_free : cells b ≡ free
  pub least : (c : ℕ) → c < b → Joins d fwd i j c → cells c ≡ free → ⊥

abbrev pub put : (ℕ → Cell) → ℕ → ℤ → ℕ → Cell
put cells b z c = cond (eqb c b) (holds z) (cells c)

-- line by line, each into its bond; where a line has none left there is no end
abbrev pub Fills : ℕ → ℕ → List ℕ → (ℕ → Cell) → List Edge → (ℕ → Cell) → Type 0
Fills n d fwd cells [] end = end ≡ cells
Fills n d fwd cells (e ∷ es) end =
    (b : ℕ) × Lowest n d fwd cells e.from e.to b × Fills n d fwd (put cells b e.coupling) es end

-- ---- the table of the couplings: a bond that no line names has 0
abbrev pub value_of : Cell → ℤ
value_of free = pos 0
value_of (holds z) = z

unfoldable pub table_of : ℕ → (ℕ → Cell) → List ℤ
table_of zero cells = []
table_of (suc m) cells = value_of (cells 0) ∷ table_of m (λ k. cells (suc k))
