-- What `read_edges` and `write_edges` answer, for every input, and what every lent buffer then holds.
use Rattle.std.specs.Prelude.{ℕ, zero, suc, ◌*◌, ◌≤◌, ◌≡◌, List, [], ◌∷◌, ◌++◌, length, drop, ℤ}
use Rattle.paper.specs.Refusal.Rule.{Rule, rule, Broken}
use Rattle.paper.specs.Refusal.Rules.{Sizes, Inverse, SmallCouplings}
use Rattle.paper.specs.Refusal.Verdict.{Verdict}
use Rattle.edge_text.specs.declared.Edge.{Edge}
use Rattle.edge_text.specs.Form.{text_of}
use Rattle.edges.specs.Cases.{Listing, Listing.Unlisted, Listing.Wrote}
use Rattle.edges.specs.Bonds.{Cell, free, Fills, table_of}
use Rattle.edges.specs.Listed.{listed}

-- n sites with d directions, and their neighbours
pub record Net : Type 0 where
  pub n : ℕ
  pub d : ℕ
  pub fwd : List ℕ
  pub bwd : List ℕ

abbrev pub net_of : ℕ → ℕ → List ℕ → List ℕ → Net
net_of n d fwd bwd = record { n = n; d = d; fwd = fwd; bwd = bwd }

abbrev pub bonds : Net → ℕ
bonds g = g.n * g.d

-- both tables and the couplings have an entry for each bond
pub record ExactLengths (m fwd bwd couplings : ℕ) : Type 0 where
  pub fwd_long : fwd ≡ m
  pub bwd_long : bwd ≡ m
  pub couplings_long : couplings ≡ m

abbrev pub Exact : Net → List ℤ → Type 0
Exact g js = ExactLengths (bonds g) (length g.fwd) (length g.bwd) (length js)

-- ---- reading
-- the text is this list, and every line of it has a bond: so no site of it lies outside, and no bond is named too often
pub record ListedAs (n d : ℕ) (fwd text : List ℕ) (list : List Edge) (cells : ℕ → Cell) : Type 0 where
  pub is : text ≡ text_of n list
  pub fills : Fills n d fwd (λ b. free) list cells

pub record IsList (n d : ℕ) (fwd text : List ℕ) : Type 0 where
  pub list : List Edge
  pub cells : ℕ → Cell
  pub made : ListedAs n d fwd text list cells

-- the couplings that the text names are small
abbrev pub SmallList : ℕ → ℕ → List ℕ → List ℕ → Type 0
SmallList n d fwd text = (list : List Edge) (cells : ℕ → Cell) → ListedAs n d fwd text list cells → SmallCouplings (table_of (n * d) cells)

-- the refusals in their order. Sizes are those of a panel with one system
abbrev pub read_rules : Net → List ℕ → List ℤ → List Rule
read_rules g text js =
    rule 1 (Sizes g.n g.d 1)
    ∷ rule 2 (Exact g js)
    ∷ rule 4 (Inverse g.n g.d g.fwd g.bwd)
    ∷ rule 13 (IsList g.n g.d g.fwd text)
    ∷ rule 6 (SmallList g.n g.d g.fwd text)
    ∷ []

-- the couplings js become js'
pub record Loads (g : Net) (text : List ℕ) (js js' : List ℤ) : Type 0 where
  pub valid : Verdict (read_rules g text js) 0
  pub read : IsList g.n g.d g.fwd text
  pub table : js' ≡ table_of (bonds g) read.cells

-- refused with the number c: nothing is written
pub record Leaves (g : Net) (text : List ℕ) (js : List ℤ) (c : ℕ) (js' : List ℤ) : Type 0 where
  pub why : Verdict (read_rules g text js) c
  pub kept : js' ≡ js

-- the number r may be returned, 0 where the list is read
abbrev pub ReadAnswers : Net → List ℕ → List ℤ → ℕ → List ℤ → Type 0
ReadAnswers g text js zero js' = Loads g text js js'
ReadAnswers g text js (suc c) js' = Leaves g text js (suc c) js'

-- ---- writing
abbrev pub list_of : Net → List ℤ → List Edge
list_of g js = listed g.d g.fwd js (bonds g)

abbrev pub write_rules : Net → List ℤ → List ℕ → List Rule
write_rules g js text =
    rule 1 (Sizes g.n g.d 1)
    ∷ rule 2 (Exact g js)
    ∷ rule 4 (Inverse g.n g.d g.fwd g.bwd)
    ∷ rule 6 (SmallCouplings js)
    ∷ rule 2 (length (text_of g.n (list_of g js)) ≤ length text)
    ∷ []

-- the paper's number of an answer, 0 where the list is written, and the number of its bytes
abbrev pub listing_number : Listing → ℕ
listing_number (Unlisted c) = c
listing_number (Wrote m) = 0

abbrev pub listing_values : Listing → List ℕ
listing_values (Unlisted c) = []
listing_values (Wrote m) = m ∷ []

-- the list stands at the front, and behind it what was there
pub record Writes (g : Net) (js : List ℤ) (text : List ℕ) (m : ℕ) (text' : List ℕ) : Type 0 where
  pub valid : Verdict (write_rules g js text) (listing_number (Wrote m))
  pub told : listing_values (Wrote m) ≡ length (text_of g.n (list_of g js)) ∷ []
  pub is : text' ≡ text_of g.n (list_of g js) ++ drop (length (text_of g.n (list_of g js))) text

pub record Keeps (g : Net) (js : List ℤ) (text : List ℕ) (c : ℕ) (text' : List ℕ) : Type 0 where
  pub why : Broken (write_rules g js text) (listing_number (Unlisted c))
  pub kept : text' ≡ text

abbrev pub WriteAnswers : Net → List ℤ → List ℕ → Listing → List ℕ → Type 0
WriteAnswers g js text (Unlisted c) text' = Keeps g js text c text'
WriteAnswers g js text (Wrote m) text' = Writes g js text m text'
