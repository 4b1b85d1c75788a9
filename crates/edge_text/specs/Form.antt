-- The form of an edge list, as document 02 has it: the text is the rendering of these numbers and nothing else.
-- Of the characters' codes, 10 is the line feed, 32 the blank and 45 the minus.
use Rattle.std.specs.Prelude.{ℕ, suc, List, [], ◌∷◌, ◌++◌, length, ℤ, pos, negsuc}
use Rattle.edge_text.specs.declared.Edge.{Edge}
use Rattle.edge_text.specs.Decimal.{decimal}

-- a coupling: a minus stands only before a number that is not 0
abbrev pub signed : ℤ → List ℕ
signed (pos v) = decimal v
signed (negsuc v) = 45 ∷ decimal (suc v)

-- "i j J" with a line feed; sites are counted from 0 in an edge and from 1 in its line
abbrev pub line_of : Edge → List ℕ
line_of e = decimal (suc e.from) ++ (32 ∷ (decimal (suc e.to) ++ (32 ∷ (signed e.coupling ++ (10 ∷ [])))))

unfoldable pub lines_of : List Edge → List ℕ
lines_of [] = []
lines_of (e ∷ es) = line_of e ++ lines_of es

-- "n m" with a line feed
abbrev pub head_of : ℕ → ℕ → List ℕ
head_of n m = decimal n ++ (32 ∷ (decimal m ++ (10 ∷ [])))

-- the whole text: m is the number of the lines behind the first
abbrev pub text_of : ℕ → List Edge → List ℕ
text_of n es = head_of n (length es) ++ lines_of es
