-- What is drawn from a source: a word, a coin, a number below m. A draw answers with 0, the value and the source after its words, or it is refused with 12.
use Rattle.std.specs.Prelude.{◌≡◌, ℕ, zero, suc, ◌*◌, ◌/◌, ◌%◌, ◌^◌, ◌≤◌, Bool, true, cond, ◌&&◌, nat_le, nat_lt}
use Rattle.draws.specs.declared.Source.{Source}
use Rattle.draws.specs.Answer.{Drawn, Left}
use Rattle.draws.specs.Words.{word, next, is_blank, drawn, stepped}

abbrev pub left : ℕ → Source → Left
left r s = record { refusal = r; source = s }

-- refused: the value is 0 and the source as lent
abbrev pub refused : Source → Drawn
refused s = drawn 12 0 s

-- the top bit of a word
abbrev pub flipped : Source → Drawn
flipped s = drawn 0 (word s / 2 ^ 63) (next s)

-- the high 32 bits of a word
abbrev pub high : ℕ → ℕ
high w = w / 2 ^ 32

-- m times floor(2^32 / m): a word whose high bits are not below it is taken again
abbrev pub limit : ℕ → ℕ
limit m = m * (2 ^ 32 / m)

-- a number below m from the source s, with so many words to try; refused, `lent` is handed back
unfoldable pub tried : Source → ℕ → ℕ → Source → Drawn
tried lent zero m s = refused lent
tried lent (suc k) m s = cond (nat_lt (high (word s)) (limit m)) (drawn 0 (high (word s) % m) (next s)) (tried lent k m (next s))

-- 64 words in a row may be tried
abbrev pub number : ℕ → Source → Drawn
number m s = tried s 64 m s

abbrev pub within : ℕ → ℕ → ℕ → Bool
within low top x = nat_le low x && nat_le x top

abbrev pub Within : ℕ → ℕ → ℕ → Type 0
Within low top x = within low top x ≡ true

-- what a function that draws below m is handed with it
pub record Topped (m top : ℕ) : Type 0 where
  pub some : 1 ≤ m
  pub at : top ≡ limit m

abbrev pub new_of : Source → Left
new_of s = cond (is_blank s) (left 12 s) (left 0 s)

abbrev pub word_of : Source → Drawn
word_of s = cond (is_blank s) (refused s) (stepped s)

abbrev pub coin_of : Source → Drawn
coin_of s = cond (is_blank s) (refused s) (flipped s)

abbrev pub below_of : ℕ → ℕ → Source → Drawn
below_of budget m s = cond (is_blank s) (refused s) (cond (within 1 4096 m) (tried s budget m s) (refused s))
