-- A move on a group's bytes, one for each site, is the move on the rows that they stand for (11/14).
use Rattle.std.specs.Prelude.{ℕ, ◌≡◌, Bool, List, ℤ}
use Rattle.paper.specs.Answer.Cases.{Answer, Answer.Refused, Answer.Idle, Answer.Held, Answer.Moved}
use Rattle.paper.specs.Panel.Input.{Call, Choices, Buffers, size}
use Rattle.paper.specs.Panel.Made.{buffers_of}
use Rattle.paper.specs.Answer.Totals.{KeepAnswers}
use Rattle.packing.specs.Bytes.{rows_of, Narrow}

-- the buffers beside the spins
abbrev pub lent_of : List ℕ → List ℕ → List ℕ → List ℕ → List ℕ → List ℕ → List ℕ → List ℤ → Buffers
lent_of labels grey_labels counts sizes members found grey_found xs = buffers_of xs labels grey_labels counts sizes members found grey_found

-- refused, the bytes are what they were; else none has a bit too many
abbrev pub Bytes : Answer → ℕ → List ℕ → List ℕ → Type 0
Bytes (Refused r) m xs ys = ys ≡ xs
Bytes Idle m xs ys = Narrow m ys
Bytes Held m xs ys = Narrow m ys
Bytes Moved m xs ys = Narrow m ys

-- what is told of rows before and after, told of the bytes that stand for them. A byte with a bit too many shows no spin, which is refused with 3; a wrong
-- number of bytes stands for rows of a wrong length, which are refused with 2
pub record Through (m : ℕ) (Told : List ℤ → Answer → List ℤ → Type 0) (xs : List ℕ) (a : Answer) (ys : List ℕ) : Type 0 where
  pub rows : Told (rows_of m xs) a (rows_of m ys)
  pub bytes : Bytes a m xs ys

-- the answer a may be given to the call c on the bytes xs, with the totals ts and the other buffers b: it is what their rows are answered
abbrev pub PackedAnswers : Bool → Call → Choices → List ℕ → (List ℤ → Buffers) → List ℤ → Answer → List ℕ → (List ℤ → Buffers) → List ℤ → Type 0
PackedAnswers keeping c p xs b ts a ys b' ts' = Through (size c) (λ us r vs. KeepAnswers keeping c p (b us) ts r (b' vs) ts') xs a ys
