-- A text that is read in pieces: what is kept of it has its answers, whatever follows.
use Rattle.std.specs.Prelude.{ℕ, List, [], ◌++◌, take}
use Rattle.std.proofs.Common.{append_assoc}
use Rattle.frame_text.specs.declared.Part.TheVariants.{Enough, More}
use Rattle.frame_text.specs.Cut.{SameAnswers, Follows, CutAs}
use Rattle.frame_text.specs.Kept.{same_self}

-- what is kept of a text that is read so far: a piece is put behind it, and it is cut
pub data Read : List ℕ → List ℕ → Type 0 where
  nothing : Read [] []
  piece : {text kept : List ℕ} → Read text kept → (xs : List ℕ) → Read (text ++ xs) (kept ++ xs)
  cut : {text : List ℕ} (buffer : List ℕ) (n m : ℕ) → Read text (take n buffer) → CutAs buffer n (More m) → Read text (take m buffer)

same_then : {t u v : List ℕ} → SameAnswers t u → SameAnswers u v → SameAnswers t v
same_then p q = record { to = λ out h. q.to out (p.to out h); from = λ out h. p.from out (q.from out h) }

pub read_same : {text kept : List ℕ} → Read text kept → (rest : List ℕ) → SameAnswers (text ++ rest) (kept ++ rest)
read_same nothing rest = same_self rest
read_same (piece {text} {kept} r xs) rest = rw (append_assoc text xs rest, append_assoc kept xs rest) (read_same r (xs ++ rest))
read_same (cut buffer n m r c) rest = same_then (read_same r rest) (c.same rest)

-- what is kept where it is enough is answered as the whole text
pub pieces_same : {text : List ℕ} (rest buffer : List ℕ) (n m : ℕ) → Read text (take n buffer) → CutAs buffer n (Enough m) → Follows buffer n rest
    → SameAnswers (text ++ rest) (take m buffer)
pieces_same rest buffer n m r c f = same_then (read_same r rest) (c.same rest f)
