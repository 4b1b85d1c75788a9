-- What `tsorvenk_frames` answers.
use Rattle.std.specs.Prelude.{ℕ, ◌≡◌, List, length}
use Rattle.frame_lines.specs.Outcome.{Written}
use Rattle.frame_lines.specs.Number.{written_number, written_values}
use Rattle.frame.specs.Run.{RunAs}
use Rattle.tsorvenk.specs.Number.{Returned, values_to}

-- what is lent to write to: the answer's text, and a buffer of one number for its length
pub record Framed : Type 0 where
  pub out : List ℕ
  pub written : List ℕ

abbrev pub framed : List ℕ → List ℕ → Framed
framed out ws = record { out = out; written = ws }

-- the program ran on the text, and this became of its answer; the length is written where the answer is
pub record Ran (text : List ℕ) (l : Framed) (w : Written) (l' : Framed) : Type 0 where
  pub runs : RunAs text l.out w l'.out
  pub length_told : l'.written ≡ values_to (written_values w) l.written

-- there is no place for the length
pub record Unframed (l : Framed) (r : ℕ) (l' : Framed) : Type 0 where
  pub number : r ≡ 2
  pub kept : l' ≡ l

pub record FramesNumbers (text : List ℕ) (l : Framed) (r : ℕ) (l' : Framed) : Type 0 where
  pub roomed : length l.written ≡ 1 → Returned written_number (λ w. Ran text l w l') r
  pub roomless : (length l.written ≡ 1 → ⊥) → Unframed l r l'
