-- What the promise allows for one input is one answer and one content of the lent buffer.
use Rattle.std.specs.Prelude.{◌≡◌, List, ℕ, Option}
use Rattle.laws.specs.FramesDetermined.{frames_determined}
use Rattle.frame_lines.specs.Outcome.{Written, written_of}
use Rattle.frame_lines.specs.Determined.{SameWritten, SameResult, written_result}
use Rattle.frame_lines.proofs.Determined.{written_same}
use Rattle.frame.specs.Run.{RunAs}

pub run_determined : (text out : List ℕ) (w w' : Written) (a a' : List ℕ) → RunAs text out w a → RunAs text out w' a' → SameWritten w w' a a'
run_determined text out w w' a a' p q = written_same p.answer out w w' a a' p.written (rw same q.written)
  where
    same : p.answer ≡ q.answer
    same = frames_determined text p.answer q.answer p.answers q.answers

-- and one result of the function
pub run_result_determined : (text out : List ℕ) (x y : Option ℕ) (a a' : List ℕ) → RunAs text out (written_of x) a → RunAs text out (written_of y) a'
    → SameResult x y a a'
run_result_determined text out x y a a' p q = written_result x y a a' (run_determined text out (written_of x) (written_of y) a a' p q)
