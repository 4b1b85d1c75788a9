-- What each case of an answer stands for: its number, 0 where the call is accepted, and its values.
use Rattle.std.specs.Prelude.{ℕ, List, [], ◌∷◌}
use Rattle.frame_lines.specs.Outcome.{Found}
use Rattle.frame_lines.specs.Outcome.Found.{Fault, Panel}
use Rattle.frame_lines.specs.Outcome.{Written}
use Rattle.frame_lines.specs.Outcome.Written.{Wrote, NoRoom}

-- of a text that is read: the paper's number. The sizes that a panel comes with are those of `Readout`
abbrev pub found_number : Found → ℕ
found_number (Fault r) = r
found_number (Panel z) = 0

-- of what becomes of an answer's text, with the number of its bytes. The paper knows no want of room: 65 is no number of its table
abbrev pub written_number : Written → ℕ
written_number (Wrote m) = 0
written_number NoRoom = 65

abbrev pub written_values : Written → List ℕ
written_values (Wrote m) = m ∷ []
written_values NoRoom = []
