-- Document 01's rows to prove, as one statement. Rows/Proved.antt proves it.
use Rattle.std.specs.Prelude.{ℕ, ◌≡◌, List}
use Rattle.paper.specs.declared.Mode.TheVariants.{Pair, Perm}
use Rattle.paper.specs.Answer.Cases.{Answer, Answer.Refused, Answer.Moved}
use Rattle.paper.specs.Panel.Input.{graph, Call, Choices, Buffers}
use Rattle.paper.specs.Site.Bonds.{holds}
use Rattle.paper.specs.Component.Labels.{Numbered}
use Rattle.paper.specs.Move.Moving.{Moves}
use Rattle.paper.specs.Answer.Move.{Answers}
use Rattle.paper.specs.Answer.Frame.{FrameAnswers}
use Rattle.paper.specs.Rows.Cases.{houd4, no_choices, before12, after12, frame, frame_perms, all_flips, before13, after13}
use Rattle.paper.specs.Rows.Cases.{moved13, case_text, case_out}
use Rattle.paper.specs.Rows.Values.{Values}
use Rattle.laws.specs.Determined.{Same}

-- the call is accepted and answers so, and nothing else
pub record Gives (c : Call) (p : Choices) (b b' : Buffers) : Type 0 where
  pub gives : Answers c p b Moved b'
  pub only : (a : Answer) (z : Buffers) → Answers c p b a z → Same Moved b' a z

-- the program writes this for the text, and nothing else
pub record Writes (text out : List ℕ) : Type 0 where
  pub writes : FrameAnswers text out
  pub only : (other : List ℕ) → FrameAnswers text other → out ≡ other

-- row 12, on the definitions: since 10/14 such a move is refused, as `refused` says. That the bond sum 2 becomes -2 is in the values
pub record HoudOfFour : Type 0 where
  pub components : Numbered (graph houd4) (holds houd4 before12.spins) after12.labels after12.found
  pub moves : Moves houd4 no_choices before12.spins after12.labels after12.grey_labels after12.spins
  pub refused : Answers houd4 no_choices before12 (Refused 15) before12

pub record Table : Type 0 where
  pub values : Values
  pub row12 : HoudOfFour
  pub row13 : Writes case_text case_out
  -- the same case as a move, and as pair SW with all flips 1
  pub row13_move : Gives (frame Perm) frame_perms before13 (after13 moved13)
  pub row13_pair : Gives (frame Pair) all_flips before13 (after13 before13.spins)
