-- `frame_text::line_start` meets its contract: what was passed are no line feeds.
use Rattle.frame_text.specs.Line.{CleanFrom}
use Rattle.frame_text.proofs.line_start.Given as goal

abbrev pub invariant-loop-i : goal.invariant-loop-i
invariant-loop-i l = CleanFrom l.text l.i
