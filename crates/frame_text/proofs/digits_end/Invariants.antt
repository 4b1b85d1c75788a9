-- `frame_text::digits_end` meets its contract: what was passed are digits.
use Rattle.frame_text.specs.Line.{DigitsTo}
use Rattle.frame_text.proofs.digits_end.Given as goal

abbrev pub invariant-loop-end : goal.invariant-loop-end
invariant-loop-end l = DigitsTo l.text l.at l.end
