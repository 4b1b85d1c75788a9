-- `frame_lines::put::put_byte` meets its contract.
use Rattle.frame_lines.specs.Writing.{two_digits}
use Rattle.frame_lines.proofs.put.put_byte.Goals as goal

pub returns : goal.returns
returns c = two_digits _ _ _ _ _ c.digit_of.ensures c.digit_of-2.ensures
