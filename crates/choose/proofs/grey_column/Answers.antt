-- `choose::grey_column` meets its contract, by its sixteen cases.
use native.Mathlib.Omega.{arith}
use Rattle.choose.proofs.Xor.{xor_flips}
use Rattle.choose.proofs.grey_column.Goals as goal

pub returns : goal.returns
returns c = xor_flips c.args.grey c.args.column (omega (arith, c.requires.small)) c.requires.two
