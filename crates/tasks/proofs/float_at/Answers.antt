-- `float_at` meets its contract: past the end the code's NAN is what the definition reads there, not a number.
use Rattle.std.proofs.Common.{arith}
use Rattle.std.proofs.lemmas.Grind.{common_steps}
use lib.Ieee.{div, of_bits}
use Rattle.tasks.proofs.float_at.Goals as goal

pub returns : goal.returns
unfolding div of_bits
returns c = grind (arith, common_steps)
