-- The machine's 4 and 2 are those of the definition: both compute to the same bits.
use Rattle.std.proofs.Common.{refl}
use lib.Ieee.{of_bits, of_int}
use Rattle.paper.proofs.Sampler.new.Goals as goal

pub returns : goal.returns
unfolding of_bits of_int
returns c = refl
