-- `cut_ok` meets its contract, with the literals by their bits.
use lib.Ieee.{div, of_bits, of_int}
use Rattle.lattice.proofs.Cuts.{meaning}
use Rattle.lattice.proofs.cut_ok.Goals as goal

pub returns : goal.returns
unfolding of_bits of_int div
returns c = meaning c.args.x
