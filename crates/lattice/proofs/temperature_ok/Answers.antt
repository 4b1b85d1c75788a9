-- `temperature_ok` meets its contract: the literals by their bits are the definition's bounds.
use mathlib.Core.Bool.{◌&&◌}
use lib.Ieee.{binary32, div, le, of_bits, of_int}
use Rattle.lemmas.specs.Tells.{test_is}
use Rattle.paper.specs.Site.Bonds.{whole}
use Rattle.lattice.proofs.temperature_ok.Goals as goal

pub returns : goal.returns
unfolding of_bits of_int div
returns c = (test_is (le (div binary32 (whole 1) (whole 1024)) c.args.t && le c.args.t (whole 1048576))).says
