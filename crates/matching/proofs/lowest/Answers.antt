-- `lowest` meets its contract.
use Rattle.matching.specs.Bits.{trailing_lowest}
use Rattle.matching.proofs.lowest.Goals as goal

pub returns : goal.returns
returns c = trailing_lowest 8 c.args.x c.requires c.ranges.x.fits
