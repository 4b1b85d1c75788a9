-- `highest` meets its contract: eight set bits less those that no member has.
use Rattle.packing.proofs.Answered.{top_is}
use Rattle.packing.proofs.highest.Goals as goal

pub returns : goal.returns
returns c = top_is c.args.members c.requires
