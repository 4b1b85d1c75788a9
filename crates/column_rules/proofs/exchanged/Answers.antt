-- `column_rules::exchanged` meets its contract.
use Rattle.column_rules.proofs.Flips.{exchanged_is}
use Rattle.column_rules.proofs.exchanged.Goals as goal

pub returns : goal.returns
returns c = exchanged_is c.args.column c.ranges.column.fits
