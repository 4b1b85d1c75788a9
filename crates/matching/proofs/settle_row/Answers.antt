-- `settle_row` meets its contract.
use Rattle.matching.proofs.Rows.{settled_own, row_asks, settled_row}
use Rattle.matching.proofs.settle_row.Goals as goal

pub returns-then-set-own : goal.returns-then-set-own
returns-then-set-own c = settled_own c.requires c.if-set-own.true

pub least_row-requires : goal.least_row-requires
least_row-requires c = row_asks c.requires c.unpack.ensures

pub returns : goal.returns
returns c = settled_row c.requires c.unpack.ensures c.least_row.ensures
