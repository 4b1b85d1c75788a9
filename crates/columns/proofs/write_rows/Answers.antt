-- `write_rows` meets its contract. The invariant: the rows of the first k members are written.
use Rattle.columns.proofs.Lent.{row_written}
use Rattle.columns.proofs.write_rows.Goals as goal

pub loop-k-preserved : goal.loop-k-preserved
loop-k-preserved c =
    row_written c.loop-k-test.true c.loop-k.invariant c.requires.inside c.requires.distinct c.write_row.ensures
