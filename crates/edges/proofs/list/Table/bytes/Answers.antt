-- `edges::list::Table::bytes` meets its contract.
use Rattle.edges.proofs.Lists.{measuring_none, measuring_more}
use Rattle.edges.proofs.list.Table.bytes.Goals as goal

pub loop-b-init : goal.loop-b-init
loop-b-init c = measuring_none _ _ _ _

pub loop-b-preserved : goal.loop-b-preserved
loop-b-preserved c = measuring_more _ _ _ _ _ _ c.loop-b-test.true _ _ c.loop-b.invariant c.entry_length-total.ensures
