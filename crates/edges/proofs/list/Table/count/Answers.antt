-- `edges::list::Table::count` meets its contract.
use Rattle.edges.proofs.Lists.{counting_none, counting_more}
use Rattle.edges.proofs.list.Table.count.Goals as goal

pub loop-b-init : goal.loop-b-init
loop-b-init c = counting_none _ _ _ _

pub loop-b-preserved : goal.loop-b-preserved
loop-b-preserved c = counting_more _ _ _ _ _ _ c.loop-b-test.true _ _ c.loop-b.invariant c.entry_count-total.ensures
