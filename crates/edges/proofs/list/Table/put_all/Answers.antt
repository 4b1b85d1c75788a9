-- `edges::list::Table::put_all` meets its contract.
use Rattle.edges.proofs.Lists.{putting_none, putting_more, putting_room}
use Rattle.edges.proofs.list.Table.put_all.Goals as goal

pub loop-b-init : goal.loop-b-init
loop-b-init c = putting_none _ _ _ _ _ _

pub put_entry-p-requires : goal.put_entry-p-requires
put_entry-p-requires c = putting_room _ _ _ _ _ _ c.loop-b-test.true c.requires.tabled c.loop-b.invariant c.requires.fits

pub loop-b-preserved : goal.loop-b-preserved
loop-b-preserved c = putting_more _ _ _ _ _ _ c.loop-b-test.true c.loop-b.invariant c.put_entry-p.ensures
