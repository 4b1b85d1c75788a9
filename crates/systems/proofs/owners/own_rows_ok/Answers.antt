-- `owners::own_rows_ok` meets its contract: after t turns the flag tells of the systems before t.
use Rattle.lemmas.specs.Tells.{said, implies, test_is, flag_more}
use Rattle.systems.proofs.owners.own_rows_ok.Goals as goal

pub loop-t-preserved : goal.loop-t-preserved
loop-t-preserved c = let row = said c.row_ok.result _ c.row_ok.ensures in
    flag_more c.loop-t.invariant c.loop-t-test.true (rw c.own.ensures (implies (test_is _) row))
