-- `gather_near` meets its contract. The invariant: the sites next to i in the first e directions are gathered.
use Rattle.totals.proofs.Gathered.{gathered_as, gathered_both, near_more}
use Rattle.totals.proofs.gather_near.Goals as goal

pub loop-e-preserved : goal.loop-e-preserved
loop-e-preserved c =
    gathered_as (gathered_both (gathered_both c.loop-e.invariant c.gather_one.ensures) c.gather_one-in-loop-e.ensures)
    (near_more c.wide-to.ensures c.wide-from.ensures)
