-- `gather_sizes` meets its contract.
use Rattle.sizes.proofs.Picks.{pick_none, pick_more}
use Rattle.sizes.proofs.gather_sizes.Goals as goal

pub loop-r-init : goal.loop-r-init
loop-r-init c = pick_none _ _ _ _

pub loop-r-preserved : goal.loop-r-preserved
loop-r-preserved c = pick_more c.loop-r.invariant c.requires c.loop-r-test.true _ _ c.from-all.ensures c.from-len.ensures
