-- `narrow_all` meets its contract. The invariant: the first i sites are done.
use Rattle.matching.proofs.Kept.{all_none, all_more}
use Rattle.matching.proofs.narrow_all.Goals as goal

pub loop-i-init : goal.loop-i-init
loop-i-init c = all_none _ _ _ _ _ _

pub loop-i-preserved : goal.loop-i-preserved
loop-i-preserved c = all_more c.requires c.loop-i.invariant c.loop-i-test.true c.wide-label.ensures c.sources-set.ensures
