-- `count_up` meets its contract. The invariant: the first i entries are counted, and the next is k.
use Rattle.matching.proofs.Counted.{counting_more}
use Rattle.matching.proofs.count_up.Goals as goal

pub loop-place-preserved : goal.loop-place-preserved
loop-place-preserved c = counting_more c.loop-place.invariant c.loop-place-test.true c.following-k.ensures
