-- `some_pinned` meets its contract. The invariant: the flag tells of the sites below i.
use Rattle.task_choose.proofs.Pins.{find_start, find_more, find_end}
use Rattle.task_choose.proofs.grown.some_pinned.Goals as goal

pub loop-i-init : goal.loop-i-init
loop-i-init c = find_start _ _

pub loop-i-preserved : goal.loop-i-preserved
loop-i-preserved c = find_more c.loop-i.invariant c.loop-i-test.true

pub returns : goal.returns
returns c = find_end c.loop-i.invariant c.loop-i-test.false
