-- `sources` meets its contract.
use Rattle.matching.proofs.Bytes.{may_pinned, may_free}
use Rattle.matching.proofs.sources.Goals as goal

pub returns-then-pin-eq1 : goal.returns-then-pin-eq1
returns-then-pin-eq1 c = rw (c.repeat.ensures, c.spread.ensures) (may_pinned c.ranges.old.fits c.ranges.new.fits c.if-pin-eq1.true)

pub returns-else-pin-eq1 : goal.returns-else-pin-eq1
returns-else-pin-eq1 c = rw (c.repeat.ensures, c.spread.ensures) (may_free c.ranges.old.fits c.ranges.new.fits c.if-pin-eq1.false)
