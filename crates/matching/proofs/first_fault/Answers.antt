-- `first_fault` meets its contract. The invariant: the first r sets are settled.
use Rattle.lemmas.specs.Tells.{denied}
use Rattle.matching.proofs.Rows.{settling_more, settled_none, word_asks}
use Rattle.matching.proofs.first_fault.Goals as goal

pub settle_row-requires : goal.settle_row-requires
settle_row-requires c = word_asks c.requires c.loop-r.invariant c.loop-r-test.true c.own_places-own.ensures

pub returns-then-not-settle_row : goal.returns-then-not-settle_row
returns-then-not-settle_row c = settled_none c.requires c.loop-r.invariant c.loop-r-test.true c.settle_row.ensures
    (denied c.if-not-settle_row.true c.settle_row.ensures.told)

pub loop-r-preserved : goal.loop-r-preserved
loop-r-preserved c = settling_more c.requires c.loop-r.invariant c.loop-r-test.true c.settle_row.ensures c.if-not-settle_row.false
