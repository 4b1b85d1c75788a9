-- `least_row` meets its contract. The invariant: the first k places are settled.
use lib.ListN.{length-set}
use Rattle.lemmas.specs.Bools.{never}
use Rattle.matching.proofs.Word.{going_none, going_stuck, going_more, going_end}
use Rattle.matching.proofs.least_row.Goals as goal

pub loop-place-init : goal.loop-place-init
loop-place-init c = going_none _

pub returns-then-left-eq0 : goal.returns-then-left-eq0
returns-then-left-eq0 c =
    let w = c.loop-place.invariant in
    record {
      long = simp length-set w.long;
      told = going_stuck c.requires w c.loop-place-test.true c.if-left-eq0.true;
      least = λ e. never e;
    }

pub loop-place-preserved : goal.loop-place-preserved
loop-place-preserved c = going_more c.requires c.loop-place.invariant c.loop-place-test.true c.lowest-j.ensures

pub returns : goal.returns
returns c = going_end c.loop-place.invariant c.loop-place-test.false
