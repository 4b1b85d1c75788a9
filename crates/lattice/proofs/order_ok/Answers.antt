-- `order_ok` meets its contract: after k turns the flag tells of the first k systems, and these are marked.
use native.Mathlib.Omega.{arith}
use borrow.Author.Rules.{rules}
use Rattle.lemmas.specs.Tells.{said, flag_more}
use Rattle.lattice.specs.Marking.{mark_below}
use Rattle.lattice.specs.Groups.{alone_free}
use Rattle.lattice.proofs.order_ok.Goals as goal

pub loop-system-preserved : goal.loop-system-preserved
loop-system-preserved c = let i = c.loop-system.invariant in
    record {
      flag = flag_more i.flag (search rules) (alone_free i.marked (said c.free_below-ok.result _ (rw c.wide-x.ensures at c.free_below-ok.ensures)));
      marked = mark_below (omega (arith, c.requires.long)) (rw c.wide-x.ensures at c.marked_below-marks.ensures) i.marked;
    }
