-- `row_marks` meets its contract: after k turns the first k are marked.
use Prim.Native.Nat.{◌+◌, ◌<◌}
use borrow.Author.Rules.{rules}
use lib.ListN.{get_or}
use Rattle.lattice.specs.Marking.{mark_more}
use Rattle.lattice.proofs.row_marks.Goals as goal

pub loop-k-preserved : goal.loop-k-preserved
loop-k-preserved c =
    let byte : get_or c.args.perms.now (c.args.at + c.loop-k.k) 0 < c.args.m = c.requires.below (c.args.at + c.loop-k.k) (search rules) in
    rw c.marked-marks.ensures (mark_more (search rules) byte c.loop-k.invariant)
