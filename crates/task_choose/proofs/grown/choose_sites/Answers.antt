-- `choose_sites` meets its contract. The invariant: the members below i have their columns.
use Prim.Native.Nat.{◌<◌}
use native.Mathlib.Omega.{arith}
use lib.ListN.{length}
use Rattle.task_choose.specs.Blocks.{upto_more, between_set, between_skip}
use Rattle.task_choose.proofs.grown.choose_sites.Goals.{then-members-i-eq1, else-members-i-eq1}
use Rattle.task_choose.proofs.grown.choose_sites.Goals as goal

pub loop-i-preserved : goal.loop-i-preserved
loop-i-preserved c =
    let site : c.loop-i.i < c.args.t.n = omega (arith, c.requires.part.within) in
    let i = c.loop-i in
    let long : i.i < length i.area = omega (arith, site, c.requires.listing.area_long, i.invariant.done.long) in
    elim c.if-members-i-eq1.branch [
      | then-members-i-eq1 w ↦
          rw w.area-is (upto_more i.invariant (omega arith) (omega arith) (between_set _ _ long w.if-members-i-eq1.true w.member_column.ensures))
      | else-members-i-eq1 w ↦
          rw w.area-is (upto_more i.invariant (omega arith) (omega arith) (between_skip _ _ w.if-members-i-eq1.false))
    ]
