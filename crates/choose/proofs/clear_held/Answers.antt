-- `choose::clear_held` meets its contract. The invariant: the components with a pinned site below i are out of the tally.
use Prim.Native.Nat.{◌<◌}
use native.Mathlib.Omega.{arith}
use lib.ListN.{length, get_or}
use Rattle.choose.proofs.Back.{back_none, back_skip, back_more, back_end}
use Rattle.choose.proofs.clear_held.Goals as goal
use Rattle.choose.proofs.clear_held.Goals.{then-pin-eq1, else-pin-eq1}

pub loop-i-init : goal.loop-i-init
loop-i-init c = back_none _ _ _

pub loop-i-preserved : goal.loop-i-preserved
loop-i-preserved c =
    let below : get_or c.args.labels.now c.loop-i.i 0 < length c.args.tally.now =
    omega (arith, c.requires.below c.loop-i.i c.loop-i-test.true, c.requires.tallied) in
    let b = c.loop-i.invariant in
    elim c.if-pin-eq1.branch [
      | then-pin-eq1 w ↦ rw w.tally-is (back_more _ _ b c.loop-i-test.true w.if-pin-eq1.true w.wide-label.ensures (omega (arith, below, w.wide-label.ensures)))
      | else-pin-eq1 w ↦ rw w.tally-is (back_skip _ _ b c.loop-i-test.true w.if-pin-eq1.false)
    ]

pub returns : goal.returns
returns c = let l = c.loop-i in
    back_end _ _ l.invariant c.requires.labelled c.loop-i-test.false
