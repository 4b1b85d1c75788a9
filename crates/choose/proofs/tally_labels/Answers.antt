-- `choose::tally_labels` meets its contract. The invariant: the sites below i are counted.
use Prim.Native.Nat.{◌<◌}
use mathlib.Core.Path.{refl}
use native.Mathlib.Omega.{arith}
use lib.ListN.{length, get_or}
use Rattle.choose.proofs.Tallied.{tally_none, tally_most, tally_more, tally_end}
use Rattle.choose.proofs.tally_labels.Goals as goal

pub loop-label-init : goal.loop-label-init
loop-label-init c = tally_none _ c.clear.ensures c.requires.holdable.tallied

pub overflow_add-tally : goal.overflow_add-tally
overflow_add-tally c =
    let below : get_or c.args.labels.now c.loop-label.label-index 0 < length c.args.labels.now =
    c.requires.holdable.below c.loop-label.label-index c.loop-label-test.true in
    let place : c.wide.result < length c.args.labels.now = omega (arith, below, c.wide.ensures) in
    omega (arith, tally_most _ c.loop-label.invariant c.wide.result place, c.loop-label-test.true, c.requires.few)

pub loop-label-preserved : goal.loop-label-preserved
loop-label-preserved c =
    let below : get_or c.args.labels.now c.loop-label.label-index 0 < length c.args.labels.now =
    c.requires.holdable.below c.loop-label.label-index c.loop-label-test.true in
    let place : c.wide.result < length c.args.labels.now = omega (arith, below, c.wide.ensures) in
    tally_more _ c.loop-label.invariant c.loop-label-test.true c.wide.ensures place refl

pub returns : goal.returns
returns c = tally_end _ c.loop-label.invariant c.loop-label-test.false
