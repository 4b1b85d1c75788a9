-- `top4_sizes` meets its contract.
use native.Mathlib.Nat.{le_antisymm}
use Rattle.sizes.specs.Steps.{all_or_more}
use Rattle.sizes.proofs.Ranks.{all_fall, top_none, top_more}
use Rattle.sizes.proofs.top.top4_sizes.Goals as goal

pub loop-size-init : goal.loop-size-init
loop-size-init c = top_none _ c.args.sizes.now c.top_ones-t.ensures

pub loop-size-preserved : goal.loop-size-preserved
loop-size-preserved c = let xs = c.args.sizes.now in
    let k = c.args.ones in
    let i = c.loop-size.size-index in
    top_more k xs i (c.insert-t.ensures (all_or_more k xs i) (all_fall k xs i) c.loop-size.invariant)

pub returns : goal.returns
returns c = rw (le_antisymm c.loop-size.auto.size-index-end c.loop-size-test.false) at c.loop-size.invariant
