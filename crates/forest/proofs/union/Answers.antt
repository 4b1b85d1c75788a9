-- `union` meets its contract.
use Prim.Native.Nat.{◌<◌}
use native.Mathlib.Omega.{arith}
use Rattle.forest.proofs.Forest.{climb_start, climb_turn, climb_y, climb_end}
use Rattle.forest.proofs.union.Goals as goal

pub loop-u-init : goal.loop-u-init
loop-u-init c = climb_start _ _ _ c.requires

pub loop-u-preserved-then-u-v : goal.loop-u-preserved-then-u-v
loop-u-preserved-then-u-v c = climb_y c.loop-u.invariant _ c.wide-y.ensures c.if-u-v.true

pub loop-u-preserved : goal.loop-u-preserved
loop-u-preserved c =
    let smaller : c.loop-u.v < c.loop-u.u = let ne = c.loop-u-test.true in omega (arith, c.if-u-v.false) in
    climb_turn (climb_y (climb_turn c.loop-u.invariant) _ c.wide-x.ensures smaller)

pub returns : goal.returns
returns c = climb_end c.loop-u.invariant c.loop-u-test.false
