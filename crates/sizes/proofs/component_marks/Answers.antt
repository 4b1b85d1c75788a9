-- `component_marks` meets its contract.
use Prim.Native.Nat.{◌-◌, ◌+◌}
use mathlib.Core.Path.{◌≡◌}
use native.Mathlib.Omega.{arith}
use Rattle.sizes.proofs.Numbers.{mark_more}
use Rattle.sizes.proofs.component_marks.Goals as goal

pub loop-i-preserved : goal.loop-i-preserved
loop-i-preserved c =
    let next : c.loop-i.i ≡ (c.loop-i.i - 1) + 1 = omega (arith, c.loop-i-test.true) in
    mark_more c.loop-i.invariant c.requires _ next _ c.wide-r.ensures
