-- `spread` meets its contract.
use Prim.Native.Nat.{◌-◌, ◌<◌}
use native.Mathlib.Omega.{arith}
use Rattle.grow.specs.Spread.{spread_high, spread_room, next_spreading, next_at, spread_more, spread_end}
use Rattle.grow.proofs.growing.spread.Goals as goal

pub next-i-requires : goal.next-i-requires
next-i-requires c = let room = spread_room c.loop-head.invariant.grown in
    record { head_lt = omega (arith, c.loop-head-test.true, room); last_lt = omega (arith, c.loop-head-test.true, room) }

pub visit-len-requires-clause-growing : goal.visit-len-requires-clause-growing
visit-len-requires-clause-growing c =
    (next_spreading c.loop-head.invariant.grown c.loop-head-test.true (c.loop-head.len - 1) (omega arith) c.next-i.ensures).growing

pub loop-head-smaller : goal.loop-head-smaller
loop-head-smaller c =
    let waits : c.loop-head.head < c.args.rule.task.n = omega (arith, c.loop-head-test.true, spread_high c.loop-head.invariant.grown) in
    omega (arith, waits)

pub loop-head-preserved : goal.loop-head-preserved
loop-head-preserved c = let was = c.loop-head.invariant.grown in
    let hl = c.loop-head-test.true in
    let last = c.loop-head.len - 1 in
    let next = next_spreading was hl last (omega arith) c.next-i.ensures in
    record {
      grown = spread_more next hl (next_at was hl last (omega arith) c.next-i.ensures) c.visit-len.ensures.grown;
      kept = c.visit-len.ensures.kept;
    }

pub returns : goal.returns
returns c = let inv = c.loop-head.invariant in record { grown = spread_end inv.grown c.loop-head-test.false; kept = inv.kept }
