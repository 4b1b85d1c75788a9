-- `uf_flatten_counts` meets its contract.
use Prim.Native.Nat.{◌≤◌, ◌<◌}
use native.Mathlib.Omega.{arith}
use lib.Dec.{eqb}
use lib.ListN.{length, length-set}
use Rattle.lemmas.specs.Counts.{bit_le}
use Rattle.forest.proofs.Flatten.{flatten_start, number_le, tally_fits, next_le, flatten_more, flatten_end}
use Rattle.forest.proofs.uf_flatten_counts.Goals as goal

pub loop-i-init : goal.loop-i-init
loop-i-init c = flatten_start _ _ c.requires

pub bounds-tally-wide : goal.bounds-tally-wide
bounds-tally-wide c =
    let among : c.loop-i.i < length c.loop-i.labels = omega arith in
    let place : c.wide.result ≤ c.loop-i.i = rw c.wide.ensures (number_le c.loop-i.invariant among _ c.wide-p.ensures _ c.pick-r.ensures) in
    simp length-set (omega (arith, place))

pub overflow_add-tally : goal.overflow_add-tally
overflow_add-tally c =
    let among : c.loop-i.i < length c.loop-i.labels = omega arith in
    omega (arith, tally_fits c.loop-i.invariant among _ c.wide-p.ensures _ c.pick-r.ensures _ c.wide.ensures)

pub bounds-tally-wide-in-loop-i : goal.bounds-tally-wide-in-loop-i
bounds-tally-wide-in-loop-i c =
    let among : c.loop-i.i < length c.loop-i.labels = omega arith in
    let place : c.wide.result ≤ c.loop-i.i = rw c.wide.ensures (number_le c.loop-i.invariant among _ c.wide-p.ensures _ c.pick-r.ensures) in
    simp length-set (omega (arith, place))

pub overflow_add-next : goal.overflow_add-next
overflow_add-next c =
    let among : c.loop-i.i < length c.loop-i.labels = omega arith in
    omega (arith, next_le c.loop-i.invariant among _ c.wide-p.ensures, bit_le (eqb c.wide-p.result c.loop-i.i))

pub loop-i-preserved : goal.loop-i-preserved
loop-i-preserved c =
    let among : c.loop-i.i < length c.loop-i.labels = omega arith in
    rw c.from-next.ensures (flatten_more c.loop-i.invariant among _ c.wide-p.ensures _ c.pick-r.ensures _ c.wide.ensures)

pub returns : goal.returns
returns c = flatten_end c.loop-i.invariant (rw c.loop-i.auto.labels c.loop-i-test.false)
