-- `pack` meets its contract. The invariant: the columns have the bits of the first k members.
use Prim.Native.Nat.{◌+◌, ◌*◌, ◌≤◌}
use native.Mathlib.Omega.{arith}
use lib.ListN.{length, length-take, length-drop}
use Rattle.paper.specs.Panel.Input.{member}
use Rattle.columns.proofs.Packed.{room, weight, none_packed, row_packed, row_test}
use Rattle.columns.proofs.pack.Goals as goal

pub loop-k-init : goal.loop-k-init
loop-k-init c = none_packed c.requires.long c.clear.ensures

pub pack_row-requires : goal.pack_row-requires
pack_row-requires c =
    let row : let a = c.args in member a.group c.loop-k.k * a.n + a.n ≤ length a.spins.now = c.requires.inside c.loop-k.k c.loop-k-test.true in
    let was = c.loop-k.invariant in
    record {
      long = simp (length-take, length-drop) (omega (arith, row, was.long));
      fits = room _ was (omega arith) (weight c.loop-k.k (omega arith));
    }

pub loop-k-preserved : goal.loop-k-preserved
loop-k-preserved c = let k = c.loop-k.k in
    let a = c.args in
    row_packed c.loop-k.invariant (weight k (omega arith)) c.pack_row.ensures
    (λ i j. row_test a.spins.now (member a.group k * a.n) a.n i j)
