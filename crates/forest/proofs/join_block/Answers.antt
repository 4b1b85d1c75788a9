-- `join_block` meets its contract.
use mathlib.Core.Path.{refl}
use native.Mathlib.Omega.{arith}
use Rattle.paper.specs.Component.Marks.{marked}
use Rattle.forest.proofs.Bonds.{block_start, block_more}
use Rattle.forest.proofs.join_block.Goals as goal

pub loop-k-init : goal.loop-k-init
loop-k-init c = record { forest = block_start _ _ _ _ _ c.requires.bonding.down; list_long = refl }

pub loop-k-preserved : goal.loop-k-preserved
loop-k-preserved c = record {
  forest = block_more c.args.d c.args.fwd.now (marked c.args.d c.args.holds.now) c.args.lo c.args.hi
      c.loop-k.invariant.forest c.loop-k-test.true c.gather-len.ensures c.join_listed.ensures;
  list_long = omega (arith, c.loop-k.invariant.list_long);
}
