-- `uf_bonds` meets its contract.
use mathlib.Core.Path.{refl}
use native.Mathlib.Omega.{arith}
use Rattle.paper.specs.Component.Marks.{marked}
use Rattle.forest.proofs.Bonds.{all_start, all_more}
use Rattle.forest.proofs.uf_bonds.Goals as goal

pub loop-lo-init : goal.loop-lo-init
loop-lo-init c = record { forest = all_start _ _ _ _ c.requires.down; list_long = refl }

pub loop-lo-preserved : goal.loop-lo-preserved
loop-lo-preserved c = record {
  forest = all_more c.args.d c.args.fwd.now (marked c.args.d c.args.holds.now) c.loop-lo.invariant.forest
      c.block_end-hi.ensures.some c.block_end-hi.ensures.inside c.join_block.ensures;
  list_long = omega (arith, c.loop-lo.invariant.list_long);
}
