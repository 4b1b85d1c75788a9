-- `bonds::cmr_bonds` meets its contract.
use Rattle.bonds.proofs.Rows.{begun_more}
use Rattle.bonds.proofs.cmr_bonds.Goals as goal

pub loop-i-preserved : goal.loop-i-preserved
loop-i-preserved c = let l = c.loop-i in
    (begun_more _ _ _ l.i _ l.invariant.0 _ c.cmr_site.ensures.blue, begun_more _ _ _ l.i _ l.invariant.1 _ c.cmr_site.ensures.grey)
