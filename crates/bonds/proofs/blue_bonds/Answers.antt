-- `bonds::blue_bonds` meets its contract.
use Rattle.bonds.proofs.Rows.{begun_more}
use Rattle.bonds.proofs.blue_bonds.Goals as goal

pub loop-i-preserved : goal.loop-i-preserved
loop-i-preserved c = let l = c.loop-i in
    begun_more _ _ _ l.i _ l.invariant _ c.blue_site.ensures
