-- `bonds::active_bonds` meets its contract.
use Rattle.bonds.proofs.Rows.{begun_more}
use Rattle.bonds.proofs.active_bonds.Goals as goal

pub loop-i-preserved : goal.loop-i-preserved
loop-i-preserved c = let l = c.loop-i in
    begun_more _ _ _ l.i _ l.invariant _ c.active_site.ensures
