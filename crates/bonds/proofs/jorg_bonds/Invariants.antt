-- `bonds::jorg_bonds` meets its contract.
use Rattle.bonds.specs.Table.{jorg_at}
use Rattle.bonds.proofs.Rows.{Marking}
use Rattle.bonds.proofs.jorg_bonds.Given as goal

abbrev pub invariant-loop-i : goal.invariant-loop-i
invariant-loop-i l = Marking l.n l.d (jorg_at l.d l.fwd l.couplings l.cuts l.len l.sampler l.acts l.cols) l.i l.holds
