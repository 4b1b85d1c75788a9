-- `bonds::blue_bonds` meets its contract.
use Rattle.bonds.specs.Table.{blue_at}
use Rattle.bonds.proofs.Rows.{Begun}
use Rattle.bonds.proofs.blue_bonds.Given as goal

abbrev pub invariant-loop-i : goal.invariant-loop-i
invariant-loop-i l = Begun l.n l.d (blue_at l.d l.fwd l.couplings l.cuts l.sampler l.cols) l.i l.blue
