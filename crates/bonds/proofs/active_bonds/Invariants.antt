-- `bonds::active_bonds` meets its contract.
use Rattle.bonds.specs.Table.{both_acting}
use Rattle.bonds.proofs.Rows.{Begun}
use Rattle.bonds.proofs.active_bonds.Given as goal

abbrev pub invariant-loop-i : goal.invariant-loop-i
invariant-loop-i l = Begun l.n l.d (both_acting l.d l.fwd l.acts) l.i l.holds
