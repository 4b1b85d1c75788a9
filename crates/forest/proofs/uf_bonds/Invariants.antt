-- `uf_bonds` meets its contract.
use Prim.Native.Nat.{◌-◌}
use lib.ListN.{length}
use Rattle.paper.specs.Component.Marks.{marked}
use Rattle.forest.specs.Steps.{Part}
use Rattle.forest.proofs.Bonds.{Joins}
use Rattle.forest.proofs.uf_bonds.Given as goal

abbrev pub invariant-loop-lo : goal.invariant-loop-lo
invariant-loop-lo l = Joins l.initial.labels (λ i. Part l.d l.fwd (marked l.d l.holds) 0 i l.d) (length l.initial.labels) (length l.initial.list) l.labels l.list l.lo

abbrev pub decreases-loop-lo : goal.decreases-loop-lo
decreases-loop-lo l = l.n - l.lo
