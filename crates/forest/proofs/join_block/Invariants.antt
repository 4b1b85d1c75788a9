-- `join_block` meets its contract.
use lib.ListN.{length}
use Rattle.paper.specs.Component.Marks.{marked}
use Rattle.forest.specs.Steps.{Part}
use Rattle.forest.proofs.Bonds.{Joins}
use Rattle.forest.proofs.join_block.Given as goal

abbrev pub invariant-loop-k : goal.invariant-loop-k
invariant-loop-k l = Joins l.initial.labels (Part l.d l.fwd (marked l.d l.holds) l.lo l.hi) l.d (length l.initial.list) l.labels l.list l.k
