-- `gather` meets its contract.
use lib.ListN.{length}
use Rattle.paper.specs.Component.Marks.{marked}
use Rattle.forest.proofs.Lists.{Gather}
use Rattle.forest.proofs.gather.Given as goal

abbrev pub invariant-loop-i : goal.invariant-loop-i
invariant-loop-i l = Gather (λ x. marked l.d l.holds x l.k) l.lo l.hi l.d l.k (length l.initial.list) l.list l.len l.at l.i
