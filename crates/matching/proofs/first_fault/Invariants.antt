-- `first_fault` meets its contract. The invariant: the first r sets are settled.
use Rattle.matching.proofs.Rows.{Settling}
use Rattle.matching.proofs.first_fault.Given as goal

abbrev pub invariant-loop-r : goal.invariant-loop-r
invariant-loop-r l = Settling l.size l.sets l.initial.rows l.r l.rows
