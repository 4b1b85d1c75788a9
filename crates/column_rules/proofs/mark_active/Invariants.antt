-- `column_rules::mark_active` meets its contract. The invariant: the first i sites are looked up, and `found` tells of them.
use Rattle.column_rules.proofs.Marking.{Looking}
use Rattle.column_rules.proofs.mark_active.Given as goal

abbrev pub invariant-loop-i : goal.invariant-loop-i
invariant-loop-i l = Looking l.table l.gauge l.cols l.initial.acts l.acts l.found l.i
