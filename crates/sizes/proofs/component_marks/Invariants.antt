-- `component_marks` meets its contract.
use lib.ListN.{length}
use Rattle.sizes.proofs.Numbers.{Mark}
use Rattle.sizes.proofs.component_marks.Given as goal

abbrev pub invariant-loop-i : goal.invariant-loop-i
invariant-loop-i l = Mark l.labels l.marks (length l.initial.bytes) l.bytes l.i
