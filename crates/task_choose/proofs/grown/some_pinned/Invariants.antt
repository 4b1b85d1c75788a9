-- `some_pinned` meets its contract. The invariant: the flag tells of the sites so far.
use Rattle.task_choose.proofs.Pins.{Finding}
use Rattle.task_choose.proofs.grown.some_pinned.Given as goal

abbrev pub invariant-loop-i : goal.invariant-loop-i
invariant-loop-i l = Finding l.pins l.marks l.i l.found
