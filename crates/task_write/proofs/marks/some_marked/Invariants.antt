-- `some_marked` meets its contract. The invariant: the flag tells of the sites so far.
use Prim.Native.Nat.{◌+◌}
use Rattle.task_write.specs.Marks.{Looked}
use Rattle.task_write.proofs.marks.some_marked.Given as goal

abbrev pub invariant-loop-mark : goal.invariant-loop-mark
invariant-loop-mark l = Looked l.marks l.from l.to (l.from + l.mark-index) l.found
