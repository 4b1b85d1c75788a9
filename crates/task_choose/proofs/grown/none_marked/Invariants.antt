-- `none_marked` meets its contract. The invariant: the flag tells of the sites so far.
use Prim.Native.Nat.{◌+◌}
use Rattle.task_choose.specs.Blocks.{Scanning}
use Rattle.task_choose.proofs.grown.none_marked.Given as goal

abbrev pub invariant-loop-mark : goal.invariant-loop-mark
invariant-loop-mark l = Scanning l.marks l.from l.to (l.from + l.mark-index) l.none
