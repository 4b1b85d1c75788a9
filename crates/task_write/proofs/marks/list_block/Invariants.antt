-- `list_block` meets its contract. The invariant: the marked sites below i are listed.
use Rattle.task_write.specs.Marks.{Collects}
use Rattle.task_write.proofs.marks.list_block.Given as goal

abbrev pub invariant-loop-i : goal.invariant-loop-i
invariant-loop-i l = Collects l.marks l.i l.initial.list l.list l.k
