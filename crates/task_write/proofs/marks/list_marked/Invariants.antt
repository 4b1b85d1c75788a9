-- `list_marked` meets its contract. The invariant: the marked sites below the next block are listed.
use Rattle.std.specs.Prelude.{min, length}
use Rattle.task_write.specs.Marks.{Collects}
use Rattle.task_write.proofs.marks.list_marked.Given as goal

abbrev pub invariant-loop-from : goal.invariant-loop-from
invariant-loop-from l = Collects l.marks (min l.from (length l.marks)) l.initial.list l.list l.len
