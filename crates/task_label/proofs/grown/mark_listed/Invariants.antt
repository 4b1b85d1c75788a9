-- `mark_listed` meets its contract. The invariant: the sites of the list so far are marked, and no other.
use lib.ListN.{length}
use Rattle.task_label.specs.Marking.{MarksListed}
use Rattle.task_label.proofs.grown.mark_listed.Given as goal

abbrev pub invariant-loop-site : goal.invariant-loop-site
invariant-loop-site l = MarksListed (length l.initial.marks) l.list l.site-index l.marks
