-- `read_listed` meets its contract. The invariant: the columns of the sites of the list so far are read.
use Rattle.grow.specs.Totals.{OldsRead}
use Rattle.task_write.proofs.grown.read_listed.Given as goal

abbrev pub invariant-loop-site : goal.invariant-loop-site
invariant-loop-site l = OldsRead l.n l.group l.rows l.list l.site-index l.cols
