-- `write_listed` meets its contract. The invariant: the first sites of the list are written.
use Rattle.columns.specs.Rows.{group_of}
use Rattle.turn.specs.Turned.{ListWritten}
use Rattle.turn.proofs.write_listed.Given as goal

abbrev pub invariant-loop-site : goal.invariant-loop-site
invariant-loop-site l = ListWritten l.n (group_of l.size l.systems) l.list l.site-index l.news l.initial.spins l.spins
