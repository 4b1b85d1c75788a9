-- `turn_columns` meets its contract. The invariant: the first x sites of the list have their new columns.
use Rattle.turn.specs.Turned.{ColumnsTurned}
use Rattle.turn.proofs.turn_columns.Given as goal

abbrev pub invariant-loop-x : goal.invariant-loop-x
invariant-loop-x l = ColumnsTurned l.t l.gauge l.choices l.greys l.list l.cols l.blue l.x l.initial.news l.news
