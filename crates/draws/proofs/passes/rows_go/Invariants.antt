-- `rows_go` meets its contract. The invariant: the first i draws are made, and none is refused.
use Rattle.draws.specs.Fill.{go_down, RowsGo}
use Rattle.draws.proofs.Filling.{Stopped}
use Rattle.draws.proofs.passes.rows_go.Given as goal

abbrev pub invariant-loop : goal.invariant-loop
invariant-loop l = Stopped (go_down l.moving l.members) l.counter l.initial.source l.source × RowsGo l.moving l.members l.counter l.initial.source
