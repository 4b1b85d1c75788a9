-- `numbers_go` meets its contract. The invariant: the first i draws are made, and none is refused.
use Rattle.draws.specs.Draw.{number}
use Rattle.draws.specs.Fill.{go_on, NumbersGo}
use Rattle.draws.proofs.Filling.{Stopped}
use Rattle.draws.proofs.passes.numbers_go.Given as goal

abbrev pub invariant-loop : goal.invariant-loop
invariant-loop l = Stopped (go_on (number l.m)) l.counter l.initial.source l.source × NumbersGo (number l.m) l.counter l.initial.source
