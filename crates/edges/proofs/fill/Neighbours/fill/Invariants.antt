-- `edges::fill::Neighbours::fill` meets its contract.
use Rattle.edges.proofs.Going.{Going}
use Rattle.edges.proofs.fill.Neighbours.fill.Given as goal

abbrev pub invariant-loop : goal.invariant-loop
invariant-loop l = Going l.self.n l.self.d l.self.fwd.now l.text l.at l.m l.initial.cells l.cells l.p l.counter
