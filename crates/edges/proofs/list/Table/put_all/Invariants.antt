-- `edges::list::Table::put_all` meets its contract.
use Rattle.edges.proofs.Lists.{Putting}
use Rattle.edges.proofs.list.Table.put_all.Given as goal

abbrev pub invariant-loop-b : goal.invariant-loop-b
invariant-loop-b l = Putting l.self.n l.self.d l.self.fwd.now l.self.couplings.now l.initial.out l.at l.m l.out l.p l.b
