-- `edges::list::Table::count` meets its contract.
use Rattle.edges.proofs.Lists.{Counting}
use Rattle.edges.proofs.list.Table.count.Given as goal

abbrev pub invariant-loop-b : goal.invariant-loop-b
invariant-loop-b l = Counting l.self.n l.self.d l.self.fwd.now l.self.couplings.now l.m l.total l.b
