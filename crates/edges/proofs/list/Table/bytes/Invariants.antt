-- `edges::list::Table::bytes` meets its contract.
use Rattle.edges.proofs.Lists.{Measuring}
use Rattle.edges.proofs.list.Table.bytes.Given as goal

abbrev pub invariant-loop-b : goal.invariant-loop-b
invariant-loop-b l = Measuring l.self.n l.self.d l.self.fwd.now l.self.couplings.now l.m l.total l.b
