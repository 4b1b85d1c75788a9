-- `edges::fill::Neighbours::scan` meets its contract: no way that was passed leads there by a free bond.
use Rattle.edges.proofs.Find.{Scanning}
use Rattle.edges.proofs.fill.Neighbours.scan.Given as goal

abbrev pub invariant-loop-way : goal.invariant-loop-way
invariant-loop-way l = Scanning l.self.d l.self.fwd.now l.cells l.from l.to l.way
