-- `write_site` meets its contract. The invariant: the spins of the first k members are written.
use Rattle.columns.specs.Rows.{group_of, SiteWritten}
use Rattle.columns.proofs.write_site.Given as goal

abbrev pub invariant-loop-k : goal.invariant-loop-k
invariant-loop-k l = SiteWritten l.n l.k (group_of l.len l.systems) l.i l.column l.initial.spins l.spins
