-- `write_rows` meets its contract. The invariant: the rows of the first k members are written.
use Rattle.columns.specs.Rows.{Written}
use Rattle.columns.proofs.write_rows.Given as goal

abbrev pub invariant-loop-k : goal.invariant-loop-k
invariant-loop-k l = Written l.n l.k l.group l.cols l.initial.spins l.spins
