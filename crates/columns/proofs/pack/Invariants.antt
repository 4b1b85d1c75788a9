-- `pack` meets its contract. The invariant: the columns have the bits of the first k members.
use Rattle.paper.specs.Panel.Input.{pattern_of}
use Rattle.columns.specs.Column.{Columns}
use Rattle.columns.proofs.pack.Given as goal

abbrev pub invariant-loop-k : goal.invariant-loop-k
invariant-loop-k l = Columns l.n l.k (pattern_of l.n l.group l.spins) l.cols
