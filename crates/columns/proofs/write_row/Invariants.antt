-- `write_row` meets its contract. The invariant: the first i spins are written.
use lib.ListN.{get_or}
use lib.IntN.{pos}
use Rattle.lemmas.specs.Stores.{Filled}
use Rattle.columns.specs.Column.{shown}
use Rattle.columns.proofs.write_row.Given as goal

abbrev pub invariant-loop-i : goal.invariant-loop-i
invariant-loop-i l = Filled (pos 0) (λ j. shown (get_or l.cols j 0) l.k) l.i l.initial.row l.row
