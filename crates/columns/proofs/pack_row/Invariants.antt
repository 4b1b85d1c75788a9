-- `pack_row` meets its contract. The invariant: the first i columns have their bit.
use Rattle.lemmas.specs.Stores.{Filled}
use Rattle.columns.specs.Rows.{added}
use Rattle.columns.proofs.pack_row.Given as goal

abbrev pub invariant-loop-i : goal.invariant-loop-i
invariant-loop-i l = Filled 0 (added l.initial.cols l.row l.weight) l.i l.initial.cols l.cols
