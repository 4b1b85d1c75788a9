-- `choose::flip_columns` meets its contract. The invariant: the columns below i are new, the others are old.
use Rattle.lemmas.specs.Stores.{Filled}
use Rattle.choose.specs.Chosen.{flipped_at}
use Rattle.choose.proofs.flip_columns.Given as goal

abbrev pub invariant-loop-i : goal.invariant-loop-i
invariant-loop-i l = Filled 0 (flipped_at l.form l.reached l.labels l.flips l.table l.initial.cols) l.i l.initial.cols l.cols
