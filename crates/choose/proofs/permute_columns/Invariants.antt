-- `choose::permute_columns` meets its contract. The invariant: the columns below i are new, the others are old.
use Rattle.lemmas.specs.Stores.{Filled}
use Rattle.choose.specs.Chosen.{permuted_at}
use Rattle.choose.proofs.permute_columns.Given as goal

abbrev pub invariant-loop-i : goal.invariant-loop-i
invariant-loop-i l = Filled 0 (permuted_at l.form l.group.len l.gauge l.reached l.labels l.perms l.initial.cols) l.i l.initial.cols l.cols
