-- `copy` meets its contract: after i turns the first i columns are there.
use lib.ListN.{get_or}
use Rattle.lemmas.specs.Stores.{Filled}
use Rattle.columns.proofs.copy.Given as goal

abbrev pub invariant-loop-i : goal.invariant-loop-i
invariant-loop-i l = Filled 0 (λ j. get_or l.cols j 0) l.i l.initial.to l.to
