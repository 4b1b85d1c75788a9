-- `start` meets its contract.
use Rattle.lemmas.specs.Stores.{Filled}
use Rattle.forest.proofs.start.Given as goal

abbrev pub invariant-loop-i : goal.invariant-loop-i
invariant-loop-i l = Filled 0 (λ x. x) l.i l.initial.labels l.labels
