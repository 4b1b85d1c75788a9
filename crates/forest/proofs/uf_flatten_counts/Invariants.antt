-- `uf_flatten_counts` meets its contract.
use Rattle.forest.proofs.Flatten.{Flatten}
use Rattle.forest.proofs.uf_flatten_counts.Given as goal

abbrev pub invariant-loop-i : goal.invariant-loop-i
invariant-loop-i l = Flatten l.initial.labels l.labels l.tally l.next l.i
