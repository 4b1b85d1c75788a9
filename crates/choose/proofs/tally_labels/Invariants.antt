-- `choose::tally_labels` meets its contract. The invariant: the sites below i are counted.
use Rattle.choose.proofs.Tallied.{Tally}
use Rattle.choose.proofs.tally_labels.Given as goal

abbrev pub invariant-loop-label : goal.invariant-loop-label
invariant-loop-label l = Tally l.labels l.label-index l.tally
