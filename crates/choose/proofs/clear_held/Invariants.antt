-- `choose::clear_held` meets its contract. The invariant: the components with a pinned site below i are out of the tally.
use Rattle.choose.proofs.Back.{Back}
use Rattle.choose.proofs.clear_held.Given as goal

abbrev pub invariant-loop-i : goal.invariant-loop-i
invariant-loop-i l = Back l.pins l.labels l.initial.tally l.i l.tally
