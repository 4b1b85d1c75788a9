-- `add_totals` meets its contract. The invariant: the totals of the first k members are paid.
use Rattle.totals.specs.Contract.{Paid}
use Rattle.totals.proofs.add_totals.Given as goal

abbrev pub invariant-loop-k : goal.invariant-loop-k
invariant-loop-k l = Paid l.k l.group l.sums l.initial.totals l.totals
