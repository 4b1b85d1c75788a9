-- `add_bond` meets its contract. The invariant: the first k sums have their change, and the others are as they were.
use lib.ListN.{get_or}
use lib.IntN.{pos, ◌+ℤ◌}
use Rattle.lemmas.specs.Stores.{Filled}
use Rattle.totals.specs.Gain.{bit_gain}
use Rattle.totals.proofs.add_bond.Given as goal

abbrev pub invariant-loop-k : goal.invariant-loop-k
invariant-loop-k l = Filled (pos 0) (λ i. get_or l.initial.sums i (pos 0) +ℤ bit_gain l.j l.x l.y i) l.k l.initial.sums l.sums
