-- `count_up` meets its contract. The invariant: the first i entries are counted, and the next is k.
use Rattle.matching.proofs.Counted.{Counting}
use Rattle.matching.proofs.count_up.Given as goal

abbrev pub invariant-loop-place : goal.invariant-loop-place
invariant-loop-place l = Counting l.size l.k l.place-index l.initial.rows l.rows
