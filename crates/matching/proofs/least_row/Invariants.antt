-- `least_row` meets its contract. The invariant: the first k places are settled.
use Rattle.matching.proofs.Word.{Going}
use Rattle.matching.proofs.least_row.Given as goal

abbrev pub invariant-loop-place : goal.invariant-loop-place
invariant-loop-place l = Going l.initial.row l.place-index l.free l.row
