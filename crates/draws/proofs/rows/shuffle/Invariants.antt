-- `shuffle` meets its contract. The invariant: the places from i down, exchanged in the present row, make the permutation of the lent source.
use Rattle.std.proofs.Common.{◌≡◌, ◌-◌}
use Rattle.draws.specs.Rows.{shuffled, permuted}
use Rattle.draws.proofs.rows.shuffle.Given as goal

abbrev pub invariant-loop-i : goal.invariant-loop-i
invariant-loop-i l = shuffled l.fn.s (l.i - 1) l.row l.source ≡ permuted l.members l.fn.s
