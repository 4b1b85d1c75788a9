-- `moving_row` meets its contract. The invariant: with the permutations left to try, the present source gives what the lent one gives.
use Rattle.std.proofs.Common.{◌≡◌, ◌-◌}
use Rattle.draws.specs.Rows.{retried}
use Rattle.draws.proofs.rows.moving_row.Given as goal

abbrev pub invariant-loop : goal.invariant-loop
invariant-loop l = retried l.fn.s (l.budget - l.counter) l.members l.source ≡ retried l.fn.s l.budget l.members l.fn.s
