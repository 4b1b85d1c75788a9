-- `number` meets its contract. The invariant: with the words left to try, the present source gives what the lent one gives.
use Rattle.std.proofs.Common.{◌≡◌, ◌-◌}
use Rattle.draws.specs.Draw.{tried}
use Rattle.draws.proofs.number.Given as goal

abbrev pub invariant-loop : goal.invariant-loop
invariant-loop l = tried l.fn.s (l.budget - l.counter) l.m l.source ≡ tried l.fn.s l.budget l.m l.fn.s
