-- `owners::own_count` meets its contract: the bytes that were passed are counted.
use Rattle.std.proofs.Common.{◌≡◌, eqb, take, count_by}
use Rattle.systems.proofs.owners.own_count.Given as goal

abbrev pub invariant-loop-owner : goal.invariant-loop-owner
invariant-loop-owner l = l.count ≡ count_by (λ owner. eqb owner l.team) (take l.owner-index l.owners)
