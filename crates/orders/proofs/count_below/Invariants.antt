-- `count_below` meets its contract: the bytes that were passed are counted.
use Rattle.std.proofs.Common.{◌≡◌, ltb, take, count_by}
use Rattle.orders.proofs.count_below.Given as goal

abbrev pub invariant-loop-y : goal.invariant-loop-y
invariant-loop-y l = l.n ≡ count_by (λ y. ltb y l.x) (take l.y-index l.xs)
