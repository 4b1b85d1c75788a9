-- `some_pinned` meets its contract. The invariant: the flag tells of the places from `from` that were passed.
use Prim.Native.Nat.{◌+◌}
use Rattle.grow.specs.Pinned.{Looking}
use Rattle.grow.proofs.held.some_pinned.Given as goal

abbrev pub invariant-loop-site : goal.invariant-loop-site
invariant-loop-site l = Looking l.pins l.list l.from l.to (l.from + l.site-index) l.found
