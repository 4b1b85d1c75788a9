-- `task_group` meets its contract. The invariant: the systems of the first x places are read.
use Prim.Native.Nat.{◌+◌}
use lib.ListN.{get_or}
use Rattle.lemmas.specs.Stores.{Filled}
use Rattle.tasks.proofs.Filling.{blank}
use Rattle.tasks.proofs.task_group.Given as goal

abbrev pub invariant-loop-x : goal.invariant-loop-x
invariant-loop-x l = Filled 0 (λ y. get_or l.order (l.base + y) 0) l.x blank l.systems
