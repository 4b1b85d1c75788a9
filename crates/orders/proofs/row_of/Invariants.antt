-- `row_of` meets its contract: after k turns the first k entries are written.
use Prim.Native.Nat.{◌≤◌}
use Rattle.lemmas.specs.Stores.{Filled}
use Rattle.orders.specs.Table.{row}
use Rattle.orders.proofs.row_of.Given as goal

abbrev pub invariant-loop-k : goal.invariant-loop-k
invariant-loop-k l = (l.k ≤ 5) × Filled 0 (row l.number) l.k l.initial.row l.row
