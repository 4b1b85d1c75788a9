-- `union` meets its contract.
use Prim.Native.Nat.{◌+◌}
use Rattle.forest.proofs.Forest.{Climb}
use Rattle.forest.proofs.union.Given as goal

abbrev pub invariant-loop-u : goal.invariant-loop-u
invariant-loop-u l = Climb l.initial.labels l.a l.b l.labels l.x l.y l.u l.v

abbrev pub decreases-loop-u : goal.decreases-loop-u
decreases-loop-u l = l.x + l.y + l.u + l.v
