-- `marked_at_most` meets its contract: the flag tells of the sites so far.
use Prim.Native.Nat.{◌≤◌}
use mathlib.Core.Path.{◌≡◌}
use lib.ListN.{length, get_or}
use Rattle.lemmas.specs.Tells.{Flagged}
use Rattle.task_write.proofs.tested.marked_at_most.Given as goal

abbrev pub invariant-loop-i : goal.invariant-loop-i
invariant-loop-i l = Flagged (length l.area) (λ k. get_or l.members k 0 ≡ 1 → get_or l.area k 0 ≤ l.top) l.i l.ok
