-- `bytes_at_most` meets its contract: after i turns the flag tells of the bytes below i.
use Prim.Native.Nat.{◌≤◌}
use lib.ListN.{length, get_or}
use Rattle.lemmas.specs.Tells.{Flagged}
use Rattle.lattice.proofs.bytes_at_most.Given as goal

abbrev pub invariant-loop-x : goal.invariant-loop-x
invariant-loop-x l = Flagged (length l.xs) (λ k. get_or l.xs k 0 ≤ l.top) l.x-index l.ok
