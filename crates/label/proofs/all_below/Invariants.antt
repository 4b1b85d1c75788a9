-- `all_below` meets its contract: the flag tells of the numbers that were passed.
use Prim.Native.Nat.{◌<◌}
use lib.ListN.{length, get_or}
use Rattle.lemmas.specs.Tells.{Flagged}
use Rattle.label.proofs.all_below.Given as goal

abbrev pub invariant-loop-x : goal.invariant-loop-x
invariant-loop-x l = Flagged (length l.xs) (λ k. get_or l.xs k 0 < l.n) l.x-index l.ok
