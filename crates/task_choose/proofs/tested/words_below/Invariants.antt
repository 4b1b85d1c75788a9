-- `words_below` meets its contract: the flag tells of the words so far.
use Prim.Native.Nat.{◌<◌}
use lib.ListN.{length, get_or}
use Rattle.lemmas.specs.Tells.{Flagged}
use Rattle.task_choose.proofs.tested.words_below.Given as goal

abbrev pub invariant-loop-x : goal.invariant-loop-x
invariant-loop-x l = Flagged (length l.xs) (λ k. get_or l.xs k 0 < l.top) l.x-index l.ok
