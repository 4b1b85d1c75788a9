-- `fill::all_small` meets its contract: the flag tells of the cells that were passed.
use Prim.Native.Nat.{◌<◌}
use lib.ListN.{get_or}
use Rattle.lemmas.specs.Tells.{Flagged}
use Rattle.edges.proofs.fill.all_small.Given as goal

abbrev pub invariant-loop-code : goal.invariant-loop-code
invariant-loop-code l = Flagged l.m (λ b. get_or l.cells b 0 < 2000002) l.code-index l.ok
