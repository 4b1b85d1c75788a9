-- `temperatures_ok` meets its contract: after i turns the flag tells of the temperatures below i.
use lib.Ieee.{nan}
use lib.ListN.{length, get_or}
use Rattle.lemmas.specs.Tells.{Flagged}
use Rattle.paper.specs.Refusal.Rules.{Warm}
use Rattle.lattice.proofs.temperatures_ok.Given as goal

abbrev pub invariant-loop-t : goal.invariant-loop-t
invariant-loop-t l = Flagged (length l.ts) (λ k. Warm (get_or l.ts k nan)) l.t-index l.ok
