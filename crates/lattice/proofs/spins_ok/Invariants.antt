-- `spins_ok` meets its contract: after i turns the flag tells of the spins below i.
use lib.IntN.{pos}
use lib.ListN.{length, get_or}
use Rattle.lemmas.specs.Tells.{Flagged}
use Rattle.paper.specs.Refusal.Rules.{Spin}
use Rattle.lattice.proofs.spins_ok.Given as goal

abbrev pub invariant-loop-x : goal.invariant-loop-x
invariant-loop-x l = Flagged (length l.spins) (λ k. Spin (get_or l.spins k (pos 0))) l.x-index l.ok
