-- `fresh` meets its contract: after j turns the flag tells of the systems before j.
use mathlib.Core.Path.{◌≡◌}
use lib.ListN.{get_or}
use Rattle.lemmas.specs.Tells.{Flagged}
use Rattle.lattice.proofs.fresh.Given as goal

abbrev pub invariant-loop-j : goal.invariant-loop-j
invariant-loop-j l = Flagged l.k (λ j. get_or l.systems j 0 ≡ l.x → ⊥) l.j l.ok
