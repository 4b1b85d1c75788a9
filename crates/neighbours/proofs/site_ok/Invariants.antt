-- `site_ok` meets its contract: after e turns the flag tells of the directions below e.
use Rattle.lemmas.specs.Tells.{Flagged}
use Rattle.paper.specs.Refusal.Rules.{Back}
use Rattle.neighbours.proofs.site_ok.Given as goal

abbrev pub invariant-loop-e : goal.invariant-loop-e
invariant-loop-e l = Flagged l.d (λ e. Back l.n l.d l.a l.b l.i e) l.e l.ok
