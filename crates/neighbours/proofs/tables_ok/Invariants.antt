-- `tables_ok` meets its contract: after i turns the flag tells of the sites below i, in one sense, and that gives both.
use Rattle.lemmas.specs.Tells.{Each, Flagged}
use Rattle.paper.specs.Refusal.Rules.{Back}
use Rattle.neighbours.proofs.tables_ok.Given as goal

abbrev pub invariant-loop-i : goal.invariant-loop-i
invariant-loop-i l = Flagged l.n (λ i. Each l.d (λ e. Back l.n l.d l.fwd l.bwd i e)) l.i l.ok
