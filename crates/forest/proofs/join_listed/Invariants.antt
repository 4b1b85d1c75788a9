-- `join_listed` meets its contract.
use Rattle.forest.specs.Steps.{Listed}
use Rattle.forest.proofs.Bonds.{Joining}
use Rattle.forest.proofs.join_listed.Given as goal

abbrev pub invariant-loop-site : goal.invariant-loop-site
invariant-loop-site l = Joining l.initial.labels (Listed l.d l.k l.fwd l.list) l.len l.labels l.site-index
