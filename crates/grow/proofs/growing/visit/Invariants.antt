-- `visit` meets its contract.
use Rattle.grow.specs.Kept.{Keeping}
use Rattle.grow.specs.Growth.{Visiting}
use Rattle.grow.specs.Contract.{graph_for, ruled}
use Rattle.grow.proofs.growing.visit.Given as goal

abbrev pub invariant-loop-e : goal.invariant-loop-e
invariant-loop-e l = Keeping
    (Visiting (graph_for l.rule.task l.fwd) (ruled l.rule l.fwd l.spins l.couplings l.cuts) l.rule.task.seed l.i l.initial.members l.initial.list l.start
    l.e l.members l.list l.len)
    l.rule.task l.spins l.members l.cols
