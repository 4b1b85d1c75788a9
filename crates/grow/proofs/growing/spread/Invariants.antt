-- `spread` meets its contract.
use Prim.Native.Nat.{◌-◌}
use Rattle.grow.specs.Kept.{Keeping}
use Rattle.grow.specs.Contract.{graph_for, ruled}
use Rattle.grow.specs.Spread.{Spreading}
use Rattle.grow.proofs.growing.spread.Given as goal

abbrev pub invariant-loop-head : goal.invariant-loop-head
invariant-loop-head l = Keeping
    (Spreading (graph_for l.rule.task l.fwd) (ruled l.rule l.fwd l.spins l.couplings l.cuts) l.rule.task.seed l.start l.initial.list l.head l.members l.list l.len)
    l.rule.task l.spins l.members l.cols

abbrev pub decreases-loop-head : goal.decreases-loop-head
decreases-loop-head l = l.rule.task.n - l.head
