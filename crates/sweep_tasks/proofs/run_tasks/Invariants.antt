-- `run_tasks` meets its contract. The invariant: the first k tasks have run, and the totals have followed them.
use Rattle.paper.specs.Panel.Takes.{keeps_by}
use Rattle.paper.specs.Panel.Made.{buffers_of}
use Rattle.paper.specs.Answer.Made.{sweep_of}
use Rattle.sweep_tasks.specs.Totalling.{RanKeeping}
use Rattle.sweep_tasks.proofs.run_tasks.Given as goal

abbrev pub invariant-loop-k : goal.invariant-loop-k
invariant-loop-k l = RanKeeping (keeps_by l.plan.keeps l.plan.form)
    (sweep_of l.plan l.fwd l.bwd l.pins l.couplings l.order l.masks l.temperatures l.cuts l.references l.seeds l.choices l.greys)
    (buffers_of l.initial.spins l.initial.labels l.initial.grey_labels l.initial.counts l.initial.sizes l.initial.members l.initial.found
    l.initial.grey_found) l.initial.totals l.k l.outcomes.idle l.outcomes.moved l.outcomes.held
    (buffers_of l.spins l.labels l.grey_labels l.counts l.sizes l.members l.found l.grey_found) l.totals
