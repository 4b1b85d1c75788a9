-- `run_tasks` meets its contract: the first k tasks have run, and the totals have followed them.
use mathlib.Core.Path.{◌≡◌, sym, subst}
use Prim.Native.Nat.{◌<◌}
use native.Mathlib.Nat.{le_antisymm}
use Rattle.paper.specs.Panel.Input.{Buffers}
use Rattle.paper.specs.Answer.Cases.{SweepAnswer}
use Rattle.paper.specs.Answer.Sweep.{SweepAnswers}
use Rattle.paper.specs.Answer.Task.{Sweep}
use Rattle.paper.specs.Panel.Takes.{keeps_by}
use Rattle.paper.specs.Panel.Made.{buffers_of}
use Rattle.paper.specs.Answer.Made.{sweep_of}
use Rattle.tasks.specs.Plan.{Planned, tasks_of, few_tasks}
use Rattle.sweep_tasks.specs.Ascending.{ran_none, ran_valid, ran_all}
use Rattle.sweep_tasks.specs.Totalling.{totals_none, totals_then, task_ready}
use Rattle.sweep_tasks.specs.Turning.{room_of}
use Rattle.sweep_tasks.proofs.run_tasks.Goals as goal

pub loop-k-init : goal.loop-k-init
loop-k-init c =
    let a = c.args in
    let W : Sweep =
    sweep_of a.plan a.fwd.now a.bwd.now a.pins.now a.couplings.now a.order.now a.masks.now a.temperatures.now a.cuts.now
    a.references.now a.seeds.now a.choices.now a.greys.now in
    let B : Buffers =
    buffers_of a.spins.now a.labels.now a.grey_labels.now a.counts.now a.sizes.now a.members.now a.found.now a.grey_found.now in
    record {
      ran = ran_none W B c.requires.kept;
      totals = totals_none (keeps_by a.plan.keeps a.plan.form) W.lattice a.spins.now a.totals.now;
    }

pub step-outcomes-requires : goal.step-outcomes-requires
step-outcomes-requires c =
    let a = c.args in
    let z = c.loop-k in
    let v = c.requires.kept in
    let W : Sweep =
    sweep_of a.plan a.fwd.now a.bwd.now a.pins.now a.couplings.now a.order.now a.masks.now a.temperatures.now a.cuts.now
    a.references.now a.seeds.now a.choices.now a.greys.now in
    let B : Buffers =
    buffers_of a.spins.now a.labels.now a.grey_labels.now a.counts.now a.sizes.now a.members.now a.found.now a.grey_found.now in
    let now-at : Buffers = buffers_of z.spins z.labels z.grey_labels z.counts z.sizes z.members z.found z.grey_found in
    let planned : Planned a.plan = record { ranged = v.0.ranged; few = v.0.few; some = v.0.some; all = v.0.all; enough = v.0.enough } in
    let below : z.k < tasks_of a.plan = rw c.task_count-count.ensures at c.loop-k-test.true in
    let h = z.invariant.ran in
    record {
      placing = record { task = record { planned = planned; below = below }; long = v.1.1.0.order };
      room = room_of W B z.k z.outcomes now-at (few_tasks a.plan planned) h;
      valid = ran_valid W B v z.k z.outcomes.idle z.outcomes.moved z.outcomes.held now-at below h;
      ready =
          λ _. task_ready (keeps_by a.plan.keeps a.plan.form) W B a.totals.now v c.requires.totals_asked z.k z.outcomes.idle z.outcomes.moved
          z.outcomes.held now-at z.totals below z.invariant;
    }

pub loop-k-preserved : goal.loop-k-preserved
loop-k-preserved c =
    let a = c.args in
    let z = c.loop-k in
    let t = c.step-outcomes in
    let W : Sweep =
    sweep_of a.plan a.fwd.now a.bwd.now a.pins.now a.couplings.now a.order.now a.masks.now a.temperatures.now a.cuts.now
    a.references.now a.seeds.now a.choices.now a.greys.now in
    let B : Buffers =
    buffers_of a.spins.now a.labels.now a.grey_labels.now a.counts.now a.sizes.now a.members.now a.found.now a.grey_found.now in
    let below : z.k < tasks_of a.plan = rw c.task_count-count.ensures at c.loop-k-test.true in
    record {
      ran = t.ensures.turned.further B c.requires.kept below z.invariant.ran;
      totals = totals_then W.lattice a.spins.now a.totals.now z.spins z.totals t.new.spins t.new.totals
          (keeps_by a.plan.keeps a.plan.form) z.invariant.totals t.ensures.totals_after;
    }

pub returns-clause-sweep_answers : goal.returns-clause-sweep_answers
returns-clause-sweep_answers c =
    let a = c.args in
    let z = c.loop-k in
    let W : Sweep =
    sweep_of a.plan a.fwd.now a.bwd.now a.pins.now a.couplings.now a.order.now a.masks.now a.temperatures.now a.cuts.now
    a.references.now a.seeds.now a.choices.now a.greys.now in
    let B : Buffers =
    buffers_of a.spins.now a.labels.now a.grey_labels.now a.counts.now a.sizes.now a.members.now a.found.now a.grey_found.now in
    let now-at : Buffers = buffers_of z.spins z.labels z.grey_labels z.counts z.sizes z.members z.found z.grey_found in
    let h = z.invariant.ran in
    let e : z.k ≡ tasks_of a.plan = le_antisymm {m = tasks_of a.plan} h.reached (rw c.task_count-count.ensures at c.loop-k-test.false) in
    subst (λ (told : SweepAnswer). SweepAnswers W B told now-at) (sym c.told.ensures)
    (ran_all W B c.requires.kept z.outcomes.idle z.outcomes.moved z.outcomes.held now-at (rw e at h))
