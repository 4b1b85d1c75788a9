-- `step` meets its contract: a masked task is passed over; any other has its parts and its areas lent, and they are put back.
use mathlib.Core.Path.{sym, ◌∙◌}
use Rattle.paper.specs.Panel.Input.{Buffers}
use Rattle.paper.specs.Answer.Task.{Sweep}
use Rattle.paper.specs.Panel.Made.{buffers_of}
use Rattle.paper.specs.Answer.Cases.{answer_by}
use Rattle.paper.specs.Answer.Made.{sweep_of}
use Rattle.sweep_tasks.specs.Running.{Parts, valid_parts, answers_parts, areas_lent, steps_put}
use Rattle.sweep_tasks.specs.Turning.{turned_masked, turned_one}
use Rattle.sweep_tasks.proofs.step.Goals as goal

pub returns-then-masked-clause-turned : goal.returns-then-masked-clause-turned
returns-then-masked-clause-turned c =
    let a = c.args in
    let W : Sweep =
    sweep_of a.plan a.fwd.now a.bwd.now a.pins.now a.couplings.now a.order.now a.masks.now a.temperatures.now a.cuts.now
    a.references.now a.seeds.now a.choices.now a.greys.now in
    let B : Buffers =
    buffers_of a.spins.now a.labels.now a.grey_labels.now a.counts.now a.sizes.now a.members.now a.found.now a.grey_found.now in
    turned_masked W a.k a.outcomes B (sym c.masked.ensures ∙ c.if-masked.true)

pub run_form-answer-requires-clause-valid : goal.run_form-answer-requires-clause-valid
run_form-answer-requires-clause-valid c =
    let a = c.args in
    let W : Sweep =
    sweep_of a.plan a.fwd.now a.bwd.now a.pins.now a.couplings.now a.order.now a.masks.now a.temperatures.now a.cuts.now
    a.references.now a.seeds.now a.choices.now a.greys.now in
    let B : Buffers =
    buffers_of a.spins.now a.labels.now a.grey_labels.now a.counts.now a.sizes.now a.members.now a.found.now a.grey_found.now in
    let parts : Parts a.plan.keeps W a.k c.task_of.result c.task_cuts.result.now c.task_choices.result.now c.task_greys.result.now = record {
      task = c.task_of.ensures;
      cuts = c.task_cuts.ensures;
      choices = c.task_choices.ensures;
      greys = c.task_greys.ensures;
    } in
    let lent = areas_lent W a.k B c.bounds-label.ensures c.bounds-grey.ensures c.bounds-count.ensures c.bounds-size.ensures
    c.bounds-member.ensures c.bounds-number.ensures c.bounds-grey_number.ensures in
    valid_parts parts (rw lent at (c.requires.valid (sym c.masked.ensures ∙ c.if-masked.false)))

pub returns-clause-turned : goal.returns-clause-turned
returns-clause-turned c =
    let a = c.args in
    let W : Sweep =
    sweep_of a.plan a.fwd.now a.bwd.now a.pins.now a.couplings.now a.order.now a.masks.now a.temperatures.now a.cuts.now
    a.references.now a.seeds.now a.choices.now a.greys.now in
    let B : Buffers =
    buffers_of a.spins.now a.labels.now a.grey_labels.now a.counts.now a.sizes.now a.members.now a.found.now a.grey_found.now in
    let parts : Parts a.plan.keeps W a.k c.task_of.result c.task_cuts.result.now c.task_choices.result.now c.task_greys.result.now = record {
      task = c.task_of.ensures;
      cuts = c.task_cuts.ensures;
      choices = c.task_choices.ensures;
      greys = c.task_greys.ensures;
    } in
    let z = c.run_form-answer in
    turned_one W a.k a.outcomes B (answer_by z.result) c.add.result _ (sym c.masked.ensures ∙ c.if-masked.false)
    (steps_put W a.k B c.bounds-label.ensures c.bounds-grey.ensures c.bounds-count.ensures c.bounds-size.ensures
    c.bounds-member.ensures c.bounds-number.ensures c.bounds-grey_number.ensures
    z.new.spins z.new.labels z.new.grey_labels z.new.counts z.new.sizes z.new.members z.new.found z.new.grey_found
    z.auto.labels z.auto.grey_labels z.auto.counts z.auto.sizes z.auto.members z.auto.found z.auto.grey_found
    (answer_by z.result) (answers_parts parts _ _ (answer_by z.result) z.ensures.answers)) c.add.ensures
