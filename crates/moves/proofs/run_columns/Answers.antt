-- `run_columns` meets its contract: the label step, and the choose step where columns may change.
use mathlib.Core.Path.{◌≡◌, sym, ◌∙◌}
use mathlib.Core.Bool.{true, false}
use mathlib.Core.List.{[]}
use Rattle.paper.specs.Panel.Input.{Call, Choices, Buffers}
use Rattle.paper.specs.Answer.Cases.{answer_by}
use Rattle.paper.specs.Panel.Made.{call_of, choices_of, buffers_of}
use Rattle.moves.specs.Tested.{ready}
use Rattle.moves.specs.Leaves.{changes}
use Rattle.moves.specs.Answered as answered
use Rattle.moves.specs.Done as done
use Rattle.moves.proofs.run_columns.Goals as goal

pub label_task-answer-requires : goal.label_task-answer-requires
label_task-answer-requires c =
    let choicesAt : Choices = choices_of c.args.choices.now c.args.greys.now in
    let a = c.args in
    answered.task_asks a.t a.fwd.now a.bwd.now a.pins.now a.couplings.now a.cuts.now choicesAt
    c.requires.labelled c.requires.valid c.requires.columns

pub returns-then-not-changed : goal.returns-then-not-changed
returns-then-not-changed c =
    let choicesAt : Choices = choices_of c.args.choices.now c.args.greys.now in
    let still : changes c.args.t.form (answer_by c.label_task-answer.result) ≡ false = sym c.changed.ensures ∙ c.if-not-changed.true in
    let a = c.args in
    rw c.copy.ensures
    (done.stays_leaves a.t a.fwd.now a.bwd.now a.pins.now a.couplings.now a.cuts.now choicesAt c.requires
    c.label_task-answer.ensures still)

pub choose_task-requires : goal.choose_task-requires
choose_task-requires c =
    let call_at : Call = let a = c.args in call_of a.t a.fwd.now a.bwd.now a.pins.now a.couplings.now a.cuts.now in
    let choicesAt : Choices = choices_of c.args.choices.now c.args.greys.now in
    let lent_at : Buffers = let a = c.args in buffers_of c.requires.rows a.labels.now a.grey_labels.now a.counts.now a.sizes.now []
    a.found.now a.grey_found.now in
    let goes : changes c.args.t.form (answer_by c.label_task-answer.result) ≡ true = sym c.changed.ensures ∙ c.if-not-changed.false in
    let a = c.args in
    rw c.copy.ensures
    (answered.choose_asks a.t a.fwd.now a.bwd.now a.pins.now a.couplings.now a.cuts.now choicesAt
    c.requires.labelled c.requires.valid
    (c.label_task-answer.ensures a.bwd.now c.requires.rows (ready call_at choicesAt lent_at c.requires.valid.sound) c.requires.columns)
    goes)

pub returns : goal.returns
returns c =
    let choicesAt : Choices = choices_of c.args.choices.now c.args.greys.now in
    let goes : changes c.args.t.form (answer_by c.label_task-answer.result) ≡ true = sym c.changed.ensures ∙ c.if-not-changed.false in
    let a = c.args in
    done.goes_leaves a.t a.fwd.now a.bwd.now a.pins.now a.couplings.now a.cuts.now choicesAt c.requires
    c.label_task-answer.ensures goes (rw c.copy.ensures at c.choose_task.ensures)
