-- `label_rows` meets its contract: the rows are packed, and their columns labelled.
use Rattle.paper.specs.Panel.Made.{call_of}
use Rattle.paper.specs.Answer.Cases.{answer_by}
use Rattle.moves.specs.Tested.{ready}
use Rattle.moves.specs.Answered as answered
use Rattle.task_label.specs.Labelled.{labelled_leaves}
use Rattle.task_label.proofs.labelled.label_rows.Goals as goal

pub label_task-requires : goal.label_task-requires
label_task-requires c = let a = c.args in
    answered.task_asks a.t a.fwd.now c.requires.bwd a.pins.now a.couplings.now a.cuts.now c.requires.choices c.requires.labelled
    c.requires.valid c.pack.ensures

pub returns : goal.returns
returns c = let a = c.args in
    labelled_leaves a.t a.fwd.now a.pins.now a.couplings.now a.cuts.now a.rows.now (answer_by c.label_task.result)
    c.label_task.ensures
    (ready (call_of a.t a.fwd.now c.requires.bwd a.pins.now a.couplings.now a.cuts.now) c.requires.choices _ c.requires.valid.sound)
    c.pack.ensures
