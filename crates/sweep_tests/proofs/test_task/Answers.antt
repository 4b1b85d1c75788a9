-- `test_task` meets its contract: a masked task keeps its rules, and of any other the verdict is that on its parts.
use mathlib.Core.Path.{sym, ◌∙◌}
use Rattle.sweep_tests.specs.Tasks.{task_tested, told_parts}
use Rattle.sweep_tests.proofs.test_task.Goals as goal

pub test_choices-requires : goal.test_choices-requires
test_choices-requires c = let a = c.args in
    rw (c.task_of.ensures, c.task_choices.ensures, c.task_greys.ensures)
    (task_tested c.requires a.inputs.now.temperatures.now a.inputs.now.references.now a.inputs.now.seeds.now)

pub returns : goal.returns
returns c = told_parts (sym c.masked.ensures ∙ c.if-masked.false)
    c.task_of.ensures
    c.task_cuts.ensures
    c.task_choices.ensures
    c.task_greys.ensures
    c.test_choices.ensures
