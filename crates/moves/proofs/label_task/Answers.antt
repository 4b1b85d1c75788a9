-- `label_task` meets its contract: the labels, and then the sizes without the held components.
use mathlib.Core.List.{[]}
use Rattle.moves.specs.Labelled.{free_asks, task_leaves}
use Rattle.moves.proofs.label_task.Goals as goal

pub free_task-requires : goal.free_task-requires
free_task-requires c = let w = c.requires.label in
    free_asks c.requires [] w.tested (c.label_columns-some.ensures [] c.args.pins.now w.rows w.tested w.columns)

pub returns : goal.returns
returns c = λ bwd xs tested w.
    task_leaves c.requires bwd tested (c.label_columns-some.ensures bwd c.args.pins.now xs tested w) c.free_task.ensures
