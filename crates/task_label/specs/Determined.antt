-- `task_label` allows one answer and one content of every buffer.
use Rattle.std.specs.Prelude.{List, ℕ}
use Rattle.paper.specs.Answer.Cases.{Answer}
use Rattle.paper.specs.Panel.Input.{Call, Choices, Buffers}
use Rattle.task_steps.specs.Label.{LabelAnswers}
use Rattle.task_steps.specs.Determined as steps

pub task_label_determined :
    (c : Call) (p : Choices) (b : Buffers) (blue : List ℕ) (y z : Buffers) (u v : List ℕ) (a a' : Answer) → LabelAnswers c p b blue a y u
    → LabelAnswers c p b blue a' z v → steps.SameLabel a y u a' z v
task_label_determined = steps.task_label_determined
