-- `task_choose` allows one number and one content of the area.
use Rattle.std.specs.Prelude.{ℕ, List, ℤ}
use Rattle.paper.specs.Panel.Input.{Call, Choices}
use Rattle.task_steps.specs.Choose.{Found, ChooseAnswers}
use Rattle.task_steps.specs.Determined as steps

pub task_choose_determined :
    (c : Call) (p : Choices) (xs : List ℤ) (f : Found) (area y z : List ℕ) (r r' : ℕ) → ChooseAnswers c p xs f area r y → ChooseAnswers c p xs f area r' z
    → steps.SameChosen r y r' z
task_choose_determined = steps.task_choose_determined
