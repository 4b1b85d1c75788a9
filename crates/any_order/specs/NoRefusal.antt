-- What it says that a step is not refused, and that none of a task's three is.
use Rattle.std.specs.Prelude.{ℕ, ◌≡◌, Bool}
use Rattle.paper.specs.Answer.Move.{Accepted}
use Rattle.paper.specs.Answer.Task.{Sweep}
use Rattle.any_order.specs.Schedule.{Step, Step.label, Step.choose, Step.write, Alone}
use Rattle.any_order.specs.Tasks.{Holding, DoesFor}

-- the step is answered, and not with a refusal
abbrev pub Unrefused : (keeping : Bool) (w : Sweep) (k : ℕ) (s : Step) (h h' : Holding) → DoesFor keeping w k s h h' → Type 0
Unrefused keeping w k label h h' d = Accepted h'.answered
Unrefused keeping w k choose h h' d = d.r ≡ 0
Unrefused keeping w k write h h' d = d.r ≡ 0

-- none of a task's three is
pub record NoneRefused (keeping : Bool) (w : Sweep) (k : ℕ) (h₀ h₃ : Holding) (s : Alone (DoesFor keeping w k) h₀ h₃) : Type 0 where
  pub labels : Unrefused keeping w k label h₀ s.h₁ s.labels
  pub chooses : Unrefused keeping w k choose s.h₁ s.h₂ s.chooses
  pub writes : Unrefused keeping w k write s.h₂ h₃ s.writes
