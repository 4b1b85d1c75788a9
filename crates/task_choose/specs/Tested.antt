-- The tests of the second step, as the functions are handed them.
use Rattle.std.specs.Prelude.{ℕ, ◌≤◌, ◌≡◌, List, [], length}
use Rattle.paper.specs.declared.Task.{Task}
use Rattle.paper.specs.Panel.Input.{Call}
use Rattle.paper.specs.Panel.Made.{call_of}
use Rattle.paper.specs.Panel.Takes.{grows_by, takes_grey_labels}
use Rattle.paper.specs.Refusal.Rules.{When}
use Rattle.task_steps.specs.Label.{takes_blue}
use Rattle.task_steps.specs.Choose.{Found, takes_labels}

-- what the test of labels and marks leans on: the lengths of those that are taken
pub record FoundLong (c : Call) (f : Found) : Type 0 where
  pub n_high : c.lattice.n ≤ 4096
  pub labels : When (takes_labels c) (length f.labels ≡ c.lattice.n)
  pub grey_labels : When (takes_grey_labels c) (length f.grey_labels ≡ c.lattice.n)
  pub members : When (grows_by c.form) (length f.members ≡ c.lattice.n)
  pub blue : When (takes_blue c) (length f.blue ≡ c.lattice.n)

-- of every call of the task: no pin is looked at
abbrev pub EveryPins : Task → (Call → Type 0) → Type 0
EveryPins t P = (pins : List ℕ) → P (call_of t [] [] pins [] [])
