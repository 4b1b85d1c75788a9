-- `task_write` allows one number, one content of the rows and one of the totals. The task is one on rows of its own: there are no others.
use Rattle.std.specs.Prelude.{ℕ, refl, Bool, List, [], ℤ}
use Rattle.paper.specs.declared.Task.{Task}
use Rattle.paper.specs.Panel.Made.{call_of}
use Rattle.packing.specs.Bytes.{own_task}
use Rattle.task_steps.specs.Write.{shape_of, Writing, WriteAnswers}
use Rattle.task_steps.specs.Determined as steps

pub task_write_determined :
    (keeping : Bool) (t : Task) (fwd bwd : List ℕ) (couplings : List ℤ) (l : Writing) (ys zs us vs : List ℤ) (r r' : ℕ)
    → WriteAnswers keeping (shape_of (call_of (own_task t) fwd bwd [] couplings [])) l r ys us
    → WriteAnswers keeping (shape_of (call_of (own_task t) fwd bwd [] couplings [])) l r' zs vs
    → steps.SameWritten r ys us r' zs vs
task_write_determined keeping t fwd bwd couplings l =
    steps.task_write_determined keeping (shape_of (call_of (own_task t) fwd bwd [] couplings [])) l refl refl
