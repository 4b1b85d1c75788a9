-- Each function has one result.
use Rattle.std.specs.Prelude.{ℕ, ◌*◌, ◌/◌, ◌≡◌, Bool, List, get_or, Float}
use Rattle.std.proofs.Common.{ap, ◌∙◌}
use Rattle.std.specs.Float.{nan}
use Rattle.lemmas.specs.Determined.{one_value}
use Rattle.paper.specs.declared.Group.{Group}
use Rattle.paper.specs.Panel.Takes.{entries, choice_bytes}
use Rattle.paper.specs.Answer.Task.{part}
use Rattle.paper.specs.declared.Plan.{Plan}
use Rattle.paper.specs.declared.Task.{Task}
use Rattle.tasks.specs.declared.Span.{Span}
use Rattle.tasks.specs.Plan.{Bounding, tasks_of, group_at, masked_at, task_at}

abbrev span : ℕ → ℕ → Span
span a e = record { start = a; end = e }

pub bounds_determined : (len k m : ℕ) (x y : Span) → Bounding len k m x.start x.end → Bounding len k m y.start y.end → x ≡ y
bounds_determined len k m x y p q =
    ap (λ (a : ℕ). span a x.end) (one_value p.starts q.starts) ∙ ap (λ (e : ℕ). span y.start e) (one_value p.ends q.ends)

-- two slices that are the same part have the same elements
pub task_choices_determined :
    (q : Plan) (choices : List ℕ) (k : ℕ) (x y : List ℕ) → x ≡ part k (choice_bytes q.mode q.form q.n q.members) choices
    → y ≡ part k (choice_bytes q.mode q.form q.n q.members) choices → x ≡ y
task_choices_determined q choices k x y = one_value

pub task_greys_determined :
    (q : Plan) (greys : List ℕ) (k : ℕ) (x y : List ℕ) → x ≡ part k (entries q.form q.n) greys → y ≡ part k (entries q.form q.n) greys
    → x ≡ y
task_greys_determined q greys k x y = one_value

pub task_cuts_determined : (q : Plan) (cuts : List Float) (k : ℕ) (x y : List Float) → x ≡ part k (q.n * q.d) cuts → y ≡ part k (q.n * q.d) cuts → x ≡ y
task_cuts_determined q cuts k x y = one_value

pub word_at_determined : (xs : List ℕ) (k x y : ℕ) → x ≡ get_or xs k 0 → y ≡ get_or xs k 0 → x ≡ y
word_at_determined xs k x y = one_value

pub task_count_determined : (q : Plan) (x y : ℕ) → x ≡ tasks_of q → y ≡ tasks_of q → x ≡ y
task_count_determined q x y = one_value

pub task_temperature_determined :
    (q : Plan) (ts : List Float) (k : ℕ) (x y : Float) → x ≡ get_or ts (k / (q.r / q.members)) nan → y ≡ get_or ts (k / (q.r / q.members)) nan → x ≡ y
task_temperature_determined q ts k x y = one_value

pub masked_determined : (q : Plan) (masks : List ℕ) (k : ℕ) (x y : Bool) → x ≡ masked_at q masks k → y ≡ masked_at q masks k → x ≡ y
masked_determined q masks k x y = one_value

pub task_group_determined : (q : Plan) (order : List ℕ) (k : ℕ) (x y : Group) → x ≡ group_at q order k → y ≡ group_at q order k → x ≡ y
task_group_determined q order k x y = one_value

pub task_of_determined :
    (q : Plan) (order : List ℕ) (ts : List Float) (references seeds : List ℕ) (k : ℕ) (x y : Task)
    → x ≡ task_at q order ts references seeds k → y ≡ task_at q order ts references seeds k → x ≡ y
task_of_determined q order ts references seeds k x y = one_value
