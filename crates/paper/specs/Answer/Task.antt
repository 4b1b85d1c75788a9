-- A sweep: its tasks, each a move with its own areas.
use Rattle.std.specs.Prelude.{ℕ, ◌+◌, ◌*◌, ◌/◌, ◌%◌, Bool, true, false, not, cond, ◌&&◌, ◌||◌, List, eqb, ltb, get_or, take, drop, ℤ, Float}
use Rattle.std.specs.Float.{nan}
use Rattle.lemmas.specs.Counts.{count_where}
use Rattle.lemmas.specs.Cells.{table}
use Rattle.paper.specs.Answer.Cases.{Answer, Answer.Refused, Answer.Idle, Answer.Held, Answer.Moved}
use Rattle.paper.specs.declared.Group.{Group}
use Rattle.paper.specs.declared.Mode.{Mode}
use Rattle.paper.specs.declared.Form.{Form}
use Rattle.paper.specs.Panel.Input.{Lattice, Call, Choices, Buffers}
use Rattle.paper.specs.Panel.Takes.{entries, choice_bytes}

-- t temperatures of r replicas, `systems` of the panel's in all; groups of `members` systems. The last five are the tasks' areas, at the task's number
pub record Sweep : Type 0 where
  pub mode : Mode
  pub form : Form
  pub lattice : Lattice
  pub pins : List ℕ
  pub systems : ℕ
  pub t : ℕ
  pub r : ℕ
  pub members : ℕ
  pub order : List ℕ
  pub masks : List ℕ
  pub temperatures : List Float
  pub cuts : List Float
  pub references : List ℕ
  pub seeds : List ℕ
  pub choices : List ℕ
  pub greys : List ℕ

-- groups at each temperature, and tasks
abbrev pub groups : Sweep → ℕ
groups w = w.r / w.members

abbrev pub tasks : Sweep → ℕ
tasks w = w.t * groups w

-- task k = j * groups + g is of temperature j and has the g-th run of its order entries
abbrev pub temperature_of : Sweep → ℕ → ℕ
temperature_of w k = k / groups w

abbrev pub order_at : Sweep → ℕ → ℕ → ℕ
order_at w k x = get_or w.order (temperature_of w k * w.r + (k % groups w) * w.members + x) 0

-- a mask byte 1 masks its temperature
abbrev pub masked : Sweep → ℕ → Bool
masked w k = eqb (get_or w.masks (temperature_of w k) 0) 1

-- the part number k of those with m elements each
abbrev pub part : {A : Type 0} → ℕ → ℕ → List A → List A
part k m xs = take m (drop (k * m) xs)

abbrev pub group_of : Sweep → ℕ → Group
group_of w k = record { len = w.members; systems = table 8 (λ x. cond (ltb x w.members) (order_at w k x) 0) }

abbrev pub task_call : Sweep → ℕ → Call
task_call w k = record {
  mode = w.mode;
  form = w.form;
  lattice = w.lattice;
  pins = w.pins;
  group = group_of w k;
  temperature = get_or w.temperatures (temperature_of w k) nan;
  cuts = part k (w.lattice.n * w.lattice.d) w.cuts;
  reference = get_or w.references k 0;
  seed = get_or w.seeds k 0;
}

abbrev pub task_choices : Sweep → ℕ → Choices
task_choices w k = record {
  choices = part k (choice_bytes w.mode w.form w.lattice.n w.members) w.choices;
  greys = part k (entries w.form w.lattice.n) w.greys;
}

-- the task's output areas, with the spins xs
abbrev pub areas : Sweep → Buffers → List ℤ → ℕ → Buffers
areas w b xs k = record {
  spins = xs;
  labels = part k w.lattice.n b.labels;
  grey_labels = part k w.lattice.n b.grey_labels;
  counts = part k (w.lattice.n + 1) b.counts;
  sizes = part k 4 b.sizes;
  members = part k w.lattice.n b.members;
  found = part k 1 b.found;
  grey_found = part k 1 b.grey_found;
}

-- ---- the three counts, of the unmasked tasks by their answers
abbrev pub is_idle : Answer → Bool
is_idle (Refused r) = false
is_idle Idle = true
is_idle Held = false
is_idle Moved = false

abbrev pub is_held : Answer → Bool
is_held (Refused r) = false
is_held Idle = false
is_held Held = true
is_held Moved = false

-- all others
abbrev pub is_moved : Answer → Bool
is_moved a = not (is_idle a || is_held a)

abbrev pub tasks_that : (Answer → Bool) → Sweep → (ℕ → Answer) → ℕ
tasks_that kind w answered = count_where (λ k. not (masked w k) && kind (answered k)) (tasks w)
