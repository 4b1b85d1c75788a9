-- The tasks of a sweep as steps: what a task holds, what its three steps do, and how a panel is put together from what the tasks hold.
use Rattle.std.specs.Prelude.{ℕ, ◌<◌, ◌≡◌, Bool, true, false, List, length, ℤ}
use Rattle.paper.specs.Answer.Cases.{Answer}
use Rattle.paper.specs.Answer.Cases.{SweepAnswer, SweepAnswer.Swept}
use Rattle.paper.specs.Panel.Input.{Call, Choices, Buffers, system, spin, pattern}
use Rattle.paper.specs.Refusal.Rules.{When}
use Rattle.paper.specs.Answer.Totals.{total}
use Rattle.paper.specs.Answer.Task.{Sweep, tasks, masked, task_call, task_choices, areas, is_idle, is_moved, is_held, tasks_that}
use Rattle.paper.specs.Answer.Sweep.{common, Unmoved, SameLengths, Unwritten}
use Rattle.laws.specs.AnswersLocal.{with_spins}
use Rattle.packing.specs.Gathered.{group_rows, own_of}
use Rattle.own_rows.specs.PutBack.{group_totals}
use Rattle.task_steps.specs.Label.{takes_blue, LabelAnswers}
use Rattle.task_steps.specs.Choose.{Found, found_of, bare_call, ChooseAnswers}
use Rattle.task_steps.specs.Write.{Writing, writing_of, shape_of, WriteAnswers}
use Rattle.any_order.specs.Schedule.{Step, Step.label, Step.choose, Step.write}

-- a task's own rows and output areas, its totals, what its steps hand on, and what its first step answered
pub record Holding : Type 0 where
  pub buffers : Buffers
  pub totals : List ℤ
  pub blue : List ℕ
  pub area : List ℕ
  pub answered : Answer

abbrev pub found_in : Holding → Found
found_in h = found_of h.buffers.labels h.buffers.grey_labels h.buffers.members h.blue

abbrev pub writing_in : Holding → Writing
writing_in h = writing_of h.buffers.spins h.buffers.members h.area h.totals

-- ---- the three steps, of the call c on the task's own rows with the choices p

pub record DoesLabel (c : Call) (p : Choices) (h h' : Holding) : Type 0 where
  pub answers : LabelAnswers c p h.buffers h.blue h'.answered h'.buffers h'.blue
  pub totals : h'.totals ≡ h.totals
  pub area : h'.area ≡ h.area

-- the number r is answered
pub record DoesChoose (c : Call) (p : Choices) (h h' : Holding) : Type 0 where
  pub r : ℕ
  pub answers : ChooseAnswers (bare_call c) p h.buffers.spins (found_in h) h.area r h'.area
  pub buffers : h'.buffers ≡ h.buffers
  pub totals : h'.totals ≡ h.totals
  pub blue : h'.blue ≡ h.blue
  pub answered : h'.answered ≡ h.answered

pub record DoesWrite (keeping : Bool) (c : Call) (h h' : Holding) : Type 0 where
  pub r : ℕ
  pub answers : WriteAnswers keeping (shape_of c) (writing_in h) r h'.buffers.spins h'.totals
  pub buffers : h'.buffers ≡ with_spins h.buffers h'.buffers.spins
  pub blue : h'.blue ≡ h.blue
  pub area : h'.area ≡ h.area
  pub answered : h'.answered ≡ h.answered

-- those of the task k of the sweep w
abbrev pub DoesFor : Bool → Sweep → ℕ → Step → Holding → Holding → Type 0
DoesFor keeping w k label h h' = DoesLabel (own_of (task_call w k)) (task_choices w k) h h'
DoesFor keeping w k choose h h' = DoesChoose (own_of (task_call w k)) (task_choices w k) h h'
DoesFor keeping w k write h h' = DoesWrite keeping (own_of (task_call w k)) h h'

-- ---- before the steps and after them

-- the task k is handed its rows, areas and totals of the panel, and two areas of n bytes for what its steps hand on
pub record Holds (w : Sweep) (b : Buffers) (ts : List ℤ) (k : ℕ) (h : Holding) : Type 0 where
  pub buffers : h.buffers ≡ areas w b (group_rows (task_call w k) b.spins) k
  pub totals : h.totals ≡ group_totals (task_call w k) ts
  pub blue : When (takes_blue (task_call w k)) (length h.blue ≡ w.lattice.n)
  pub area : length h.area ≡ w.lattice.n

-- the task k's rows, areas and totals in the panel b', us are those that it holds
pub record Handed (w : Sweep) (k : ℕ) (h : Holding) (b' : Buffers) (us : List ℤ) : Type 0 where
  pub outputs : areas w b' h.buffers.spins k ≡ h.buffers
  pub rows : (i x : ℕ) → i < w.lattice.n → x < w.members → pattern (task_call w k) b'.spins i x ≡ spin w.lattice.n h.buffers.spins x i
  pub totals : (x : ℕ) → x < w.members → total us (system (task_call w k) x) ≡ total h.totals x

-- the rows, areas and totals of the unmasked tasks are those that they hold; the areas of the others, and what the form does not write, are as they were
pub record Collected (w : Sweep) (b : Buffers) (held : ℕ → Holding) (b' : Buffers) (us : List ℤ) : Type 0 where
  pub lengths : SameLengths b b'
  pub each : (k : ℕ) → k < tasks w → masked w k ≡ false → Handed w k (held k) b' us
  pub skipped : (k : ℕ) → k < tasks w → masked w k ≡ true → areas w b' b.spins k ≡ areas w b b.spins k
  pub kept : Unwritten (common w) b b'

-- what is put together so: systems of no unmasked task keep their rows and totals
pub record Merged (w : Sweep) (b : Buffers) (ts : List ℤ) (held : ℕ → Holding) (b' : Buffers) (us : List ℤ) : Type 0 where
  pub outputs : Collected w b held b' us
  pub totals_long : length us ≡ length ts
  pub other_rows : (i t : ℕ) → i < w.lattice.n → Unmoved w t → spin w.lattice.n b'.spins t i ≡ spin w.lattice.n b.spins t i
  pub other_totals : (t : ℕ) → Unmoved w t → total us t ≡ total ts t

-- the sweep's answer: how many tasks answered what to their first step
abbrev pub swept_by : Sweep → (ℕ → Holding) → SweepAnswer
swept_by w held =
    let answered : ℕ → Answer = λ k. (held k).answered in
    Swept (tasks_that is_idle w answered) (tasks_that is_moved w answered) (tasks_that is_held w answered)
