-- What a sweep answers, for every input: each task is the move that it would be alone.
use Rattle.std.specs.Prelude.{ℕ, zero, suc, ◌+◌, ◌*◌, ◌≤◌, ◌<◌, ◌≡◌, ◌≢◌, true, false, cond, List, [], ◌∷◌, ◌++◌, length, get_or, ℤ}
use Rattle.std.specs.Float.{nan}
use Rattle.paper.specs.Answer.Cases.{Answer}
use Rattle.paper.specs.Answer.Cases.{SweepAnswer, SweepAnswer.Fault, SweepAnswer.Swept}
use Rattle.paper.specs.Panel.Input.{Call, Buffers, spin, pattern, system}
use Rattle.paper.specs.Panel.Takes.{grows_by, labels_by, takes_cuts, takes_choices, takes_greys, takes_grey_labels, takes_reference, takes_seed}
use Rattle.paper.specs.Panel.Takes.{entries, choice_bytes}
use Rattle.paper.specs.Refusal.Rule.{Rule, rule, Broken}
use Rattle.paper.specs.Refusal.Rules.{When, Ranged, HoudOfTwo, order_names, Named, Spins, Inverse, Pins, Listed, SmallCouplings, Warm}
use Rattle.paper.specs.Refusal.Rules.{choice_rules, More, no_more}
use Rattle.paper.specs.Refusal.Verdict.{Verdict}
use Rattle.paper.specs.Answer.Number.{sweep_number, sweep_values}
use Rattle.paper.specs.Answer.Move.{Answers}
use Rattle.paper.specs.Answer.Task.{Sweep, tasks, masked, task_call, task_choices, areas, is_idle, is_moved, is_held, tasks_that}

-- what all tasks share
abbrev pub common : Sweep → Call
common w = task_call w 0

pub record SweepRanged (w : Sweep) : Type 0 where
  pub ranged : Ranged w.lattice.n w.lattice.d w.lattice.s w.mode w.members
  pub few : w.systems ≤ w.lattice.s
  pub some : 1 ≤ w.t
  pub all : w.t * w.r ≡ w.systems
  pub enough : w.members ≤ w.r

pub record SweepExact (w : Sweep) (b : Buffers) : Type 0 where
  pub spins : length b.spins ≡ w.lattice.s * w.lattice.n
  pub fwd : length w.lattice.fwd ≡ w.lattice.n * w.lattice.d
  pub bwd : length w.lattice.bwd ≡ w.lattice.n * w.lattice.d
  pub pins : length w.pins ≡ w.lattice.n
  pub order : length w.order ≡ w.systems
  pub masks : length w.masks ≡ w.t
  pub couplings : When (takes_cuts (common w)) (length w.lattice.couplings ≡ w.lattice.n * w.lattice.d)
  pub temperatures : When (takes_cuts (common w)) (length w.temperatures ≡ w.t)
  pub cuts : When (takes_cuts (common w)) (length w.cuts ≡ tasks w * (w.lattice.n * w.lattice.d))
  pub choices : When (takes_choices (common w)) (length w.choices ≡ tasks w * choice_bytes w.mode w.form w.lattice.n w.members)
  pub greys : When (takes_greys (common w)) (length w.greys ≡ tasks w * entries w.form w.lattice.n)
  pub references : When (takes_reference (common w)) (length w.references ≡ tasks w)
  pub seeds : When (takes_seed (common w)) (length w.seeds ≡ tasks w)
  pub labels : When (labels_by w.form) (length b.labels ≡ tasks w * w.lattice.n)
  pub grey_labels : When (takes_grey_labels (common w)) (length b.grey_labels ≡ tasks w * w.lattice.n)
  pub counts : When (labels_by w.form) (length b.counts ≡ tasks w * (w.lattice.n + 1))
  pub sizes : When (labels_by w.form) (length b.sizes ≡ tasks w * 4)
  pub members : When (grows_by w.form) (length b.members ≡ tasks w * w.lattice.n)
  pub found : When (labels_by w.form) (length b.found ≡ tasks w)
  pub grey_found : When (takes_grey_labels (common w)) (length b.grey_found ≡ tasks w)

-- unmasked tasks in ascending order, each through 8, 9, 10 on the spins before the sweep
abbrev pub task_rules : Sweep → Buffers → ℕ → List Rule
task_rules w b zero = []
task_rules w b (suc k) = task_rules w b k ++ cond (masked w k) [] (choice_rules (task_call w k) (task_choices w k) b.spins)

-- what is asked before any task's own
abbrev pub shared_rules : More → Sweep → Buffers → List Rule
shared_rules m w b =
    rule 1 (SweepRanged w)
    ∷ rule 15 (HoudOfTwo w.mode w.form w.members)
    ∷ rule 2 (SweepExact w b)
    ∷ (m.lengths ++ (
    rule 3 (Spins w.lattice.n (Named w.lattice.s (order_names w.order)) b.spins)
    ∷ rule 4 (Inverse w.lattice.n w.lattice.d w.lattice.fwd w.lattice.bwd)
    ∷ rule 4 (Pins w.pins)
    ∷ rule 5 (Listed w.lattice.s (order_names w.order))
    ∷ rule 6 (When (takes_cuts (common w)) (SmallCouplings w.lattice.couplings))
    ∷ (m.couplings ++ (
    rule 7 (When (takes_cuts (common w)) ((j : ℕ) → j < w.t → Warm (get_or w.temperatures j nan)))
    ∷ rule 9 ((j : ℕ) → j < w.t → get_or w.masks j 0 ≤ 1)
    ∷ []))))

abbrev pub sweep_rules : Sweep → Buffers → List Rule
sweep_rules w b = shared_rules no_more w b ++ task_rules w b (tasks w)

abbrev pub sweep_rules_with : More → Sweep → Buffers → List Rule
sweep_rules_with m w b = shared_rules m w b ++ (task_rules w b (tasks w) ++ m.last)

-- the task k, alone on the spins before the sweep, would answer a and leave the spins xs: its group's rows are those, and its areas are its outputs
pub record Done (w : Sweep) (b b' : Buffers) (k : ℕ) (a : Answer) : Type 0 where
  pub spins : List ℤ
  pub answers : Answers (task_call w k) (task_choices w k) (areas w b b.spins k) a (areas w b' spins k)
  pub rows : (i x : ℕ) → i < w.lattice.n → x < w.members → pattern (task_call w k) b'.spins i x ≡ pattern (task_call w k) spins i x

-- the system t is in no unmasked task's group
abbrev pub Unmoved : Sweep → ℕ → Type 0
Unmoved w t = (k x : ℕ) → k < tasks w → masked w k ≡ false → x < w.members → t ≢ system (task_call w k) x

pub record SameLengths (b b' : Buffers) : Type 0 where
  pub spins : length b'.spins ≡ length b.spins
  pub labels : length b'.labels ≡ length b.labels
  pub counts : length b'.counts ≡ length b.counts
  pub sizes : length b'.sizes ≡ length b.sizes
  pub grey_labels : length b'.grey_labels ≡ length b.grey_labels
  pub members : length b'.members ≡ length b.members
  pub found : length b'.found ≡ length b.found
  pub grey_found : length b'.grey_found ≡ length b.grey_found

-- what the form does not write stays whole, whatever its length
pub record Unwritten (c : Call) (b b' : Buffers) : Type 0 where
  pub labels : labels_by c.form ≡ false → b'.labels ≡ b.labels
  pub grey_labels : takes_grey_labels c ≡ false → b'.grey_labels ≡ b.grey_labels
  pub counts : labels_by c.form ≡ false → b'.counts ≡ b.counts
  pub sizes : labels_by c.form ≡ false → b'.sizes ≡ b.sizes
  pub members : grows_by c.form ≡ false → b'.members ≡ b.members
  pub found : labels_by c.form ≡ false → b'.found ≡ b.found
  pub grey_found : takes_grey_labels c ≡ false → b'.grey_found ≡ b.grey_found

pub record Sweeps (w : Sweep) (b : Buffers) (idle moved held : ℕ) (b' : Buffers) : Type 0 where
  pub valid : Verdict (sweep_rules w b) (sweep_number (Swept idle moved held))
  -- what each task answers; of a masked one it is not looked at
  pub answered : ℕ → Answer
  pub counts : sweep_values (Swept idle moved held) ≡ tasks_that is_idle w answered ∷ tasks_that is_moved w answered ∷ tasks_that is_held w answered ∷ []
  pub lengths : SameLengths b b'
  pub each : (k : ℕ) → k < tasks w → masked w k ≡ false → Done w b b' k (answered k)
  pub skipped : (k : ℕ) → k < tasks w → masked w k ≡ true → areas w b' b.spins k ≡ areas w b b.spins k
  pub others : (i t : ℕ) → i < w.lattice.n → Unmoved w t → spin w.lattice.n b'.spins t i ≡ spin w.lattice.n b.spins t i
  pub kept : Unwritten (common w) b b'

pub record SweepRefuses (w : Sweep) (b : Buffers) (r : ℕ) (b' : Buffers) : Type 0 where
  pub why : Broken (sweep_rules w b) r
  pub kept : b' ≡ b

abbrev pub SweepAnswers : Sweep → Buffers → SweepAnswer → Buffers → Type 0
SweepAnswers w b (Fault r) b' = SweepRefuses w b (sweep_number (Fault r)) b'
SweepAnswers w b (Swept idle moved held) b' = Sweeps w b idle moved held b'
