-- Moves and sweeps as they were before any site could be pinned (9/14), but for what came later: 15, and which systems 3 and 14 look at. No pins are
-- lent, no component is held, a task is idle or moved. Unpinned.antt says that with all pins 0 they still are.
use Rattle.std.specs.Prelude.{ℕ, ◌+◌, ◌*◌, ◌≤◌, ◌<◌, ◌≡◌, ◌≢◌, Bool, true, false, not, cond, ◌&&◌, List, [], ◌∷◌, ◌++◌, eqb, length, get_or, ℤ}
use Rattle.std.specs.Float.{nan}
use Rattle.lemmas.specs.Counts.{count_where}
use Rattle.paper.specs.Answer.Cases.{Answer, Answer.Refused, Answer.Idle, Answer.Held, Answer.Moved}
use Rattle.paper.specs.Panel.Input.{graph, Call, Choices, Buffers, Pattern, pattern, spin, size, system}
use Rattle.paper.specs.Panel.Takes.{grows_by, labels_by, entries, choice_bytes, takes_cuts, takes_choices, takes_greys, takes_grey_labels, takes_reference, takes_seed}
use Rattle.paper.specs.Site.Acting.{acts, SomeActs, NoneActs}
use Rattle.paper.specs.Site.Bonds.{holds}
use Rattle.paper.specs.Component.Members.{Members}
use Rattle.paper.specs.Component.Sizes.{label_of}
use Rattle.paper.specs.Move.Moving.{act_by, flip_some, grey_bit, grey_at, reached_by}
use Rattle.paper.specs.Refusal.Rule.{Rule, rule, Kept, Broken}
use Rattle.paper.specs.Refusal.Rules.{When, Ranged, HoudOfTwo, group_names, order_names, Named, Spins, Inverse, Listed, Grouped}
use Rattle.paper.specs.Refusal.Rules.{SmallCouplings, Warm, choice_rules, More, no_more}
use Rattle.paper.specs.Answer.Move.{Seen}
use Rattle.paper.specs.Answer.Task.{Sweep, tasks, masked, task_call, task_choices, areas}
use Rattle.paper.specs.Answer.Sweep.{common, SweepRanged, task_rules, Unmoved, SameLengths, Unwritten}
use Rattle.paper.specs.Answer.Totals.{totals_ask, TotalsAfter}

-- ---- what moves
abbrev pub reached_was : Call → List ℤ → List ℕ → ℕ → Bool
reached_was c xs l i = acts c xs i && reached_by c.form c.mode c.seed l i

abbrev pub after_was : Call → Choices → List ℤ → List ℕ → ℕ → Pattern
after_was c p xs l i k =
    cond (reached_was c xs l i) (act_by c.mode c p (pattern c xs c.reference) (label_of l i) (pattern c xs i) k) (pattern c xs i k)

abbrev pub after_grey_was : Call → Choices → List ℤ → List ℕ → ℕ → Pattern → Pattern
after_grey_was c p xs g i f k = cond (takes_greys c && reached_was c xs g i) (flip_some (grey_bit (grey_at c.form p.greys (label_of g i))) f k) (f k)

abbrev pub final_was : Call → Choices → List ℤ → List ℕ → List ℕ → ℕ → Pattern
final_was c p xs l g i = after_grey_was c p xs g i (after_was c p xs l i)

pub record MovesWas (c : Call) (p : Choices) (xs : List ℤ) (l g : List ℕ) (ys : List ℤ) : Type 0 where
  pub long : length ys ≡ length xs
  pub group : (i k : ℕ) → i < c.lattice.n → k < size c → pattern c ys i k ≡ final_was c p xs l g i k
  pub others : (i t : ℕ) → i < c.lattice.n → ((k : ℕ) → k < size c → t ≢ system c k) → spin c.lattice.n ys t i ≡ spin c.lattice.n xs t i

pub record TurnsWas (c : Call) (p : Choices) (xs : List ℤ) (members : List ℕ) (ys : List ℤ) : Type 0 where
  pub blue : List ℕ
  pub joined : Members (graph c) (holds c xs) c.seed blue
  pub moved : MovesWas c p xs blue members ys

-- ---- a move's rules
pub record ExactWas (c : Call) (p : Choices) (b : Buffers) : Type 0 where
  pub spins : length b.spins ≡ c.lattice.s * c.lattice.n
  pub fwd : length c.lattice.fwd ≡ c.lattice.n * c.lattice.d
  pub bwd : length c.lattice.bwd ≡ c.lattice.n * c.lattice.d
  pub couplings : When (takes_cuts c) (length c.lattice.couplings ≡ c.lattice.n * c.lattice.d)
  pub cuts : When (takes_cuts c) (length c.cuts ≡ c.lattice.n * c.lattice.d)
  pub choices : When (takes_choices c) (length p.choices ≡ choice_bytes c.mode c.form c.lattice.n (size c))
  pub greys : When (takes_greys c) (length p.greys ≡ entries c.form c.lattice.n)
  pub labels : When (labels_by c.form) (length b.labels ≡ c.lattice.n)
  pub grey_labels : When (takes_grey_labels c) (length b.grey_labels ≡ c.lattice.n)
  pub counts : When (labels_by c.form) (length b.counts ≡ c.lattice.n + 1)
  pub sizes : When (labels_by c.form) (length b.sizes ≡ 4)
  pub members : When (grows_by c.form) (length b.members ≡ c.lattice.n)
  pub found : When (labels_by c.form) (length b.found ≡ 1)
  pub grey_found : When (takes_grey_labels c) (length b.grey_found ≡ 1)

abbrev pub rules_was : More → Call → Choices → Buffers → List Rule
rules_was m c p b =
    rule 1 (Ranged c.lattice.n c.lattice.d c.lattice.s c.mode (size c))
    ∷ rule 15 (HoudOfTwo c.mode c.form (size c))
    ∷ rule 2 (ExactWas c p b)
    ∷ (m.lengths ++ (
    rule 3 (Spins c.lattice.n (Named c.lattice.s (group_names c.group)) b.spins)
    ∷ rule 4 (Inverse c.lattice.n c.lattice.d c.lattice.fwd c.lattice.bwd)
    ∷ rule 5 (Grouped c.lattice.s c.group)
    ∷ rule 6 (When (takes_cuts c) (SmallCouplings c.lattice.couplings))
    ∷ (m.couplings ++ (
    rule 7 (When (takes_cuts c) (Warm c.temperature))
    ∷ (choice_rules c p b.spins ++ m.last)))))

-- ---- a move's answer
pub record RefusesWas (c : Call) (p : Choices) (b : Buffers) (r : ℕ) (b' : Buffers) : Type 0 where
  pub why : Broken (rules_was no_more c p b) r
  pub kept : b' ≡ b

pub record RestsWas (c : Call) (p : Choices) (b b' : Buffers) : Type 0 where
  pub valid : Kept (rules_was no_more c p b)
  pub none : NoneActs c b.spins
  pub still : b'.spins ≡ b.spins
  pub seen : Seen c b b'

pub record GoesWas (c : Call) (p : Choices) (b b' : Buffers) : Type 0 where
  pub valid : Kept (rules_was no_more c p b)
  pub some : SomeActs c b.spins
  pub moved : When (labels_by c.form) (MovesWas c p b.spins b'.labels b'.grey_labels b'.spins)
  pub turned : When (grows_by c.form) (TurnsWas c p b.spins b'.members b'.spins)
  pub seen : Seen c b b'

abbrev pub AnswersWas : Call → Choices → Buffers → Answer → Buffers → Type 0
AnswersWas c p b (Refused r) b' = RefusesWas c p b r b'
AnswersWas c p b Idle b' = RestsWas c p b b'
AnswersWas c p b Held b' = ⊥
AnswersWas c p b Moved b' = GoesWas c p b b'

-- and of a call that may keep totals
pub record KeepRefusesWas (keeping : Bool) (c : Call) (p : Choices) (b : Buffers) (ts : List ℤ) (r : ℕ) (b' : Buffers) (ts' : List ℤ) : Type 0 where
  pub why : Broken (rules_was (totals_ask keeping c.lattice (group_names c.group) ts) c p b) r
  pub kept : b' ≡ b
  pub totals_kept : ts' ≡ ts

pub record KeepAcceptsWas (keeping : Bool) (c : Call) (p : Choices) (b : Buffers) (ts : List ℤ) (a : Answer) (b' : Buffers) (ts' : List ℤ) : Type 0 where
  pub valid : Kept (rules_was (totals_ask keeping c.lattice (group_names c.group) ts) c p b)
  pub answers : AnswersWas c p b a b'
  pub totals : TotalsAfter keeping c.lattice b.spins ts b'.spins ts'

abbrev pub KeepAnswersWas : Bool → Call → Choices → Buffers → List ℤ → Answer → Buffers → List ℤ → Type 0
KeepAnswersWas keeping c p b ts (Refused r) b' ts' = KeepRefusesWas keeping c p b ts r b' ts'
KeepAnswersWas keeping c p b ts Idle b' ts' = KeepAcceptsWas keeping c p b ts Idle b' ts'
KeepAnswersWas keeping c p b ts Held b' ts' = ⊥
KeepAnswersWas keeping c p b ts Moved b' ts' = KeepAcceptsWas keeping c p b ts Moved b' ts'

-- ---- a sweep
pub record SweepExactWas (w : Sweep) (b : Buffers) : Type 0 where
  pub spins : length b.spins ≡ w.lattice.s * w.lattice.n
  pub fwd : length w.lattice.fwd ≡ w.lattice.n * w.lattice.d
  pub bwd : length w.lattice.bwd ≡ w.lattice.n * w.lattice.d
  pub order : length w.order ≡ w.systems
  pub masks : length w.masks ≡ w.t
  pub couplings : When (takes_cuts (common w)) (length w.lattice.couplings ≡ w.lattice.n * w.lattice.d)
  pub temperatures : When (takes_cuts (common w)) (length w.temperatures ≡ w.t)
  pub cuts : When (takes_cuts (common w)) (length w.cuts ≡ tasks w * (w.lattice.n * w.lattice.d))
  pub choices : When (takes_choices (common w)) (length w.choices ≡ tasks w * choice_bytes w.mode w.form w.lattice.n w.members)
  pub greys : When (takes_greys (common w)) (length w.greys ≡ tasks w * entries w.form w.lattice.n)
  pub references : When (takes_reference (common w)) (length w.references ≡ tasks w)
  pub seeds : When (takes_seed (common w)) (length w.seeds ≡ tasks w)
  pub labels : When (labels_by w.form) (length b.labels ≡ tasks w * w.lattice.n)
  pub grey_labels : When (takes_grey_labels (common w)) (length b.grey_labels ≡ tasks w * w.lattice.n)
  pub counts : When (labels_by w.form) (length b.counts ≡ tasks w * (w.lattice.n + 1))
  pub sizes : When (labels_by w.form) (length b.sizes ≡ tasks w * 4)
  pub members : When (grows_by w.form) (length b.members ≡ tasks w * w.lattice.n)
  pub found : When (labels_by w.form) (length b.found ≡ tasks w)
  pub grey_found : When (takes_grey_labels (common w)) (length b.grey_found ≡ tasks w)

abbrev pub sweep_rules_was : More → Sweep → Buffers → List Rule
sweep_rules_was m w b =
    rule 1 (SweepRanged w)
    ∷ rule 15 (HoudOfTwo w.mode w.form w.members)
    ∷ rule 2 (SweepExactWas w b)
    ∷ ((m.lengths ++ (
    rule 3 (Spins w.lattice.n (Named w.lattice.s (order_names w.order)) b.spins)
    ∷ rule 4 (Inverse w.lattice.n w.lattice.d w.lattice.fwd w.lattice.bwd)
    ∷ rule 5 (Listed w.lattice.s (order_names w.order))
    ∷ rule 6 (When (takes_cuts (common w)) (SmallCouplings w.lattice.couplings))
    ∷ (m.couplings ++ (
    rule 7 (When (takes_cuts (common w)) ((j : ℕ) → j < w.t → Warm (get_or w.temperatures j nan)))
    ∷ rule 9 ((j : ℕ) → j < w.t → get_or w.masks j 0 ≤ 1)
    ∷ [])))) ++ (task_rules w b (tasks w) ++ m.last))

abbrev pub idle_task : Sweep → List ℤ → ℕ → Bool
idle_task w xs k = eqb (count_where (acts (task_call w k) xs) w.lattice.n) 0

abbrev pub idle_tasks : Sweep → List ℤ → ℕ
idle_tasks w xs = count_where (λ k. not (masked w k) && idle_task w xs k) (tasks w)

abbrev pub moved_tasks : Sweep → List ℤ → ℕ
moved_tasks w xs = count_where (λ k. not (masked w k) && not (idle_task w xs k)) (tasks w)

pub record DoneWas (w : Sweep) (b b' : Buffers) (k : ℕ) : Type 0 where
  pub answer : Answer
  pub spins : List ℤ
  pub answers : AnswersWas (task_call w k) (task_choices w k) (areas w b b.spins k) answer (areas w b' spins k)
  pub rows : (i x : ℕ) → i < w.lattice.n → x < w.members → pattern (task_call w k) b'.spins i x ≡ pattern (task_call w k) spins i x

-- it swept, and these were its counts
pub record SweepsWas (keeping : Bool) (w : Sweep) (b : Buffers) (ts : List ℤ) (idle moved : ℕ) (b' : Buffers) (ts' : List ℤ) : Type 0 where
  pub valid : Kept (sweep_rules_was (totals_ask keeping w.lattice (order_names w.order) ts) w b)
  pub counts : idle ∷ moved ∷ [] ≡ idle_tasks w b.spins ∷ moved_tasks w b.spins ∷ []
  pub lengths : SameLengths b b'
  pub each : (k : ℕ) → k < tasks w → masked w k ≡ false → DoneWas w b b' k
  pub skipped : (k : ℕ) → k < tasks w → masked w k ≡ true → areas w b' b.spins k ≡ areas w b b.spins k
  pub others : (i t : ℕ) → i < w.lattice.n → Unmoved w t → spin w.lattice.n b'.spins t i ≡ spin w.lattice.n b.spins t i
  pub kept : Unwritten (common w) b b'
  pub totals : TotalsAfter keeping w.lattice b.spins ts b'.spins ts'

pub record SweepRefusesWas (keeping : Bool) (w : Sweep) (b : Buffers) (ts : List ℤ) (r : ℕ) (b' : Buffers) (ts' : List ℤ) : Type 0 where
  pub why : Broken (sweep_rules_was (totals_ask keeping w.lattice (order_names w.order) ts) w b) r
  pub kept : b' ≡ b
  pub totals_kept : ts' ≡ ts
