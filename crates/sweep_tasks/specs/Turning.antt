-- One turn of the sweep's loop.
use Rattle.std.specs.Prelude.{ℕ, ◌+◌, ◌≤◌, ◌<◌, ◌≡◌, Bool, true, false, List, ℤ}
use Rattle.std.proofs.Common.{arith}
use Rattle.lemmas.specs.Counts.{count_most}
use Rattle.paper.specs.Answer.Cases.{Answer}
use Rattle.paper.specs.declared.Keeps.{Keeps}
use Rattle.paper.specs.Panel.Input.{Buffers}
use Rattle.paper.specs.Panel.Takes.{keeps_by}
use Rattle.paper.specs.Refusal.Rule.{Kept}
use Rattle.paper.specs.Refusal.Kept.{Valid}
use Rattle.paper.specs.Answer.Task.{Sweep, tasks, masked, group_of, task_call, task_choices, areas, is_idle, is_moved, is_held}
use Rattle.paper.specs.Answer.Sweep.{sweep_rules}
use Rattle.paper.specs.Answer.Totals.{TotalsReady}
use Rattle.paper.specs.Answer.Made.{plan_of}
use Rattle.laws.specs.SweepCounts.{count_to}
use Rattle.tasks.specs.Plan.{Placing}
use Rattle.outcomes.specs.declared.Outcomes.{Outcomes}
use Rattle.outcomes.specs.Adding.{Growable, Added}
use Rattle.sweep_tasks.specs.Ascending.{Ran, Steps, ran_masked, ran_more}

pub record Turn (keeps : Keeps) (w : Sweep) (k : ℕ) (t : Outcomes) (b : Buffers) (ts : List ℤ) : Type 0 where
  pub placing : Placing (plan_of keeps w) k w.order
  pub room : Growable t
  pub valid : masked w k ≡ false → Valid (task_call w k) (task_choices w k) (areas w b b.spins k)
  pub ready : masked w k ≡ false → TotalsReady (keeps_by keeps w.form) w.lattice (group_of w k) ts

-- a turn takes a sweep in which the first k tasks have run to one in which k + 1 have
pub record Turned (w : Sweep) (k : ℕ) (t : Outcomes) (b : Buffers) (t' : Outcomes) (b' : Buffers) : Type 0 where
  pub further :
      (b₀ : Buffers) → Kept (sweep_rules w b₀) → k < tasks w → Ran w b₀ k t.idle t.moved t.held b
      → Ran w b₀ (k + 1) t'.idle t'.moved t'.held b'

pub turned_masked : (w : Sweep) (k : ℕ) (t : Outcomes) (b : Buffers) → masked w k ≡ true → Turned w k t b t b
turned_masked w k t b e = record { further = λ b₀ v l h. ran_masked w b₀ v k t.idle t.moved t.held b l h e }

pub turned_one :
    (w : Sweep) (k : ℕ) (t : Outcomes) (b : Buffers) (a : Answer) (t' : Outcomes) (b' : Buffers) → masked w k ≡ false → Steps w k b a b' → Added t a t'
    → Turned w k t b t' b'
turned_one w k t b a t' b' e s d = record {
  further = λ b₀ v l h. rw (d.idle, d.moved, d.held) (ran_more w b₀ v k t.idle t.moved t.held b l h e a b' s);
}

few_counted : (kind : Answer → Bool) (w : Sweep) (f : ℕ → Answer) (K : ℕ) → count_to kind w f K ≤ K
few_counted kind w f K = count_most _ K

pub room_of : (w : Sweep) (b : Buffers) (k : ℕ) (t : Outcomes) (b' : Buffers) → tasks w ≤ 64 → Ran w b k t.idle t.moved t.held b' → Growable t
room_of w b k t b' few h = record {
  idle = omega (arith, h.reached, h.idles, few_counted is_idle w h.answered k);
  moved = omega (arith, h.reached, h.moveds, few_counted is_moved w h.answered k);
  held = omega (arith, h.reached, h.helds, few_counted is_held w h.answered k);
}
