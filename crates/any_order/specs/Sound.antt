-- What an accepted sweep says of each unmasked task: its own call, in the panel and on its own rows, keeps the rules of a move.
use Rattle.std.specs.Prelude.{ℕ, ◌<◌, ◌≡◌, Bool, false, List, ℤ}
use Rattle.paper.specs.Panel.Input.{Buffers, system}
use Rattle.paper.specs.Refusal.Rule.{Kept}
use Rattle.paper.specs.Refusal.Rules.{order_names}
use Rattle.paper.specs.Refusal.Kept.{Valid, valid_of}
use Rattle.paper.specs.Answer.Totals.{kept_rules, swept_rules, TotalsAsked, asked_kept}
use Rattle.paper.specs.Answer.Task.{Sweep, tasks, masked, task_call, task_choices, areas}
use Rattle.paper.specs.Answer.Sweep.{sweep_rules}
use Rattle.laws.specs.SweepKept.{SweepValid, sweep_valid_of}
use Rattle.laws.specs.SweepTasks.{task_valid, named_in}
use Rattle.laws.specs.SameView.{LeadsInside}
use Rattle.packing.specs.Gathered.{group_rows, own_of}
use Rattle.own_rows.specs.PutBack.{group_totals}
use Rattle.own_rows.specs.Answers.{own_kept_totals}
use Rattle.sweep_tasks.specs.Updating.{swept_kept, swept_asked}

module _ (keeping : Bool) (w : Sweep) (b : Buffers) (ts : List ℤ) (v : Kept (swept_rules keeping w b ts)) where
  pub sound : Kept (sweep_rules w b)
  sound = swept_kept keeping w b ts v

  pub valid : SweepValid w b
  valid = sweep_valid_of w b sound

  pub asked : TotalsAsked keeping w.lattice (order_names w.order) ts
  asked = swept_asked keeping w b ts v

  pub leads : LeadsInside w.lattice
  leads i e hi he = (valid.inverse.there i e hi he).inside

  module _ (k : ℕ) (h : k < tasks w) (e : masked w k ≡ false) where
    task_sound : Valid (task_call w k) (task_choices w k) (areas w b b.spins k)
    task_sound = valid_of (task_call w k) (task_choices w k) (areas w b b.spins k) (task_valid w b sound k h e)

    -- its systems are the panel's, each another
    pub within : (x : ℕ) → x < w.members → system (task_call w k) x < w.lattice.s
    within = task_sound.sound.grouped.below

    pub distinct : (x y : ℕ) → x < w.members → y < w.members → system (task_call w k) x ≡ system (task_call w k) y → x ≡ y
    distinct = task_sound.sound.grouped.distinct

    pub task_kept : Kept (kept_rules keeping (task_call w k) (task_choices w k) (areas w b b.spins k) ts)
    task_kept =
        asked_kept keeping (task_call w k) (task_choices w k) (areas w b b.spins k) ts task_sound
        (record { lengths = asked.lengths; couplings = asked.couplings; small = λ q t n. asked.small q t (named_in w b sound k h t n) })

    pub own_task_kept :
        Kept (kept_rules keeping (own_of (task_call w k)) (task_choices w k) (areas w b (group_rows (task_call w k) b.spins) k) (group_totals (task_call w k) ts))
    own_task_kept = own_kept_totals keeping (task_call w k) (task_choices w k) (areas w b b.spins k) ts task_kept
