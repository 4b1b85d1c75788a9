-- The tasks of a sweep have one answer, and leave one content of every buffer and of the totals.
use Rattle.std.specs.Prelude.{◌≡◌, Bool, List, ℤ}
use Rattle.paper.specs.declared.Counts.{Counts}
use Rattle.paper.specs.Answer.Cases.{SweepAnswer, sweep_answer_by, sweep_answer_by_injective}
use Rattle.paper.specs.Panel.Input.{Buffers}
use Rattle.paper.specs.Refusal.Rule.{Kept}
use Rattle.paper.specs.Refusal.Rules.{order_names}
use Rattle.paper.specs.Answer.Task.{Sweep}
use Rattle.paper.specs.Answer.Sweep.{sweep_rules, SweepAnswers}
use Rattle.paper.specs.Answer.Totals.{TotalsAsked, TotalsAfter}
use Rattle.laws.specs.KeepDetermined.{SameSweepKept, sweep_keep_determined}
use Rattle.sweep_tasks.specs.Updating.{asked_swept, swept_answers}

module _ (keeping : Bool) (w : Sweep) (b : Buffers) (ts : List ℤ) (y z : Buffers) (us vs : List ℤ) (a a' : SweepAnswer) where
  pub run_tasks_determined :
      Kept (sweep_rules w b)
      → TotalsAsked keeping w.lattice (order_names w.order) ts
      → SweepAnswers w b a y
      → TotalsAfter keeping w.lattice b.spins ts y.spins us
      → SweepAnswers w b a' z
      → TotalsAfter keeping w.lattice b.spins ts z.spins vs
      → SameSweepKept a y us a' z vs
  run_tasks_determined v q f p g r =
      let k = asked_swept keeping w b ts v q in
      sweep_keep_determined keeping w b ts y z us vs a a' (swept_answers keeping w b ts k a y us f p) (swept_answers keeping w b ts k a' z vs g r)

-- and one result
pub run_tasks_result_determined :
    (keeping : Bool) (w : Sweep) (b : Buffers) (ts : List ℤ) (y z : Buffers) (us vs : List ℤ) (a a' : Counts)
    → Kept (sweep_rules w b)
    → TotalsAsked keeping w.lattice (order_names w.order) ts
    → SweepAnswers w b (sweep_answer_by a) y
    → TotalsAfter keeping w.lattice b.spins ts y.spins us
    → SweepAnswers w b (sweep_answer_by a') z
    → TotalsAfter keeping w.lattice b.spins ts z.spins vs
    → a ≡ a'
run_tasks_result_determined keeping w b ts y z us vs a a' v q f p g r =
    sweep_answer_by_injective a a' (run_tasks_determined keeping w b ts y z us vs (sweep_answer_by a) (sweep_answer_by a') v q f p g r).answer
