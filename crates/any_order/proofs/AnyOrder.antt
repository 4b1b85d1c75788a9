-- 14/14: every order of all tasks' steps that keeps each task's own three in order ends in the spins, outputs, totals and counts of the sweep, and no
-- step of it is refused. A sweep that is refused takes no step and leaves all as it was.
use Rattle.std.specs.Prelude.{ℕ, zero, suc, ◌<◌, ◌≡◌, Bool, false, List, ℤ}
use Rattle.paper.specs.Answer.Cases.{SweepAnswer, SweepAnswer.Fault, SweepAnswer.Swept}
use Rattle.paper.specs.Panel.Input.{Buffers}
use Rattle.paper.specs.Refusal.Rule.{Kept, broken_not_kept}
use Rattle.paper.specs.Refusal.Verdict.{Verdict}
use Rattle.paper.specs.Answer.Totals.{swept_rules, SweepKeepAnswers}
use Rattle.paper.specs.Answer.Task.{Sweep, tasks, masked}
use Rattle.laws.specs.KeepDetermined.{SameSweepKept, sweep_keep_determined}
use Rattle.any_order.specs.Schedule.{Key, Turn, Run, Alone, Ordered}
use Rattle.any_order.specs.Commute.{each_alone}
use Rattle.any_order.specs.EachTurn.{EachTurn, each_turn}
use Rattle.any_order.specs.Tasks.{Holding, DoesFor, Holds, Merged, swept_by}
use Rattle.any_order.proofs.NoRefusal.{first_unrefused, second_unrefused, third_unrefused}
use Rattle.any_order.proofs.Sweeping.{tasks_sweep}
use Rattle.any_order.proofs.HandedBack.{sweep_merged}
use Rattle.any_order.specs.Unmasked.{key, unmasked_tasks, stepping, Unmasked, listed_is, tasks_listed, tasks_once}
use Rattle.any_order.specs.AnyOrder.{SweepSteps, NotRefused, Starts, Begins, Ends, answer_of}

-- the tasks of an accepted sweep begin with what is theirs, and take all their steps, each task's own in order
module _
    (keeping : Bool) (w : Sweep) (b : Buffers) (ts : List ℤ) (team : ℕ) (xs : List Turn) (st st' : Key → Holding)
    (accepted : Kept (swept_rules keeping w b ts))
    (starts : Starts w b ts (λ k. st (key team k)))
    (ordered : Ordered (unmasked_tasks team w) xs)
    (run : Run (SweepSteps keeping w) xs st st')
  where
    -- then none of these is refused
    pub no_step_refused : EachTurn (NotRefused keeping w) run
    no_step_refused =
        each_turn Good (NotRefused keeping w)
        (record {
          first = λ q h₀ h₁ g. first_unrefused keeping w b ts accepted q.task g.0.below g.0.unmasked h₀ g.1 h₁;
          second = λ q h₀ h₁ h₂ g. second_unrefused keeping w b ts accepted q.task g.0.below g.0.unmasked h₀ g.1 h₁ h₂;
          third = λ q h₀ h₁ h₂ h₃ g. third_unrefused keeping w b ts accepted q.task g.0.below g.0.unmasked h₀ g.1 h₁ h₂ h₃;
        })
        (unmasked_tasks team w) xs ordered (λ q l. good q (listed_is team w q l)) run
      where
        Good : Key → Holding → Type 0
        Good q h = Unmasked team w q × Holds w b ts q.task h

        good : (q : Key) → Unmasked team w q → Good q (st q)
        good q a = (a, rw a.is (starts q.task a.below a.unmasked))

    steps : (k : ℕ) → k < tasks w → masked w k ≡ false → Alone (DoesFor keeping w k) (st (key team k)) (st' (key team k))
    steps k h e = each_alone (unmasked_tasks team w) xs (tasks_once team w) ordered run (key team k) (tasks_listed team w k h e)

    -- and what is put together from what they hold is the sweep's
    pub any_order :
        (b' : Buffers) (us : List ℤ)
        → Merged w b ts (λ k. st' (key team k)) b' us
        → SweepKeepAnswers keeping w b ts (swept_by w (λ k. st' (key team k))) b' us
    any_order b' us m = tasks_sweep keeping w b ts accepted (λ k. st (key team k)) (λ k. st' (key team k)) b' us m starts steps

    -- so it is whatever the sweep answers and leaves by ascending tasks
    pub same_as_ascending :
        (b' : Buffers) (us : List ℤ) (a : SweepAnswer) (d : Buffers) (vs : List ℤ)
        → Merged w b ts (λ k. st' (key team k)) b' us
        → SweepKeepAnswers keeping w b ts a d vs
        → SameSweepKept (swept_by w (λ k. st' (key team k))) b' us a d vs
    same_as_ascending b' us a d vs m f =
        sweep_keep_determined keeping w b ts b' d us vs (swept_by w (λ k. st' (key team k))) a (any_order b' us m) f

    -- and that can be put together so
    pub ascending_merges : (a : SweepAnswer) (d : Buffers) (vs : List ℤ) → SweepKeepAnswers keeping w b ts a d vs → Merged w b ts (λ k. st' (key team k)) d vs
    ascending_merges (Fault r) d vs f = absurd (broken_not_kept (swept_rules keeping w b ts) r f.why accepted)
    ascending_merges (Swept idle moved held) d vs f =
        sweep_merged keeping w b ts idle moved held d vs f (λ k. st (key team k)) (λ k. st' (key team k)) starts steps

-- ---- accepted or not: the tests of the sweep, on the state at the start, answer the number r
pub run_answers :
    (keeping : Bool) (w : Sweep) (b : Buffers) (ts : List ℤ) (team : ℕ) (xs : List Turn) (st st' : Key → Holding) (r : ℕ) (b' : Buffers) (us : List ℤ)
    → Verdict (swept_rules keeping w b ts) r
    → Begins r w b ts (λ k. st (key team k))
    → Ordered (stepping r team w) xs
    → Run (SweepSteps keeping w) xs st st'
    → Ends r w b ts (λ k. st' (key team k)) b' us
    → SweepKeepAnswers keeping w b ts (answer_of r w (λ k. st' (key team k))) b' us
run_answers keeping w b ts team xs st st' zero b' us v starts o run m = any_order keeping w b ts team xs st st' v starts o run b' us m
run_answers keeping w b ts team xs st st' (suc r) b' us v starts o run m = record { why = v; kept = m.0; totals_kept = m.1 }
