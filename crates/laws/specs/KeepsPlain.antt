-- A call that keeps no totals is the call as it was, and leaves the lent totals alone; one that keeps them, where it is accepted, does just the same to
-- everything else. And so a sweep.
use Rattle.std.specs.Prelude.{ℕ, ◌≡◌, refl, Bool, false, List, [], ℤ}
use Rattle.lemmas.specs.Bools.{never}
use Rattle.paper.specs.Answer.Cases.{Answer, Answer.Refused, Answer.Idle, Answer.Held, Answer.Moved}
use Rattle.paper.specs.Answer.Cases.{SweepAnswer, SweepAnswer.Fault, SweepAnswer.Swept}
use Rattle.paper.specs.Panel.Input.{Lattice, Call, Choices, Buffers}
use Rattle.paper.specs.Refusal.Rules.{rules}
use Rattle.paper.specs.Answer.Move.{Accepted, Accepted.idle, Accepted.held, Accepted.moved, Answers}
use Rattle.paper.specs.Answer.Task.{Sweep, tasks}
use Rattle.paper.specs.Answer.Sweep.{task_rules, sweep_rules, SweepAnswers}
use Rattle.paper.specs.Answer.Totals.{kept_rules, swept_rules, TotalsAfter, KeepAnswers, SweepKeeps, SweepKeepAnswers}
use Rattle.laws.specs.Matched.{SameVerdict, unchanged, behind, past, past_last}
use Rattle.laws.specs.Determined.{Same, determined}
use Rattle.laws.specs.SweepDetermined.{SameSweep, sweep_determined}

left_alone : {g : Lattice} {xs ts ys : List ℤ} → TotalsAfter false g xs ts ys ts
left_alone = record { brought = λ e. never e; left = λ _. refl }

-- ---- a move
module _ (c : Call) (p : Choices) (b : Buffers) (ts : List ℤ) where
  pub rules_as_before : SameVerdict (kept_rules false c p b ts) (rules c p b)
  rules_as_before =
      behind _ _ _
      (behind _ _ _
      (behind _ _ _
      (past _ _ _ (λ e. never e)
      (behind _ _ _
      (behind _ _ _
      (behind _ _ _
      (behind _ _ _
      (behind _ _ _
      (past _ _ _ (λ e. never e)
      (behind _ _ _
      (behind _ _ _
      (behind _ _ _
      (behind _ _ _
      (past _ _ _ (λ e. never e) (unchanged [])))))))))))))))

  pub record AsBefore (a : Answer) (b' : Buffers) (ts' : List ℤ) : Type 0 where
    pub answers : Answers c p b a b'
    pub totals : ts' ≡ ts

  -- "calls that keep none are as before"
  pub keeps_none : (a : Answer) (b' : Buffers) (ts' : List ℤ) → KeepAnswers false c p b ts a b' ts' → AsBefore a b' ts'
  keeps_none (Refused r) b' ts' f = record {
    answers = record { why = (rules_as_before.broken _).0 f.why; kept = f.kept };
    totals = f.totals_kept;
  }
  keeps_none Idle b' ts' f = record { answers = f.answers; totals = f.totals.left refl }
  keeps_none Held b' ts' f = record { answers = f.answers; totals = f.totals.left refl }
  keeps_none Moved b' ts' f = record { answers = f.answers; totals = f.totals.left refl }

  pub none_kept : (a : Answer) (b' : Buffers) → Answers c p b a b' → KeepAnswers false c p b ts a b' ts
  none_kept (Refused r) b' f = record { why = (rules_as_before.broken _).1 f.why; kept = f.kept; totals_kept = refl }
  none_kept Idle b' f = record { valid = rules_as_before.kept.1 f.valid; answers = f; totals = left_alone }
  none_kept Held b' f = record { valid = rules_as_before.kept.1 f.valid; answers = f; totals = left_alone }
  none_kept Moved b' f = record { valid = rules_as_before.kept.1 f.valid; answers = f; totals = left_alone }

  -- where a call that keeps totals is accepted, the call that keeps none answers the same and leaves the same in every other buffer
  pub totals_beside :
      (keeping : Bool) (a a' : Answer) (y z : Buffers) (ts' : List ℤ)
      → Accepted a
      → KeepAnswers keeping c p b ts a y ts'
      → Answers c p b a' z
      → Same a y a' z
  totals_beside keeping Idle a' y z ts' idle f g = determined c p b y z Idle a' f.answers g
  totals_beside keeping Held a' y z ts' held f g = determined c p b y z Held a' f.answers g
  totals_beside keeping Moved a' y z ts' moved f g = determined c p b y z Moved a' f.answers g
  totals_beside keeping (Refused _) a' y z ts' x4 f g = elim x4 [ ]

-- ---- a sweep
module _ (w : Sweep) (b : Buffers) (ts : List ℤ) where
  pub sweep_rules_as_before : SameVerdict (swept_rules false w b ts) (sweep_rules w b)
  sweep_rules_as_before =
      behind _ _ _
      (behind _ _ _
      (behind _ _ _
      (past _ _ _ (λ e. never e)
      (behind _ _ _
      (behind _ _ _
      (behind _ _ _
      (behind _ _ _
      (behind _ _ _
      (past _ _ _ (λ e. never e) (behind _ _ _ (behind _ _ _ (past_last _ (task_rules w b (tasks w)) (λ e. never e)))))))))))))

  pub record SweepAsBefore (a : SweepAnswer) (b' : Buffers) (ts' : List ℤ) : Type 0 where
    pub answers : SweepAnswers w b a b'
    pub totals : ts' ≡ ts

  pub sweep_keeps_none : (a : SweepAnswer) (b' : Buffers) (ts' : List ℤ) → SweepKeepAnswers false w b ts a b' ts' → SweepAsBefore a b' ts'
  sweep_keeps_none (Fault r) b' ts' f = record {
    answers = record { why = (sweep_rules_as_before.broken _).0 f.why; kept = f.kept };
    totals = f.totals_kept;
  }
  sweep_keeps_none (Swept i m h) b' ts' f = record { answers = f.answers; totals = f.totals.left refl }

  pub sweep_none_kept : (a : SweepAnswer) (b' : Buffers) → SweepAnswers w b a b' → SweepKeepAnswers false w b ts a b' ts
  sweep_none_kept (Fault r) b' f = record { why = (sweep_rules_as_before.broken _).1 f.why; kept = f.kept; totals_kept = refl }
  sweep_none_kept (Swept i m h) b' f = record { valid = sweep_rules_as_before.kept.1 f.valid; answers = f; totals = left_alone }

  pub sweep_totals_beside :
      (keeping : Bool) (i m h : ℕ) (a' : SweepAnswer) (y z : Buffers) (ts' : List ℤ)
      → SweepKeeps keeping w b ts i m h y ts'
      → SweepAnswers w b a' z
      → SameSweep (Swept i m h) y a' z
  sweep_totals_beside keeping i m h a' y z ts' f g = sweep_determined w b y z (Swept i m h) a' f.answers g
