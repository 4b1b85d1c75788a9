-- The tests of a sweep: what a fault says, and what it says of a sweep that keeps totals that there is none.
use Rattle.std.specs.Prelude.{ℕ, zero, suc, ◌≡◌, refl, Bool, List, [], ◌∷◌, ◌++◌, ℤ}
use Rattle.paper.specs.Answer.Cases.{SweepAnswer, SweepAnswer.Fault, SweepAnswer.Swept}
use Rattle.paper.specs.Panel.Input.{Buffers}
use Rattle.paper.specs.Refusal.Rule.{Rule, Kept, broken_not_kept}
use Rattle.paper.specs.Refusal.Rules.{order_names}
use Rattle.paper.specs.Refusal.Verdict.{Verdict, kept_both}
use Rattle.paper.specs.Answer.Task.{Sweep, tasks}
use Rattle.paper.specs.Answer.Sweep.{task_rules, sweep_rules, SweepAnswers}
use Rattle.paper.specs.Answer.Totals.{totals_ask, swept_rules, TotalsAsked, TotalsAfter, SweepKeepRefuses, SweepKeepAnswers}
use Rattle.laws.specs.SweepKept.{kept_left}

kept_last : (rs qs : List Rule) → Kept (rs ++ qs) → Kept qs
kept_last [] qs h = h
kept_last (r ∷ rs) qs h = kept_last rs qs h.1

module _ (keeping : Bool) (w : Sweep) (b : Buffers) (ts : List ℤ) where
  -- a fault refuses the sweep, and nothing has been written
  pub refused_sweep : (r : ℕ) → (r ≡ 0 → ⊥) → Verdict (swept_rules keeping w b ts) r → SweepKeepRefuses keeping w b ts r b ts
  refused_sweep zero ne v = absurd (ne refl)
  refused_sweep (suc r) ne v = record { why = v; kept = refl; totals_kept = refl }

  -- else the rules of a sweep that keeps no totals are kept, and those on the totals, and only then
  pub swept_kept : Kept (swept_rules keeping w b ts) → Kept (sweep_rules w b)
  swept_kept k =
      let q = k.1.1.1.1 in
      let h = q.1.1.1.1.1 in
      let rest = kept_left (task_rules w b (tasks w)) _ h.1.1.1 in
      (k.0, (k.1.0, (k.1.1.0, (q.0, (q.1.0, (q.1.1.0, (q.1.1.1.0, (q.1.1.1.1.0, (h.1.0, (h.1.1.0, rest))))))))))

  pub swept_asked : Kept (swept_rules keeping w b ts) → TotalsAsked keeping w.lattice (order_names w.order) ts
  swept_asked k =
      let h = k.1.1.1.1.1.1.1.1.1 in
      record { lengths = k.1.1.1.0; couplings = h.0; small = (kept_last (task_rules w b (tasks w)) _ h.1.1.1).0 }

  pub asked_swept : Kept (sweep_rules w b) → TotalsAsked keeping w.lattice (order_names w.order) ts → Kept (swept_rules keeping w b ts)
  asked_swept v a =
      let q = v.1.1.1 in
      let h = q.1.1.1.1.1 in
      let r = kept_both (task_rules w b (tasks w)) (totals_ask keeping w.lattice (order_names w.order) ts).last h.1.1 (a.small, tt) in
      (v.0, (v.1.0, (v.1.1.0, (a.lengths, (q.0, (q.1.0, (q.1.1.0, (q.1.1.1.0, (q.1.1.1.1.0, (a.couplings, (h.0, (h.1.0, r))))))))))))

  pub swept_answers :
      Kept (swept_rules keeping w b ts) → (a : SweepAnswer) (b' : Buffers) (us : List ℤ) → SweepAnswers w b a b'
      → TotalsAfter keeping w.lattice b.spins ts b'.spins us → SweepKeepAnswers keeping w b ts a b' us
  swept_answers k (Fault r) b' us f t = absurd (broken_not_kept (sweep_rules w b) _ f.why (swept_kept k))
  swept_answers k (Swept idle moved held) b' us f t = record { valid = k; answers = f; totals = t }
