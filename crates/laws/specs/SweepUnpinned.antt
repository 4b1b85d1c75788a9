-- With all pins 0 every sweep is what it was before sites could be pinned (Was.antt), with totals and without: no task is held, and the two other counts, the
-- refusals and every buffer are the same.
use Rattle.std.specs.Prelude.{ℕ, ◌<◌, ◌≡◌, refl, ◌↔◌, Bool, true, not, cond, ◌&&◌, ℤ}
use Rattle.std.proofs.Common.{sym, ◌∙◌, subst, arith, eq-eqb, ne_eqb}
use Rattle.std.proofs.Math.Path.{ap}
use Rattle.std.proofs.Math.Bool.{false}
use mathlib.Core.List.{List, ◌++◌}
use Rattle.std.proofs.Math.ListN.{get_or}
use Rattle.lemmas.specs.Bools.{and_no}
use Rattle.lemmas.specs.Counts.{count_where, count_zero, count_pos, count_ext}
use Rattle.paper.specs.Answer.Cases.{Answer, Answer.Refused, Answer.Idle, Answer.Held, Answer.Moved}
use Rattle.paper.specs.Answer.Cases.{SweepAnswer.Fault, SweepAnswer.Swept}
use Rattle.paper.specs.Panel.Input.{Buffers}
use Rattle.paper.specs.Site.Acting.{acts}
use Rattle.paper.specs.Refusal.Rule.{Kept, broken_not_kept}
use Rattle.paper.specs.Refusal.Rules.{order_names, More, rules}
use Rattle.paper.specs.Answer.Task.{Sweep, tasks, masked, task_call, task_choices, areas, is_idle, is_moved, is_held, tasks_that}
use Rattle.paper.specs.Answer.Sweep.{SweepExact, task_rules, sweep_rules, sweep_rules_with, Done, Sweeps}
use Rattle.paper.specs.Answer.Totals.{totals_ask, SweepKeepAnswers}
use Rattle.laws.specs.Matched.{SameVerdict, unchanged, behind, behind_all, reworded, past, ahead_of}
use Rattle.laws.specs.Was.{AnswersWas, SweepExactWas, sweep_rules_was, idle_task, idle_tasks, moved_tasks, DoneWas, SweepsWas, SweepRefusesWas}
use Rattle.laws.specs.Unpinned.{NoPins, pins_kept, unpinned}
use Rattle.laws.specs.SweepKept.{kept_left}
use Rattle.laws.specs.SweepTasks.{task_valid}

-- what was answered, as it is said now: a refusal as a fault, counts with none held
pub record SweptWas (keeping : Bool) (w : Sweep) (b : Buffers) (ts : List ℤ) (idle moved held : ℕ) (b' : Buffers) (ts' : List ℤ) : Type 0 where
  pub none_held : held ≡ 0
  pub sweeps : SweepsWas keeping w b ts idle moved b' ts'

module _ (w : Sweep) (none : NoPins w.lattice.n w.pins) (b b' : Buffers) where
  -- ---- the rules
  exact_was : SweepExact w b ↔ SweepExactWas w b
  exact_was = (
    (λ e. record {
      spins = e.spins;
      fwd = e.fwd;
      bwd = e.bwd;
      order = e.order;
      masks = e.masks;
      couplings = e.couplings;
      temperatures = e.temperatures;
      cuts = e.cuts;
      choices = e.choices;
      greys = e.greys;
      references = e.references;
      seeds = e.seeds;
      labels = e.labels;
      grey_labels = e.grey_labels;
      counts = e.counts;
      sizes = e.sizes;
      members = e.members;
      found = e.found;
      grey_found = e.grey_found;
    }),
    (λ e. record {
      spins = e.spins;
      fwd = e.fwd;
      bwd = e.bwd;
      pins = none.long;
      order = e.order;
      masks = e.masks;
      couplings = e.couplings;
      temperatures = e.temperatures;
      cuts = e.cuts;
      choices = e.choices;
      greys = e.greys;
      references = e.references;
      seeds = e.seeds;
      labels = e.labels;
      grey_labels = e.grey_labels;
      counts = e.counts;
      sizes = e.sizes;
      members = e.members;
      found = e.found;
      grey_found = e.grey_found;
    }),
  )

  pub sweep_rules_was_lem : (m : More) → SameVerdict (sweep_rules_with m w b) (sweep_rules_was m w b)
  sweep_rules_was_lem m =
      behind _ _ _
      (behind _ _ _
      (reworded 2 _ _ exact_was
      (ahead_of _ _ (task_rules w b (tasks w) ++ m.last)
      (behind_all m.lengths _ _ (behind _ _ _ (behind _ _ _ (past _ _ _ (pins_kept none) (unchanged _))))))))

  -- what is kept with totals is kept without them
  plain_kept : (keeping : Bool) (ts : List ℤ) → Kept (sweep_rules_with (totals_ask keeping w.lattice (order_names w.order) ts) w b) → Kept (sweep_rules w b)
  plain_kept keeping ts k =
      let q = k.1.1.1.1 in
      let h = q.1.1.1.1.1.1 in
      let each = kept_left (task_rules w b (tasks w)) (totals_ask keeping w.lattice (order_names w.order) ts).last h.1.1 in
      (k.0, (k.1.0, (k.1.1.0, (q.0, (q.1.0, (q.1.1.0, (q.1.1.1.0, (q.1.1.1.1.0, (h.0, (h.1.0, each))))))))))

  -- ---- each task
  -- what the task k of the spins before the sweep was answered, with the buffers y
  abbrev TaskWas : ℕ → Answer → Buffers → Type 0
  TaskWas k a y = AnswersWas (task_call w k) (task_choices w k) (areas w b b.spins k) a y

  abbrev TaskKept : ℕ → Type 0
  TaskKept k = Kept (rules (task_call w k) (task_choices w k) (areas w b b.spins k))

  abbrev idle : ℕ → Bool
  idle k = idle_task w b.spins k

  -- it was idle just if it answers idle, and moved just if it answers so
  pub record Says (k : ℕ) (a : Answer) : Type 0 where
    pub idle_is : is_idle a ≡ idle k
    pub moved_is : is_moved a ≡ not (idle k)
    pub held_is : is_held a ≡ false
    pub is : a ≡ cond (idle k) Idle Moved

  says : (k : ℕ) (a : Answer) (y : Buffers) → TaskKept k → TaskWas k a y → Says k a
  says k (Refused r) y v f =
      absurd
      (broken_not_kept (rules (task_call w k) (task_choices w k) (areas w b b.spins k)) r
      ((unpinned (task_call w k) none (task_choices w k) (areas w b b.spins k) y (Refused r)).1 f).why v)
  says k Idle y v f =
      let e : idle k ≡ true = eq-eqb _ _ (count_zero (acts (task_call w k) b.spins) w.lattice.n f.none) in
      record { idle_is = sym e; moved_is = ap not (sym e); held_is = refl; is = rw e refl }
  says k Held y v f = absurd f
  says k Moved y v f = record { idle_is = sym e; moved_is = ap not (sym e); held_is = refl; is = rw e refl }
    where
      some : 0 < count_where (acts (task_call w k) b.spins) w.lattice.n
      some = let s = f.some in count_pos (acts (task_call w k) b.spins) w.lattice.n s.site s.below s.does

      e : idle k ≡ false
      e = ne_eqb (count_where (acts (task_call w k) b.spins) w.lattice.n) 0 (λ q. omega (arith, some, q))

  done_was : (k : ℕ) (a : Answer) → Done w b b' k a → DoneWas w b b' k
  done_was k a d = record {
    answer = a;
    spins = d.spins;
    answers = (unpinned (task_call w k) none (task_choices w k) (areas w b b.spins k) (areas w b' d.spins k) a).0 d.answers;
    rows = d.rows;
  }

  done_is : (k : ℕ) → TaskKept k → DoneWas w b b' k → Done w b b' k (cond (idle k) Idle Moved)
  done_is k v d =
      subst (Done w b b' k) (says k d.answer (areas w b' d.spins k) v d.answers).is (record {
        spins = d.spins;
        answers = (unpinned (task_call w k) none (task_choices w k) (areas w b b.spins k) (areas w b' d.spins k) d.answer).1 d.answers;
        rows = d.rows;
      })

  -- ---- the counts, where each unmasked task answers as it did
  module _ (answered : ℕ → Answer) (each : (k : ℕ) → k < tasks w → masked w k ≡ false → Says k (answered k)) where
    counts_by :
        (kind : Answer → Bool) (test : ℕ → Bool)
        → ((k : ℕ) → Says k (answered k) → kind (answered k) ≡ test k)
        → tasks_that kind w answered ≡ count_where (λ k. not (masked w k) && test k) (tasks w)
    counts_by kind test same =
        count_ext (λ k. not (masked w k) && kind (answered k)) (λ k. not (masked w k) && test k) (tasks w) (λ k h. at k h (masked w k) refl)
      where
        at : (k : ℕ) → k < tasks w → (t : Bool) → masked w k ≡ t → (not (masked w k) && kind (answered k)) ≡ (not (masked w k) && test k)
        at k h true e = rw e refl
        at k h false e = rw e (same k (each k h e))

    idle_counts : tasks_that is_idle w answered ≡ idle_tasks w b.spins
    idle_counts = counts_by is_idle idle (λ k s. s.idle_is)

    moved_counts : tasks_that is_moved w answered ≡ moved_tasks w b.spins
    moved_counts = counts_by is_moved (λ k. not (idle k)) (λ k s. s.moved_is)

    held_counts : tasks_that is_held w answered ≡ 0
    held_counts =
        counts_by is_held (λ k. false) (λ k s. s.held_is)
        ∙ count_zero (λ k. not (masked w k) && false) (tasks w) (λ k _. and_no (not (masked w k)))

  -- ---- the answers
  module _ (keeping : Bool) (ts ts' : List ℤ) where
    was : (i m h : ℕ) → SweepKeepAnswers keeping w b ts (Swept i m h) b' ts' → SweptWas keeping w b ts i m h b' ts'
    unfolding done_was
    was i m h f = let s = f.answers in record {
      none_held = ap (λ (vs : List ℕ). get_or vs 2 0) s.counts ∙ held_counts s.answered (each s);
      sweeps = record {
        valid = (sweep_rules_was_lem (totals_ask keeping w.lattice (order_names w.order) ts)).kept.0 f.valid;
        counts = cc (
          ap (λ (vs : List ℕ). get_or vs 0 0) s.counts ∙ idle_counts s.answered (each s),
          ap (λ (vs : List ℕ). get_or vs 1 0) s.counts ∙ moved_counts s.answered (each s),
        );
        lengths = s.lengths;
        each = λ k l e. done_was k (s.answered k) (s.each k l e);
        skipped = s.skipped;
        others = s.others;
        kept = s.kept;
        totals = f.totals;
      };
    }
      where
        each : (s : Sweeps w b i m h b') (k : ℕ) → k < tasks w → masked w k ≡ false → Says k (s.answered k)
        each s k l e =
            let d = done_was k (s.answered k) (s.each k l e) in
            says k (s.answered k) (areas w b' d.spins k) (task_valid w b s.valid k l e) d.answers

    is : (i m h : ℕ) → SweptWas keeping w b ts i m h b' ts' → SweepKeepAnswers keeping w b ts (Swept i m h) b' ts'
    is i m h f = let s = f.sweeps in record {
      valid = valid;
      answers = record {
        valid = plain_kept keeping ts valid;
        answered = answered;
        counts = cc (
          ap (λ (vs : List ℕ). get_or vs 0 0) s.counts ∙ sym (idle_counts answered each),
          ap (λ (vs : List ℕ). get_or vs 1 0) s.counts ∙ sym (moved_counts answered each),
          f.none_held ∙ sym (held_counts answered each),
        );
        lengths = s.lengths;
        each = λ k l e. done_is k (task_kept k l e) (s.each k l e);
        skipped = s.skipped;
        others = s.others;
        kept = s.kept;
      };
      totals = s.totals;
    }
      where
        valid : Kept (sweep_rules_with (totals_ask keeping w.lattice (order_names w.order) ts) w b)
        valid = (sweep_rules_was_lem (totals_ask keeping w.lattice (order_names w.order) ts)).kept.1 f.sweeps.valid

        task_kept : (k : ℕ) → k < tasks w → masked w k ≡ false → TaskKept k
        task_kept = task_valid w b (plain_kept keeping ts valid)

        answered : ℕ → Answer
        answered k = cond (idle k) Idle Moved

        each : (k : ℕ) → k < tasks w → masked w k ≡ false → Says k (answered k)
        each k l e =
            let d = f.sweeps.each k l e in
            let s = says k d.answer (areas w b' d.spins k) (task_kept k l e) d.answers in
            subst (Says k) s.is s

    pub sweep_unpinned : (i m h : ℕ) → SweepKeepAnswers keeping w b ts (Swept i m h) b' ts' ↔ SweptWas keeping w b ts i m h b' ts'
    sweep_unpinned i m h = (was i m h, is i m h)

    pub sweep_unpinned_refused : (r : ℕ) → SweepKeepAnswers keeping w b ts (Fault r) b' ts' ↔ SweepRefusesWas keeping w b ts r b' ts'
    sweep_unpinned_refused r = let rs = sweep_rules_was_lem (totals_ask keeping w.lattice (order_names w.order) ts) in (
      (λ f. record { why = (rs.broken r).0 f.why; kept = f.kept; totals_kept = f.totals_kept }),
      (λ f. record { why = (rs.broken r).1 f.why; kept = f.kept; totals_kept = f.totals_kept }),
    )
