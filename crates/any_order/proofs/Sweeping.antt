-- Tasks that have each done their three steps alone, on rows of their own, have done the sweep together.
use Rattle.std.specs.Prelude.{ℕ, ◌<◌, ◌≡◌, refl, ◌⊎◌, Bool, true, false, List, get_or, ℤ, pos, ◌+ℤ◌, neg_ℤ}
use Rattle.std.proofs.Math.Path.{sym}
use Rattle.std.proofs.Common.{◌∙◌, ap, subst, inl, inr, arith, ext_get_or}
use Rattle.std.proofs.Math.IntN.{+ℤ_invr, +ℤ_idr}
use Rattle.paper.specs.Panel.Input.{Buffers, spin, system}
use Rattle.paper.specs.Site.Energy.{energy}
use Rattle.paper.specs.Refusal.Rule.{Kept}
use Rattle.paper.specs.Answer.Move.{Answers}
use Rattle.paper.specs.Answer.Totals.{total, swept_rules, TotalsAfter, KeepAccepts, SweepKeepAnswers}
use Rattle.paper.specs.Answer.Task.{Sweep, tasks, masked, task_call, task_choices, areas}
use Rattle.paper.specs.Answer.Sweep.{Done, Unmoved}
use Rattle.laws.specs.AnswersLocal.{with_spins}
use Rattle.laws.specs.SameView.{join_rows, join_length, join_mine, join_other, energy_local}
use Rattle.own_rows.specs.PutBack.{PutBack, PutTotals}
use Rattle.any_order.specs.Schedule.{Alone}
use Rattle.any_order.specs.Tasks.{Holding, DoesFor, Holds, Handed, Merged, swept_by}
use Rattle.any_order.specs.Whose.{is_in_group, in_group, off_group, Owned, whose}
use Rattle.any_order.specs.Sound.{sound, valid, leads, within}
use Rattle.any_order.proofs.InPanel.{in_panel}

-- a total is a row of one column
pub as_row : (ts : List ℤ) (t : ℕ) → spin 1 ts t 0 ≡ total ts t
as_row ts t = ap (λ (q : ℕ). get_or ts q (pos 0)) (omega arith)

module _ (keeping : Bool) (w : Sweep) (b : Buffers) (ts : List ℤ) (v : Kept (swept_rules keeping w b ts)) where
  module _ (before after : ℕ → Holding) (b' : Buffers) (us : List ℤ) (m : Merged w b ts after b' us) where
    abbrev Follows : ℕ → Type 0
    Follows t = total us t ≡ total ts t +ℤ (energy w.lattice b'.spins t +ℤ neg_ℤ (energy w.lattice b.spins t))

    -- the panel after the task k alone
    rows_with : ℕ → List ℤ
    rows_with k = join_rows w.lattice.n (is_in_group (task_call w k)) b.spins b'.spins

    totals_with : ℕ → List ℤ
    totals_with k = join_rows 1 (is_in_group (task_call w k)) ts us

    row_in : (k i x : ℕ) → i < w.lattice.n → x < w.members
        → spin w.lattice.n (rows_with k) (system (task_call w k) x) i ≡ spin w.lattice.n b'.spins (system (task_call w k) x) i
    unfolding rows_with
    row_in k i x hi hx =
        join_mine w.lattice.n (is_in_group (task_call w k)) b.spins b'.spins m.outputs.lengths.spins (system (task_call w k) x) i
        (in_group (task_call w k) x hx) hi

    total_in : (k x : ℕ) → x < w.members → total (totals_with k) (system (task_call w k) x) ≡ total us (system (task_call w k) x)
    unfolding totals_with
    total_in k x hx =
        sym (as_row (totals_with k) (system (task_call w k) x))
        ∙ (join_mine 1 (is_in_group (task_call w k)) ts us m.totals_long (system (task_call w k) x) 0 (in_group (task_call w k) x hx) (omega arith)
        ∙ as_row us (system (task_call w k) x))

    module _ (k : ℕ) (h : k < tasks w) (e : masked w k ≡ false) (s₀ : Holds w b ts k (before k)) (s : Alone (DoesFor keeping w k) (before k) (after k)) where
      handed : Handed w k (after k) b' us
      handed = m.outputs.each k h e

      put_back : PutBack (task_call w k) b.spins (after k).buffers.spins (rows_with k)
      unfolding rows_with
      put_back = record {
        long = join_length w.lattice.n (is_in_group (task_call w k)) b.spins b'.spins;
        group = λ i x hi hx. row_in k i x hi hx ∙ handed.rows i x hi hx;
        others = λ i t hi n.
            join_other w.lattice.n (is_in_group (task_call w k)) b.spins b'.spins m.outputs.lengths.spins t i (off_group (task_call w k) t n) hi;
      }

      put_totals : PutTotals (task_call w k) ts (after k).totals (totals_with k)
      unfolding totals_with
      put_totals = record {
        long = join_length 1 (is_in_group (task_call w k)) ts us;
        group = λ x hx. total_in k x hx ∙ handed.totals x hx;
        others = λ t n.
            sym (as_row (totals_with k) t)
            ∙ (join_other 1 (is_in_group (task_call w k)) ts us m.totals_long t 0 (off_group (task_call w k) t n) (omega arith) ∙ as_row ts t);
      }

      moved :
          KeepAccepts keeping (task_call w k) (task_choices w k) (areas w b b.spins k) ts (after k).answered
          (with_spins (after k).buffers (rows_with k)) (totals_with k)
      moved = in_panel keeping w b ts v k h e (before k) (after k) s₀ s (rows_with k) (totals_with k) put_back put_totals

      task_done : Done w b b' k (after k).answered
      task_done = record {
        spins = rows_with k;
        answers =
            subst
            (λ (z : Buffers). Answers (task_call w k) (task_choices w k) (areas w b b.spins k) (after k).answered (with_spins z (rows_with k)))
            (sym handed.outputs) moved.answers;
        rows = λ i x hi hx. sym (row_in k i x hi hx);
      }

      -- of the group's place x
      energy_in : (x : ℕ) → x < w.members
          → energy w.lattice (rows_with k) (system (task_call w k) x) ≡ energy w.lattice b'.spins (system (task_call w k) x)
      energy_in x hx = energy_local w.lattice b'.spins (rows_with k) (system (task_call w k) x) (leads keeping w b ts v) (λ i hi. row_in k i x hi hx)

      total_brought : keeping ≡ true → (x : ℕ) → x < w.members → Follows (system (task_call w k) x)
      total_brought q x hx =
          let t = system (task_call w k) x in
          sym (total_in k x hx)
          ∙ ((moved.totals.brought q).each t (within keeping w b ts v k h e x hx)
          ∙ ap (λ (z : ℤ). total ts t +ℤ (z +ℤ neg_ℤ (energy w.lattice b.spins t))) (energy_in x hx))

      total_left : keeping ≡ false → (x : ℕ) → x < w.members → total us (system (task_call w k) x) ≡ total ts (system (task_call w k) x)
      total_left q x hx = sym (total_in k x hx) ∙ ap (λ (z : List ℤ). total z (system (task_call w k) x)) (moved.totals.left q)

    module _
        (starts : (k : ℕ) → k < tasks w → masked w k ≡ false → Holds w b ts k (before k))
        (steps : (k : ℕ) → k < tasks w → masked w k ≡ false → Alone (DoesFor keeping w k) (before k) (after k))
      where
        some : 0 < w.members
        some = omega (arith, (valid keeping w b ts v).ranged.ranged.size_low)

        follows : keeping ≡ true → (t : ℕ) → Owned w t ⊎ Unmoved w t → Follows t
        follows q t (inl r) =
            subst Follows (sym r.is)
            (total_brought r.task r.below r.unmasked (starts r.task r.below r.unmasked) (steps r.task r.below r.unmasked) q
            r.place r.inside)
        follows q t (inr r) =
            m.other_totals t r
            ∙ sym (ap (λ (z : ℤ). total ts t +ℤ (z +ℤ neg_ℤ (energy w.lattice b.spins t)))
            (energy_local w.lattice b.spins b'.spins t (leads keeping w b ts v) (λ i hi. m.other_rows i t hi r))
            ∙ (ap (λ (z : ℤ). total ts t +ℤ z) (+ℤ_invr (energy w.lattice b.spins t)) ∙ +ℤ_idr (total ts t)))

        same : keeping ≡ false → (t : ℕ) → Owned w t ⊎ Unmoved w t → total us t ≡ total ts t
        same q t (inl r) =
            subst (λ (z : ℕ). total us z ≡ total ts z) (sym r.is)
            (total_left r.task r.below r.unmasked (starts r.task r.below r.unmasked) (steps r.task r.below r.unmasked) q
            r.place r.inside)
        same q t (inr r) = m.other_totals t r

        totals_after : TotalsAfter keeping w.lattice b.spins ts b'.spins us
        totals_after = record {
          brought = λ q. record { long = m.totals_long; each = λ t ht. follows q t (whose w t some) };
          left = λ q. ext_get_or (pos 0) us ts m.totals_long (λ t ht. same q t (whose w t some));
        }

        -- the counts are of what the first steps answered
        pub tasks_sweep : SweepKeepAnswers keeping w b ts (swept_by w after) b' us
        tasks_sweep = record {
          valid = v;
          answers = record {
            valid = sound keeping w b ts v;
            answered = λ k. (after k).answered;
            counts = refl;
            lengths = m.outputs.lengths;
            each = λ k h e. task_done k h e (starts k h e) (steps k h e);
            skipped = m.outputs.skipped;
            others = m.other_rows;
            kept = m.outputs.kept;
          };
          totals = totals_after;
        }
