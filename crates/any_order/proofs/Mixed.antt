-- Two sweeps over different systems of one panel, each with its own output areas: their tasks' steps mixed end as the one sweep and then the other does.
use Rattle.std.specs.Prelude.{ℕ, ◌<◌, ◌≡◌, refl, Bool, true, false, List, length, ℤ}
use Rattle.std.proofs.Math.Path.{sym}
use Rattle.std.proofs.Common.{◌∙◌, ap, subst, arith}
use Rattle.lemmas.specs.Bools.{never}
use Rattle.paper.specs.Panel.Input.{Buffers, system, spin}
use Rattle.paper.specs.Refusal.Rule.{Kept}
use Rattle.paper.specs.Answer.Totals.{total, swept_rules}
use Rattle.paper.specs.Answer.Task.{Sweep, tasks, masked, task_call, areas}
use Rattle.paper.specs.Answer.Sweep.{Unmoved}
use Rattle.laws.specs.AnswersLocal.{with_spins}
use Rattle.laws.specs.SameView.{join_rows, join_length, join_mine, join_other}
use Rattle.laws.specs.SweepNamedOnly.{ListsOnly, sweep_rules_isolated}
use Rattle.own_rows.specs.PutBack.{own_rows_kept, own_totals_kept}
use Rattle.any_order.specs.Schedule.{Alone}
use Rattle.any_order.specs.Tasks.{Holding, DoesFor, Holds, Collected, Merged, swept_by}
use Rattle.any_order.proofs.Sweeping.{as_row, tasks_sweep}
use Rattle.any_order.specs.Mixed.{MergedTwo, InTurn, task_mine, unmoved}

module _
    (mine theirs : ℕ → Bool) (apart : (t : ℕ) → theirs t ≡ true → mine t ≡ false)
    (w x : Sweep) (only : ListsOnly mine w) (only' : ListsOnly theirs x) (one_size : x.lattice.n ≡ w.lattice.n)
    (keeping keeping' : Bool) (b d : Buffers) (ts : List ℤ) (one_panel : d.spins ≡ b.spins)
    (v : Kept (swept_rules keeping w b ts)) (v' : Kept (swept_rules keeping' x d ts))
    (before after before' after' : ℕ → Holding) (b' d' : Buffers) (us : List ℤ) (m : MergedTwo w x b d ts after after' b' d' us)
  where
    -- between the two sweeps
    rows_mid : List ℤ
    rows_mid = join_rows w.lattice.n mine b.spins b'.spins

    totals_mid : List ℤ
    totals_mid = join_rows 1 mine ts us

    long : length rows_mid ≡ length b.spins
    unfolding rows_mid
    long = join_length w.lattice.n mine b.spins b'.spins

    totals_long : length totals_mid ≡ length ts
    unfolding totals_mid
    totals_long = join_length 1 mine ts us

    row_mine : (t i : ℕ) → mine t ≡ true → i < w.lattice.n → spin w.lattice.n rows_mid t i ≡ spin w.lattice.n b'.spins t i
    unfolding rows_mid
    row_mine = join_mine w.lattice.n mine b.spins b'.spins m.outputs.lengths.spins

    row_other : (t i : ℕ) → mine t ≡ false → i < w.lattice.n → spin w.lattice.n rows_mid t i ≡ spin w.lattice.n b.spins t i
    unfolding rows_mid
    row_other = join_other w.lattice.n mine b.spins b'.spins m.outputs.lengths.spins

    total_mine : (t : ℕ) → mine t ≡ true → total totals_mid t ≡ total us t
    unfolding totals_mid
    total_mine t e = sym (as_row totals_mid t) ∙ (join_mine 1 mine ts us m.totals_long t 0 e (omega arith) ∙ as_row us t)

    total_other : (t : ℕ) → mine t ≡ false → total totals_mid t ≡ total ts t
    unfolding totals_mid
    total_other t e = sym (as_row totals_mid t) ∙ (join_other 1 mine ts us m.totals_long t 0 e (omega arith) ∙ as_row ts t)

    -- ---- the first sweep
    first_collected : Collected w b after (with_spins b' rows_mid) totals_mid
    first_collected = let c = m.outputs in record {
      lengths = record {
        spins = long;
        labels = c.lengths.labels;
        counts = c.lengths.counts;
        sizes = c.lengths.sizes;
        grey_labels = c.lengths.grey_labels;
        members = c.lengths.members;
        found = c.lengths.found;
        grey_found = c.lengths.grey_found;
      };
      each = λ k h e. record {
        outputs = (c.each k h e).outputs;
        rows = λ i y hi hy. row_mine (system (task_call w k) y) i (task_mine mine w only keeping b ts v k h e y hy) hi ∙ (c.each k h e).rows i y hi hy;
        totals = λ y hy. total_mine (system (task_call w k) y) (task_mine mine w only keeping b ts v k h e y hy) ∙ (c.each k h e).totals y hy;
      };
      skipped = c.skipped;
      kept = record {
        labels = c.kept.labels;
        grey_labels = c.kept.grey_labels;
        counts = c.kept.counts;
        sizes = c.kept.sizes;
        members = c.kept.members;
        found = c.kept.found;
        grey_found = c.kept.grey_found;
      };
    }

    not_theirs : (t : ℕ) → mine t ≡ true → theirs t ≡ false
    not_theirs t e = go (theirs t) refl
      where
        go : (q : Bool) → theirs t ≡ q → q ≡ false
        go false f = refl
        go true f = never (sym (apart t f) ∙ e)

    first_merged : Merged w b ts after (with_spins b' rows_mid) totals_mid
    first_merged = record {
      outputs = first_collected;
      totals_long = totals_long;
      other_rows = λ i t hi out. rows_at i t hi out (mine t) refl;
      other_totals = λ t out. totals_at t out (mine t) refl;
    }
      where
        rows_at :
            (i t : ℕ)
            → i < w.lattice.n
            → Unmoved w t
            → (q : Bool)
            → mine t ≡ q
            → spin w.lattice.n rows_mid t i ≡ spin w.lattice.n b.spins t i
        rows_at i t hi out true e = row_mine t i e hi ∙ m.other_rows i t hi out (unmoved theirs x only' keeping' d ts v' t (not_theirs t e))
        rows_at i t hi out false e = row_other t i e hi

        totals_at : (t : ℕ) → Unmoved w t → (q : Bool) → mine t ≡ q → total totals_mid t ≡ total ts t
        totals_at t out true e = total_mine t e ∙ m.other_totals t out (unmoved theirs x only' keeping' d ts v' t (not_theirs t e))
        totals_at t out false e = total_other t e

    -- ---- the second, on what the first leaves: of its own systems that is what was there before
    abbrev KeptRows : ℕ → Type 0
    KeptRows n = (t i : ℕ) → mine t ≡ false → i < n → spin n rows_mid t i ≡ spin n d.spins t i

    row_other' : KeptRows x.lattice.n
    row_other' = subst KeptRows (sym one_size) (λ t i e hi. row_other t i e hi ∙ ap (λ (zs : List ℤ). spin w.lattice.n zs t i) (sym one_panel))

    second_kept : Kept (swept_rules keeping' x (with_spins d rows_mid) totals_mid)
    second_kept =
        (sweep_rules_isolated theirs x only' d rows_mid (long ∙ sym (ap length one_panel)) (λ t i q hi. row_other' t i (apart t q) hi) keeping' ts totals_mid
        totals_long (λ t q. total_other t (apart t q))).kept.0 v'

    second_holds : (k : ℕ) → k < tasks x → masked x k ≡ false → (h : Holding) → Holds x d ts k h → Holds x (with_spins d rows_mid) totals_mid k h
    second_holds k l e h s = record {
      buffers =
          s.buffers
          ∙ ap (λ (zs : List ℤ). areas x d zs k)
          (own_rows_kept (task_call x k) d.spins rows_mid (λ i hi y hy. sym (row_other' (system (task_call x k) y) i (other y hy) hi)));
      totals = s.totals ∙ own_totals_kept (task_call x k) ts totals_mid (λ y hy. sym (total_other (system (task_call x k) y) (other y hy)));
      blue = s.blue;
      area = s.area;
    }
      where
        other : (y : ℕ) → y < x.members → mine (system (task_call x k) y) ≡ false
        other y hy = apart (system (task_call x k) y) (task_mine theirs x only' keeping' d ts v' k l e y hy)

    second_collected : Collected x (with_spins d rows_mid) after' d' us
    second_collected = let c = m.outputs' in record {
      lengths = record {
        spins = c.lengths.spins ∙ (ap length one_panel ∙ sym long);
        labels = c.lengths.labels;
        counts = c.lengths.counts;
        sizes = c.lengths.sizes;
        grey_labels = c.lengths.grey_labels;
        members = c.lengths.members;
        found = c.lengths.found;
        grey_found = c.lengths.grey_found;
      };
      each = c.each;
      skipped = λ k h e. ap (λ (z : Buffers). with_spins z rows_mid) (c.skipped k h e);
      kept = record {
        labels = c.kept.labels;
        grey_labels = c.kept.grey_labels;
        counts = c.kept.counts;
        sizes = c.kept.sizes;
        members = c.kept.members;
        found = c.kept.found;
        grey_found = c.kept.grey_found;
      };
    }

    abbrev LeftRows : ℕ → Type 0
    LeftRows n = (i t : ℕ) → i < n → Unmoved x t → spin n d'.spins t i ≡ spin n rows_mid t i

    left_rows : LeftRows w.lattice.n
    left_rows i t hi out = ap (λ (zs : List ℤ). spin w.lattice.n zs t i) m.one_panel ∙ go (mine t) refl
      where
        go : (q : Bool) → mine t ≡ q → spin w.lattice.n b'.spins t i ≡ spin w.lattice.n rows_mid t i
        go true e = sym (row_mine t i e hi)
        go false e = m.other_rows i t hi (unmoved mine w only keeping b ts v t e) out ∙ sym (row_other t i e hi)

    second_merged : Merged x (with_spins d rows_mid) totals_mid after' d' us
    second_merged = record {
      outputs = second_collected;
      totals_long = m.totals_long ∙ sym totals_long;
      other_rows = subst LeftRows (sym one_size) left_rows;
      other_totals = λ t out. totals_at t out (mine t) refl;
    }
      where
        totals_at : (t : ℕ) → Unmoved x t → (q : Bool) → mine t ≡ q → total us t ≡ total totals_mid t
        totals_at t out true e = sym (total_mine t e)
        totals_at t out false e = m.other_totals t (unmoved mine w only keeping b ts v t e) out ∙ sym (total_other t e)

    -- ---- both
    module _
        (starts : (k : ℕ) → k < tasks w → masked w k ≡ false → Holds w b ts k (before k))
        (steps : (k : ℕ) → k < tasks w → masked w k ≡ false → Alone (DoesFor keeping w k) (before k) (after k))
        (starts' : (k : ℕ) → k < tasks x → masked x k ≡ false → Holds x d ts k (before' k))
        (steps' : (k : ℕ) → k < tasks x → masked x k ≡ false → Alone (DoesFor keeping' x k) (before' k) (after' k))
      where
        pub both_in_turn : InTurn keeping w b ts (swept_by w after) b' keeping' x d (swept_by x after') d' us
        both_in_turn = record {
          rows = rows_mid;
          totals = totals_mid;
          first = tasks_sweep keeping w b ts v before after (with_spins b' rows_mid) totals_mid first_merged starts steps;
          second =
              tasks_sweep keeping' x (with_spins d rows_mid) totals_mid second_kept before' after' d' us second_merged
              (λ k h e. second_holds k h e (before' k) (starts' k h e)) steps';
        }
