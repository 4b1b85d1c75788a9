-- The other way round: what the sweep leaves is what is put together from what the tasks hold. So there is such a panel, and it is one.
use Rattle.std.specs.Prelude.{ℕ, ◌+◌, ◌*◌, ◌/◌, ◌%◌, ◌<◌, ◌≡◌, ◌⊎◌, ◌≢◌, Bool, true, false, List, length, get_or, ℤ, pos}
use Rattle.std.proofs.Math.Path.{refl}
use Rattle.std.proofs.Common.{sym, ◌∙◌, ap, inl, inr, arith}
use Rattle.std.proofs.Math.Decide.{dec_lt}
use Rattle.std.proofs.Math.ListN.{get_or-eq_default}
use Rattle.lemmas.specs.Places.{Placed, Unplaced, place}
use Rattle.lemmas.specs.Cells.{tabulate, length_tabulate, tabulate_at, row_of, column_of_lem, cell_lt}
use Rattle.paper.specs.Panel.Input.{Call, Buffers, spin, pattern, size, system}
use Rattle.paper.specs.Refusal.Rule.{Kept}
use Rattle.paper.specs.Refusal.Rules.{When}
use Rattle.paper.specs.Answer.Totals.{total, swept_rules, KeepAccepts, SweepKeeps}
use Rattle.paper.specs.Answer.Task.{Sweep, tasks, masked, task_call, task_choices, areas}
use Rattle.paper.specs.Answer.Sweep.{Done}
use Rattle.laws.specs.AnswersLocal.{with_spins}
use Rattle.laws.specs.Determined.{determined}
use Rattle.laws.specs.SameView.{totals_alike, totals_stay, totals_length}
use Rattle.own_rows.specs.PutBack.{group_totals, total_at, PutBack, PutTotals}
use Rattle.any_order.specs.Schedule.{Alone}
use Rattle.any_order.specs.Tasks.{Holding, DoesFor, Holds, Handed, Merged}
use Rattle.any_order.specs.Sound.{valid, asked, leads, within, distinct}
use Rattle.any_order.proofs.InPanel.{own_totals, in_panel}
use Rattle.any_order.proofs.Sweeping.{as_row}

-- ---- rows put back at their places, n columns each: the row k of `own` at g k
abbrev placed : {m : ℕ} {g : ℕ → ℕ} {t : ℕ} → (ℕ → ℤ) → ℤ → Placed m g t ⊎ Unplaced m g t → ℤ
placed f z (inl q) = f q.0
placed f z (inr q) = z

put_rows : ℕ → (ℕ → ℕ) → ℕ → List ℤ → List ℤ → List ℤ
put_rows m g n xs own = tabulate (length xs) (λ a. placed (λ k. spin n own k (a % n)) (get_or xs a (pos 0)) (place m g (a / n)))

module _ (m : ℕ) (g : ℕ → ℕ) (n : ℕ) (xs own : List ℤ) where
  put_length : length (put_rows m g n xs own) ≡ length xs
  unfolding put_rows
  put_length = length_tabulate (length xs) _

  put_cell :
      (t i : ℕ)
      → i < n
      → t * n + i < length xs
      → spin n (put_rows m g n xs own) t i ≡ placed (λ k. spin n own k i) (spin n xs t i) (place m g t)
  unfolding put_rows
  put_cell t i hi l =
      tabulate_at (length xs) (λ a. placed (λ k. spin n own k (a % n)) (get_or xs a (pos 0)) (place m g (a / n))) (t * n + i) l
      ∙ rw (row_of n t i hi, column_of_lem n t i hi) refl

  put_group :
      ((j k : ℕ) → j < m → k < m → g j ≡ g k → j ≡ k)
      → (k i : ℕ)
      → k < m
      → i < n
      → g k * n + i < length xs
      → spin n (put_rows m g n xs own) (g k) i ≡ spin n own k i
  put_group distinct k i hk hi l = put_cell (g k) i hi l ∙ go (place m g (g k))
    where
      go : (q : Placed m g (g k) ⊎ Unplaced m g (g k)) → placed (λ j. spin n own j i) (spin n xs (g k) i) q ≡ spin n own k i
      go (inl q) = ap (λ (j : ℕ). spin n own j i) (distinct q.0 k q.1 hk (sym q.2))
      go (inr q) = absurd (q k hk refl)

  put_others : (t i : ℕ) → i < n → ((k : ℕ) → k < m → t ≢ g k) → spin n (put_rows m g n xs own) t i ≡ spin n xs t i
  put_others t i hi out = go (dec_lt (t * n + i) (length xs))
    where
      at : (q : Placed m g t ⊎ Unplaced m g t) → placed (λ j. spin n own j i) (spin n xs t i) q ≡ spin n xs t i
      at (inl q) = absurd (out q.0 q.1 q.2)
      at (inr q) = refl

      go : Dec (t * n + i < length xs) → spin n (put_rows m g n xs own) t i ≡ spin n xs t i
      go (yes l) = put_cell t i hi l ∙ at (place m g t)
      go (no l) =
          get_or-eq_default (put_rows m g n xs own) (pos 0) (omega (arith, put_length)) ∙ sym (get_or-eq_default xs (pos 0) (omega arith))

-- a group that has its systems among s, each another, may be put back in a panel of s systems
module _
    (c : Call) (s : ℕ) (below : (k : ℕ) → k < size c → system c k < s)
    (distinct : (j k : ℕ) → j < size c → k < size c → system c j ≡ system c k → j ≡ k)
  where
    rows_back : (xs own : List ℤ) → length xs ≡ s * c.lattice.n → (ys : List ℤ) × PutBack c xs own ys
    rows_back xs own long = (
      put_rows (size c) (system c) c.lattice.n xs own,
      record {
        long = put_length (size c) (system c) c.lattice.n xs own;
        group = λ i k hi hk.
            put_group (size c) (system c) c.lattice.n xs own distinct k i hk hi
            (rw long (cell_lt s c.lattice.n (system c k) i (below k hk) hi));
        others = λ i t hi out. put_others (size c) (system c) c.lattice.n xs own t i hi out;
      },
    )

    -- totals that are not kept may be of any number, and stay
    totals_back :
        (keeping : Bool) (ts own : List ℤ)
        → When keeping (length ts ≡ s)
        → (keeping ≡ false → own ≡ group_totals c ts)
        → (us : List ℤ) × PutTotals c ts own us
    totals_back true ts own long still = (
      put_rows (size c) (system c) 1 ts own,
      record {
        long = put_length (size c) (system c) 1 ts own;
        group = λ k hk.
            sym (as_row (put_rows (size c) (system c) 1 ts own) (system c k))
            ∙ (put_group (size c) (system c) 1 ts own distinct k 0 hk (omega arith) (omega (arith, below k hk, long refl)) ∙ as_row own k);
        others = λ t out.
            sym (as_row (put_rows (size c) (system c) 1 ts own) t)
            ∙ (put_others (size c) (system c) 1 ts own t 0 (omega arith) out ∙ as_row ts t);
      },
    )
    totals_back false ts own long still = (
      ts,
      record {
        long = refl;
        group = λ k hk. sym (ap (λ (z : List ℤ). total z k) (still refl) ∙ total_at c ts k hk);
        others = λ t out. refl;
      },
    )

-- ---- an accepted sweep, and its tasks' steps
module _
    (keeping : Bool) (w : Sweep) (b : Buffers) (ts : List ℤ) (idle moved held : ℕ) (d : Buffers) (vs : List ℤ)
    (f : SweepKeeps keeping w b ts idle moved held d vs) (before after : ℕ → Holding)
    (starts : (k : ℕ) → k < tasks w → masked w k ≡ false → Holds w b ts k (before k))
    (steps : (k : ℕ) → k < tasks w → masked w k ≡ false → Alone (DoesFor keeping w k) (before k) (after k))
  where
    v : Kept (swept_rules keeping w b ts)
    v = f.valid

    module _ (k : ℕ) (h : k < tasks w) (e : masked w k ≡ false) where
      rows : (ys : List ℤ) × PutBack (task_call w k) b.spins (after k).buffers.spins ys
      rows =
          rows_back (task_call w k) w.lattice.s (within keeping w b ts v k h e) (distinct keeping w b ts v k h e) b.spins
          (after k).buffers.spins (valid keeping w b ts v).exact.spins

      totals : (us : List ℤ) × PutTotals (task_call w k) ts (after k).totals us
      totals =
          totals_back (task_call w k) w.lattice.s (within keeping w b ts v k h e) (distinct keeping w b ts v k h e) keeping ts (after k).totals
          (λ q. ((asked keeping w b ts v).lengths q).totals)
          (own_totals keeping w b ts v k h e (before k) (after k) (starts k h e) (steps k h e))

      move :
          KeepAccepts keeping (task_call w k) (task_choices w k) (areas w b b.spins k) ts (after k).answered
          (with_spins (after k).buffers rows.0) totals.0
      move =
          in_panel keeping w b ts v k h e (before k) (after k) (starts k h e) (steps k h e) rows.0 totals.0 rows.1
          totals.1

      task : Done w b d k (f.answers.answered k)
      task = f.answers.each k h e

      same : areas w d task.spins k ≡ with_spins (after k).buffers rows.0
      same =
          (determined (task_call w k) (task_choices w k) (areas w b b.spins k) (areas w d task.spins k) (with_spins (after k).buffers rows.0)
          (f.answers.answered k) (after k).answered task.answers move.answers).buffers

      row : (i x : ℕ) → i < w.lattice.n → x < w.members → pattern (task_call w k) d.spins i x ≡ pattern (task_call w k) rows.0 i x
      row i x hi hx = task.rows i x hi hx ∙ ap (λ (z : Buffers). pattern (task_call w k) z.spins i x) same

      handed : Handed w k (after k) d vs
      handed = record {
        outputs = ap (λ (z : Buffers). with_spins z (after k).buffers.spins) same;
        rows = λ i x hi hx. row i x hi hx ∙ rows.1.group i x hi hx;
        totals = λ x hx.
            totals_alike keeping w.lattice b.spins ts rows.0 totals.0 b.spins ts d.spins vs (system (task_call w k) x)
            (leads keeping w b ts v) (within keeping w b ts v k h e x hx) (λ i hi. refl) (λ i hi. row i x hi hx) refl move.totals f.totals
            ∙ totals.1.group x hx;
      }

    pub sweep_merged : Merged w b ts after d vs
    sweep_merged = record {
      outputs = record { lengths = f.answers.lengths; each = handed; skipped = f.answers.skipped; kept = f.answers.kept };
      totals_long = totals_length keeping w.lattice b.spins ts d.spins vs f.totals;
      other_rows = f.answers.others;
      other_totals = λ t out.
          totals_stay keeping w.lattice b.spins ts d.spins vs t (leads keeping w b ts v) (λ q. ((asked keeping w b ts v).lengths q).totals)
          (λ i hi. f.answers.others i t hi out) f.totals;
    }
