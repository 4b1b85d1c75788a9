-- A sweep whose order lists some systems only is answered by their rows and totals alone, and leaves the rows and totals of all others.
use Rattle.std.specs.Prelude.{ℕ, zero, suc, ◌+◌, ◌*◌, ◌%◌, ◌≤◌, ◌<◌, ◌≡◌, refl, ◌↔◌, Bool, true, false, cond, List, [], length, ℤ}
use Rattle.std.proofs.Common.{sym, ◌∙◌, ap, subst, arith}
use Rattle.lemmas.specs.Bools.{never}
use Rattle.paper.specs.Answer.Cases.{SweepAnswer, SweepAnswer.Fault, SweepAnswer.Swept}
use Rattle.paper.specs.Panel.Input.{Buffers, pattern, spin, system}
use Rattle.paper.specs.Refusal.Rule.{Rule, broken_unique, broken_not_kept}
use Rattle.paper.specs.Refusal.Rules.{order_names, Named, Inverse, Listed, choice_rules}
use Rattle.paper.specs.Answer.Move.{Accepted}
use Rattle.paper.specs.Answer.Task.{Sweep, groups, tasks, temperature_of, masked, task_call, task_choices, areas}
use Rattle.paper.specs.Answer.Sweep.{SweepRanged, SweepExact, task_rules, Done, Unmoved, Sweeps, SweepAnswers}
use Rattle.paper.specs.Answer.Totals.{total, swept_rules, TotalsAfter, SweepKeepAnswers}
use Rattle.laws.specs.Local.{Agree}
use Rattle.laws.specs.AnswersLocal.{with_spins}
use Rattle.laws.specs.Matched.{SameVerdict, unchanged, reworded, behind, behind_if, reworded_if, joined_same}
use Rattle.laws.specs.SweepTasks.{entry_within, system_at, task_valid}
use Rattle.laws.specs.SweepKept.{SweepValid, sweep_valid_of}
use Rattle.laws.specs.SweepDetermined.{SameSweep, sweep_determined}
use Rattle.laws.specs.KeepsPlain.{sweep_rules_as_before}
use Rattle.laws.specs.SameView.{SameRows, SameTotals, SameView, outputs_with, with_outputs, join_rows, join_length, join_mine, join_other}
use Rattle.laws.specs.SameView.{totals_alike, totals_stay, totals_length}
use Rattle.laws.specs.NamedOnly.{Passing, NamesOnly, SeenAlike, Leaves, accepted_if, moved_there}
use Rattle.laws.specs.NamedOnly.{seeded_same, spins_same, small_same, lengths_same, spins_length}

-- the systems that the sweep's order lists pass the test
abbrev pub ListsOnly : (ℕ → Bool) → Sweep → Type 0
ListsOnly mine w = (t : ℕ) → Named w.lattice.s (order_names w.order) t → mine t ≡ true

exact_with : (w : Sweep) (b : Buffers) (xs : List ℤ) → length xs ≡ length b.spins → SweepExact w b → SweepExact w (with_spins b xs)
exact_with w b xs long e = record {
  spins = long ∙ e.spins;
  fwd = e.fwd;
  bwd = e.bwd;
  pins = e.pins;
  order = e.order;
  masks = e.masks;
  couplings = e.couplings;
  temperatures = e.temperatures;
  cuts = e.cuts;
  choices = e.choices;
  greys = e.greys;
  references = e.references;
  seeds = e.seeds;
  labels = e.labels;
  grey_labels = e.grey_labels;
  counts = e.counts;
  sizes = e.sizes;
  members = e.members;
  found = e.found;
  grey_found = e.grey_found;
}

module _
    (mine : ℕ → Bool) (w : Sweep) (only : ListsOnly mine w) (b : Buffers) (xs : List ℤ) (long : length xs ≡ length b.spins)
    (rows : SameRows w.lattice.n (Passing mine) b.spins xs)
  where
    exact_same : SweepExact w b ↔ SweepExact w (with_spins b xs)
    exact_same = (exact_with w b xs long, exact_with w (with_spins b xs) b.spins (sym long))

    -- ---- the rules
    module _ (ranged : SweepRanged w) (many : length w.order ≡ w.systems) (listed : Listed w.lattice.s (order_names w.order)) where
      entry_passes : (k : ℕ) → k < tasks w → (x : ℕ) → x < w.members → mine (system (task_call w k) x) ≡ true
      entry_passes k h x l = only (system (task_call w k) x) (record {
        place = temperature_of w k * w.r + (k % groups w) * w.members + x;
        below = below;
        is = sym (system_at w ranged k h x l);
        inside = rw (system_at w ranged k h x l) (listed.below _ below);
      })
        where
          below : temperature_of w k * w.r + (k % groups w) * w.members + x < length w.order
          below = rw many (entry_within w ranged k h x l)

      patterns_same :
          (k : ℕ)
          → k < tasks w
          → (i : ℕ)
          → i < w.lattice.n
          → Agree w.members (pattern (task_call w k) xs i) (pattern (task_call w k) b.spins i)
      patterns_same k h i hi x l = rows (system (task_call w k) x) i (entry_passes k h x l) hi

      module _ (inverse : Inverse w.lattice.n w.lattice.d w.lattice.fwd w.lattice.bwd) where
        task_same : (k : ℕ) → k < tasks w
            → SameVerdict (choice_rules (task_call w k) (task_choices w k) b.spins) (choice_rules (task_call w k) (task_choices w k) xs)
        task_same k h =
            behind _ _ _
            (behind_if _ _ _ (λ chosen.
            reworded 10 _ _ (seeded_same (task_call w k) (task_choices w k) b.spins xs (patterns_same k h) ranged.ranged inverse chosen) (unchanged [])))

        unless : (t : Bool) (qs rs : List Rule) → SameVerdict qs rs → SameVerdict (cond t [] qs) (cond t [] rs)
        unless true qs rs s = unchanged []
        unless false qs rs s = s

        tasks_same : (K : ℕ) → K ≤ tasks w → SameVerdict (task_rules w b K) (task_rules w (with_spins b xs) K)
        tasks_same zero h = unchanged []
        tasks_same (suc K) h =
            joined_same (task_rules w b K) (task_rules w (with_spins b xs) K) _ _ (tasks_same K (omega arith))
            (unless (masked w K) _ _ (task_same K (omega arith)))

    -- the two lists of rules have one verdict
    pub sweep_rules_isolated :
        (keeping : Bool) (ts us : List ℤ)
        → length us ≡ length ts
        → SameTotals (Passing mine) ts us
        → SameVerdict (swept_rules keeping w b ts) (swept_rules keeping w (with_spins b xs) us)
    sweep_rules_isolated keeping ts us many totals =
        behind_if _ _ _ (λ ranged.
        behind _ _ _
        (reworded_if 2 _ _ exact_same (λ exact.
        reworded 2 _ _ (lengths_same keeping w.lattice ts us many)
        (reworded 3 _ _ (spins_same w.lattice.n _ (Passing mine) b.spins xs only rows)
        (behind_if _ _ _ (λ inverse.
        behind _ _ _
        (behind_if _ _ _ (λ listed.
        behind _ _ _
        (behind _ _ _
        (behind _ _ _
        (behind _ _ _
        (joined_same (task_rules w b (tasks w)) (task_rules w (with_spins b xs) (tasks w)) _ _
        (tasks_same ranged exact.order listed inverse (tasks w) (omega arith))
        (reworded 14 _ _ (small_same keeping _ (Passing mine) ts us only totals) (unchanged []))))))))))))))

    -- ---- an accepted sweep: what it leaves on the one panel tells what it leaves on the other
    module _ (idle moved held : ℕ) (y : Buffers) (s : Sweeps w b idle moved held y) where
      valid : SweepValid w b
      valid = sweep_valid_of w b s.valid

      passes : (k : ℕ) → k < tasks w → (x : ℕ) → x < w.members → mine (system (task_call w k) x) ≡ true
      passes = entry_passes valid.ranged valid.exact.order valid.order

      abbrev after : List ℤ
      after = join_rows w.lattice.n mine xs y.spins

      as_long : length y.spins ≡ length xs
      as_long = s.lengths.spins ∙ sym long

      after_mine : (t i : ℕ) → mine t ≡ true → i < w.lattice.n → spin w.lattice.n after t i ≡ spin w.lattice.n y.spins t i
      after_mine = join_mine w.lattice.n mine xs y.spins as_long

      -- each task is a move that names those systems only
      done_there : (k : ℕ) → k < tasks w → masked w k ≡ false → Done w (with_spins b xs) (with_spins y after) k (s.answered k)
      done_there k h e = record {
        spins = join_rows w.lattice.n mine xs d.spins;
        answers =
            moved_there mine (task_call w k) task_only (task_choices w k) (areas w b b.spins k) xs long rows (s.answered k) (areas w y d.spins k)
            accepted d.answers;
        rows = λ i x hi hx.
            after_mine (system (task_call w k) x) i (passes k h x hx) hi
            ∙ (d.rows i x hi hx ∙ sym (join_mine w.lattice.n mine xs d.spins task_long (system (task_call w k) x) i (passes k h x hx) hi));
      }
        where
          d : Done w b y k (s.answered k)
          d = s.each k h e

          task_only : NamesOnly mine (task_call w k)
          task_only few t n = subst (Passing mine) n.is (passes k h n.place n.below)

          accepted : Accepted (s.answered k)
          accepted =
              accepted_if (task_call w k) (task_choices w k) (areas w b b.spins k) (s.answered k) (areas w y d.spins k)
              (task_valid w b s.valid k h e) d.answers

          task_long : length d.spins ≡ length xs
          task_long =
              spins_length (task_call w k) (task_choices w k) (areas w b b.spins k) (s.answered k) (areas w y d.spins k) accepted d.answers
              ∙ sym long

      others_there : (i t : ℕ) → i < w.lattice.n → Unmoved w t → spin w.lattice.n after t i ≡ spin w.lattice.n xs t i
      others_there i t hi out = go (mine t) refl
        where
          go : (q : Bool) → mine t ≡ q → spin w.lattice.n after t i ≡ spin w.lattice.n xs t i
          go true e = after_mine t i e hi ∙ (s.others i t hi out ∙ sym (rows t i e hi))
          go false e = join_other w.lattice.n mine xs y.spins as_long t i e hi

      pub swept_there : Sweeps w (with_spins b xs) idle moved held (with_spins y after)
      swept_there = record {
        valid =
            (sweep_rules_as_before w (with_spins b xs) []).kept.0
            ((sweep_rules_isolated false [] [] refl (λ _ _. refl)).kept.0 ((sweep_rules_as_before w b []).kept.1 s.valid));
        answered = s.answered;
        counts = s.counts;
        lengths = record {
          spins = join_length w.lattice.n mine xs y.spins;
          labels = s.lengths.labels;
          counts = s.lengths.counts;
          sizes = s.lengths.sizes;
          grey_labels = s.lengths.grey_labels;
          members = s.lengths.members;
          found = s.lengths.found;
          grey_found = s.lengths.grey_found;
        };
        each = done_there;
        skipped = λ k h e. ap (λ (q : Buffers). with_spins q xs) (s.skipped k h e);
        others = others_there;
        kept = record {
          labels = s.kept.labels;
          grey_labels = s.kept.grey_labels;
          counts = s.kept.counts;
          sizes = s.kept.sizes;
          members = s.kept.members;
          found = s.kept.found;
          grey_found = s.kept.grey_found;
        };
      }

      module _ (a' : SweepAnswer) (z : Buffers) (v : SweepAnswers w (with_spins b xs) a' z) where
        there : SameSweep (Swept idle moved held) (with_spins y after) a' z
        there = sweep_determined w (with_spins b xs) (with_spins y after) z (Swept idle moved held) a' swept_there v

        rows_after : SameRows w.lattice.n (Passing mine) y.spins z.spins
        rows_after t i e hi = ap (λ (q : Buffers). spin w.lattice.n q.spins t i) (sym there.buffers) ∙ after_mine t i e hi

        swept_alike :
            (keeping : Bool) (ts us ts' us' : List ℤ)
            → ((t : ℕ) → mine t ≡ true → t < w.lattice.s)
            → length us ≡ length ts
            → SameTotals (Passing mine) ts us
            → TotalsAfter keeping w.lattice b.spins ts y.spins ts'
            → TotalsAfter keeping w.lattice xs us z.spins us'
            → SeenAlike w.lattice.n (Passing mine) (Swept idle moved held) y ts' a' z us'
        swept_alike keeping ts us ts' us' below many totals f g = record {
          answer = there.answer;
          view = record {
            outputs = with_outputs (sym there.buffers);
            long =
                ap (λ (q : Buffers). length q.spins) (sym there.buffers)
                ∙ (join_length w.lattice.n mine xs y.spins ∙ sym as_long);
            rows = rows_after;
            totals_long =
                totals_length keeping w.lattice xs us z.spins us' g
                ∙ (many ∙ sym (totals_length keeping w.lattice b.spins ts y.spins ts' f));
            totals = λ t e.
                totals_alike keeping w.lattice b.spins ts y.spins ts' xs us z.spins us' t
                (λ i e hi he. (valid.inverse.there i e hi he).inside) (below t e) (λ i hi. rows t i e hi) (λ i hi. rows_after t i e hi)
                (totals t e) f g;
          };
        }

module _ (mine : ℕ → Bool) (w : Sweep) (only : ListsOnly mine w) (below : (t : ℕ) → mine t ≡ true → t < w.lattice.s) (keeping : Bool) where
  -- one sweep on two panels that look the same to those systems
  pub order_isolated :
      (b d : Buffers) (ts us : List ℤ) (a a' : SweepAnswer) (y z : Buffers) (ts' us' : List ℤ)
      → SameView w.lattice.n (Passing mine) b ts d us
      → SweepKeepAnswers keeping w b ts a y ts'
      → SweepKeepAnswers keeping w d us a' z us'
      → SeenAlike w.lattice.n (Passing mine) a y ts' a' z us'
  order_isolated b d ts us a a' y z ts' us' view = go a a'
    where
      verdicts : SameVerdict (swept_rules keeping w b ts) (swept_rules keeping w d us)
      verdicts =
          subst (λ (q : Buffers). SameVerdict (swept_rules keeping w b ts) (swept_rules keeping w q us)) (sym (outputs_with view.outputs))
          (sweep_rules_isolated mine w only b d.spins view.long view.rows keeping ts us view.totals_long view.totals)

      go :
          (a a' : SweepAnswer)
          → SweepKeepAnswers keeping w b ts a y ts'
          → SweepKeepAnswers keeping w d us a' z us'
          → SeenAlike w.lattice.n (Passing mine) a y ts' a' z us'
      go (Fault r) (Fault q) f g = record {
        answer = ap Fault (broken_unique (swept_rules keeping w d us) r q ((verdicts.broken r).0 f.why) g.why);
        view = rw (f.kept, f.totals_kept, g.kept, g.totals_kept) view;
      }
      go (Fault r) (Swept i m h) f g = absurd (broken_not_kept (swept_rules keeping w d us) r ((verdicts.broken r).0 f.why) g.valid)
      go (Swept i m h) (Fault q) f g = absurd (broken_not_kept (swept_rules keeping w d us) q g.why (verdicts.kept.0 f.valid))
      go (Swept i m h) (Swept j n l) f g =
          swept_alike mine w only b d.spins view.long view.rows i m h y f.answers (Swept j n l) z
          (subst (λ (q : Buffers). SweepAnswers w q (Swept j n l) z) (outputs_with view.outputs) g.answers) keeping ts us ts' us' below
          view.totals_long view.totals f.totals g.totals

  -- ---- the systems that do not pass keep their rows and totals, refused or not
  pub order_leaves :
      (b : Buffers) (ts : List ℤ) (a : SweepAnswer) (y : Buffers) (ts' : List ℤ)
      → SweepKeepAnswers keeping w b ts a y ts'
      → Leaves w.lattice.n mine b.spins ts y.spins ts'
  order_leaves b ts (Fault r) y ts' f = record {
    rows = λ t i q hi. ap (λ (u : Buffers). spin w.lattice.n u.spins t i) f.kept;
    totals = λ t q. ap (λ (u : List ℤ). total u t) f.totals_kept;
  }
  order_leaves b ts (Swept i m h) y ts' f = record { rows = still; totals = stay }
    where
      v : SweepValid w b
      v = sweep_valid_of w b f.answers.valid

      unmoved : (t : ℕ) → mine t ≡ false → Unmoved w t
      unmoved t q k x hk e hx same =
          never (sym q ∙ rw same (entry_passes mine w only b b.spins refl (λ _ _ _ _. refl) v.ranged v.exact.order v.order k hk x hx))

      still : (t i : ℕ) → mine t ≡ false → i < w.lattice.n → spin w.lattice.n y.spins t i ≡ spin w.lattice.n b.spins t i
      still t i q hi = f.answers.others i t hi (unmoved t q)

      stay : (t : ℕ) → mine t ≡ false → total ts' t ≡ total ts t
      stay t q =
          totals_stay keeping w.lattice b.spins ts y.spins ts' t (λ i e hi he. (v.inverse.there i e hi he).inside)
          (λ k. (f.valid.1.1.1.0 k).totals) (λ i hi. still t i q hi) f.totals
