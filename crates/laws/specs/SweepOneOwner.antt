-- With one owner everywhere, every row of spins and every total within its limit, a sweep is what it was before there were teams.
use Rattle.std.specs.Prelude.{ℕ, zero, suc, ◌*◌, ◌≤◌, ◌<◌, ◌≡◌, refl, ◌↔◌, Bool, true, cond, List, [], ◌++◌, map, length, get_or, ℤ}
use Rattle.std.proofs.Common.{sym, ◌∙◌, ap, subst, arith}
use Rattle.lemmas.specs.Counts.{count_where}
use Rattle.paper.specs.Answer.Cases.{SweepAnswer, SweepAnswer.Fault, SweepAnswer.Swept}
use Rattle.paper.specs.Panel.Input.{Buffers}
use Rattle.paper.specs.Refusal.Rule.{Rule}
use Rattle.paper.specs.Refusal.Rules.{When, AllSystems, Spins, order_names, Listed, Permutes, choice_rules}
use Rattle.paper.specs.Answer.Task.{Sweep, tasks, masked, task_call, task_choices}
use Rattle.paper.specs.Answer.Sweep.{SweepRanged, SweepExact, task_rules, SweepAnswers}
use Rattle.paper.specs.Answer.Totals.{swept_rules, SweepKeepAnswers}
use Rattle.paper.specs.Answer.Team.{Team, own, read, read_sweep, TeamSweepAnswers}
use Rattle.laws.specs.Matched.{SameVerdict, unchanged, reworded, reworded_if, behind, joined_same}
use Rattle.laws.specs.Owners.{order_length, order_kept, order_same}
use Rattle.laws.specs.BeforeTeams.{AllSmall, with_order, of_all, SweepRangedBefore, sweep_rules_before, SweepAnswersBefore}
use Rattle.laws.specs.OneOwner.{OneOwner, as_told, both_ways, spins_all, small_all}

count_all : (f : ℕ → Bool) (m : ℕ) → ((i : ℕ) → i < m → f i ≡ true) → count_where f m ≡ m
unfolding count_where
count_all f zero h = refl
count_all f (suc m) h = rw (h m (omega arith)) (omega (arith, count_all f m (λ i l. h i (omega arith))))

-- an order of the same length for the order
exact_order :
    (w : Sweep) (b : Buffers) (xs ys : List ℕ)
    → length ys ≡ length xs
    → SweepExact (with_order w xs) b
    → SweepExact (with_order w ys) b
exact_order w b xs ys long e = record {
  spins = e.spins;
  fwd = e.fwd;
  bwd = e.bwd;
  pins = e.pins;
  order = long ∙ e.order;
  masks = e.masks;
  couplings = e.couplings;
  temperatures = e.temperatures;
  cuts = e.cuts;
  choices = e.choices;
  greys = e.greys;
  references = e.references;
  seeds = e.seeds;
  labels = e.labels;
  grey_labels = e.grey_labels;
  counts = e.counts;
  sizes = e.sizes;
  members = e.members;
  found = e.found;
  grey_found = e.grey_found;
}

module _ (o : Team) (w : Sweep) (one : OneOwner o w.lattice.s) where
  -- the order as it is read, which by number is of all systems
  abbrev taken : List ℕ
  taken = map (read o w.lattice.s) w.order

  read_is : read_sweep o w ≡ with_order w taken
  read_is = rw (count_all (own o) w.lattice.s one.all) refl

  -- if it lists systems it is the order itself
  listed_is : Listed w.lattice.s (order_names taken) → with_order w taken ≡ of_all w
  listed_is l = ap (with_order w) (order_same o w.lattice.s w.order l)

  ranged_same : SweepRanged (with_order w taken) ↔ SweepRangedBefore w
  ranged_same = (
    (λ r. record { ranged = r.ranged; all = r.all; enough = r.enough }),
    (λ r. record { ranged = r.ranged; few = omega arith; some = some r w.t refl; all = r.all; enough = r.enough }),
  )
    where
      -- there are systems, so there is a temperature
      some : SweepRangedBefore w → (t : ℕ) → w.t ≡ t → 1 ≤ t
      some r zero e = absurd (omega (arith, r.all, ap (λ (q : ℕ). q * w.r) e, r.ranged.lattice.s_low))
      some r (suc t) e = omega arith

  exact_same : (b : Buffers) → SweepExact (with_order w taken) b ↔ SweepExact (of_all w) b
  exact_same b =
      let e = order_length o w.lattice.s w.order in
      (exact_order w b taken w.order (sym e), exact_order w b w.order taken e)

  -- to list as many as there are, each once, is to list all
  listed_same : length w.order ≡ w.lattice.s → Listed w.lattice.s (order_names taken) ↔ Permutes w.lattice.s (λ k. get_or w.order k 0)
  listed_same many = (there, back)
    where
      there : Listed w.lattice.s (order_names taken) → Permutes w.lattice.s (λ k. get_or w.order k 0)
      there l =
          let q : Listed w.lattice.s (order_names w.order) = rw (order_same o w.lattice.s w.order l) at l in
          record { within = λ k h. q.below k (rw many h); distinct = λ j k hj hk. q.distinct j k (rw many hj) (rw many hk) }

      back : Permutes w.lattice.s (λ k. get_or w.order k 0) → Listed w.lattice.s (order_names taken)
      back p =
          subst (λ (z : List ℕ). Listed w.lattice.s (order_names z))
          (sym (order_kept o w.lattice.s w.order (λ k h. one.all (get_or w.order k 0) (p.within k (rw many at h)))))
          (record { below = λ k h. p.within k (rw many at h); distinct = λ j k hj hk. p.distinct j k (rw many at hj) (rw many at hk) })

  module _
      (keeping : Bool) (b : Buffers) (ts : List ℤ) (spins : Spins w.lattice.n (AllSystems w.lattice.s) b.spins)
      (small : When keeping (AllSmall ts))
    where
      -- the tasks' rules do not look at how many systems there are in all
      rules_of_all : (K : ℕ) → task_rules (of_all w) b K ≡ task_rules w b K
      rules_of_all zero = refl
      rules_of_all (suc K) =
          ap (λ (q : List Rule). q ++ cond (masked w K) [] (choice_rules (task_call w K) (task_choices w K) b.spins)) (rules_of_all K)

      tasks_same :
          Listed w.lattice.s (order_names taken)
          → SameVerdict (task_rules (with_order w taken) b (tasks (with_order w taken))) (task_rules w b (tasks w))
      tasks_same l =
          subst (λ (rs : List Rule). SameVerdict (task_rules (with_order w taken) b (tasks (with_order w taken))) rs)
          (ap (λ (z : Sweep). task_rules z b (tasks z)) (listed_is l) ∙ rules_of_all (tasks w))
          (unchanged (task_rules (with_order w taken) b (tasks (with_order w taken))))

      sweep_rules_as_before : SameVerdict (swept_rules keeping (with_order w taken) b ts) (sweep_rules_before keeping w b ts)
      sweep_rules_as_before =
          reworded_if 1 _ _ ranged_same (λ ranged.
          behind _ _ _
          (reworded_if 2 _ _ (exact_same b) (λ exact.
          behind _ _ _
          (reworded 3 _ _ (spins_all w.lattice.n w.lattice.s _ b.spins spins)
          (behind _ _ _
          (behind _ _ _
          (reworded_if 5 _ _ (listed_same (sym (order_length o w.lattice.s w.order) ∙ exact.order)) (λ listed.
          behind _ _ _
          (behind _ _ _
          (behind _ _ _
          (behind _ _ _
          (joined_same (task_rules (with_order w taken) b (tasks (with_order w taken))) (task_rules w b (tasks w)) _ _ (tasks_same listed)
          (reworded 14 _ _ (small_all keeping w.lattice.s (order_names taken) ts small) (unchanged []))))))))))))))

      sweep_told :
          (a : SweepAnswer) (b' : Buffers) (ts' : List ℤ)
          → SweepKeepAnswers keeping (with_order w taken) b ts a b' ts' ↔ SweepAnswersBefore keeping w b ts a b' ts'
      sweep_told (Fault r) b' ts' = (
        (λ f. record { why = (sweep_rules_as_before.broken r).0 f.why; kept = f.kept; totals_kept = f.totals_kept }),
        (λ f. record { why = (sweep_rules_as_before.broken r).1 f.why; kept = f.kept; totals_kept = f.totals_kept }),
      )
      sweep_told (Swept i m h) b' ts' = (there, back)
        where
          there : SweepKeepAnswers keeping (with_order w taken) b ts (Swept i m h) b' ts' → SweepAnswersBefore keeping w b ts (Swept i m h) b' ts'
          there f = record {
            valid = sweep_rules_as_before.kept.0 f.valid;
            answers = subst (λ (z : Sweep). SweepAnswers z b (Swept i m h) b') (listed_is f.valid.1.1.1.1.1.1.1.0) f.answers;
            totals = f.totals;
          }

          back : SweepAnswersBefore keeping w b ts (Swept i m h) b' ts' → SweepKeepAnswers keeping (with_order w taken) b ts (Swept i m h) b' ts'
          back f =
              let k = sweep_rules_as_before.kept.1 f.valid in
              record {
                valid = k;
                answers = subst (λ (z : Sweep). SweepAnswers z b (Swept i m h) b') (sym (listed_is k.1.1.1.1.1.1.1.0)) f.answers;
                totals = f.totals;
              }

      pub one_owner_sweep :
          (a : SweepAnswer) (b' : Buffers) (ts' : List ℤ)
          → TeamSweepAnswers o keeping w b ts a b' ts' ↔ SweepAnswersBefore keeping w b ts a b' ts'
      one_owner_sweep a b' ts' =
          both_ways (as_told one)
          (subst (λ (z : Sweep). SweepKeepAnswers keeping z b ts a b' ts' ↔ SweepAnswersBefore keeping w b ts a b' ts') (sym read_is) (sweep_told a b' ts'))
