-- Tests 8, 9 and 10 of unmasked tasks in ascending order.
use Rattle.std.specs.Prelude.{ℕ, zero, suc, ◌+◌, ◌*◌, ◌/◌, ◌%◌, ◌<◌, ◌≡◌, refl, ◌⊎◌, true, false, cond, List, [], ltb, length, ℤ, Float}
use Rattle.std.proofs.Common.{sym, ◌∙◌, inl, inr, arith, add-one, eq-or-lt_of_le, le_of_suc-le-suc, lt-ltb}
use Rattle.lemmas.specs.Cells.{table_at}
use Rattle.paper.specs.Panel.Input.{Buffers, member}
use Rattle.paper.specs.Panel.Takes.{draws_bonds, choices_by, greys_by, entries, choice_bytes}
use Rattle.paper.specs.Refusal.Rule.{Rule, Kept, Broken}
use Rattle.paper.specs.Refusal.Rules.{When, Ranged, group_names, order_names, Named, Spins, Listed, Grouped, choice_rules}
use Rattle.paper.specs.Refusal.Verdict.{Verdict, kept_both, broken_first, broken_later}
use Rattle.paper.specs.Answer.Task.{Sweep, order_at, masked, part, task_call, task_choices}
use Rattle.paper.specs.Answer.Sweep.{task_rules}
use Rattle.paper.specs.declared.Plan.{Plan}
use Rattle.paper.specs.declared.Task.{Task}
use Rattle.paper.specs.Panel.Made.{choices_of, buffers_of}
use Rattle.paper.specs.Answer.Made.{sweep_of}
use Rattle.laws.specs.SweepTasks.{part_length}
use Rattle.tests.specs.Choices.{Tested, EveryCall, rows_inside, rows_spins}
use Rattle.tasks.specs.Plan.{Planned, tasks_of, group_at, masked_at, task_at, ordered, entry_lt}

-- what the first tests have shown
pub record SweepTested (q : Plan) (spins : List ℤ) (order : List ℕ) (cuts : List Float) (choices greys : List ℕ) : Type 0 where
  pub planned : Planned q
  pub spins_long : length spins ≡ q.s * q.n
  pub order_long : length order ≡ q.systems
  pub cuts_long : When (draws_bonds q.mode) (length cuts ≡ tasks_of q * (q.n * q.d))
  pub choices_long : When (choices_by q.mode q.form) (length choices ≡ tasks_of q * choice_bytes q.mode q.form q.n q.members)
  pub greys_long : When (greys_by q.mode q.form) (length greys ≡ tasks_of q * entries q.form q.n)
  pub spinning : Spins q.n (Named q.s (order_names order)) spins
  pub listed : Listed q.s (order_names order)

pub record TaskTested (q : Plan) (k : ℕ) (spins : List ℤ) (order : List ℕ) (cuts : List Float) (choices greys : List ℕ) : Type 0 where
  pub tested : SweepTested q spins order cuts choices greys
  pub below : k < tasks_of q

-- what the test of its choices leans on
module _ {q : Plan} {k : ℕ} {spins : List ℤ} {order : List ℕ} {cuts : List Float} {choices greys : List ℕ}
    (h : TaskTested q k spins order cuts choices greys) where
  ranged : Ranged q.n q.d q.s q.mode q.members
  ranged = h.tested.planned.ranged

  member_is : (x : ℕ) → x < q.members → member (group_at q order k) x ≡ order_at (ordered q order []) k x
  member_is x l =
      table_at 8 (λ x. cond (ltb x q.members) (order_at (ordered q order []) k x) 0) x (omega (arith, ranged.size_high))
      ∙ rw (lt-ltb x q.members l) refl

  -- its place in the order
  abbrev at : ℕ → ℕ
  at x = k / (q.r / q.members) * q.r + (k % (q.r / q.members)) * q.members + x

  at_lt : (x : ℕ) → x < q.members → at x < length order
  at_lt x l = rw h.tested.order_long (entry_lt q h.tested.planned k h.below x l)

  grouped : Grouped q.s (group_at q order k)
  grouped = record {
    below = λ x l. rw (member_is x l) (h.tested.listed.below (at x) (at_lt x l));
    distinct = λ x y lx ly e.
        let z = h.tested.listed.distinct (at x) (at y) (at_lt x lx) (at_lt y ly) (sym (member_is x lx) ∙ (e ∙ member_is y ly)) in omega (arith, z);
  }

  -- the group's systems are named by the order
  group_spins : Spins q.n (Named q.s (group_names (group_at q order k))) spins
  group_spins t i w =
      h.tested.spinning t i
      (record { place = at w.place; below = at_lt w.place w.below; is = sym (member_is w.place w.below) ∙ w.is; inside = w.inside })

  pub task_tested :
      (temperatures : List Float) (references seeds : List ℕ)
      → Tested (task_at q order temperatures references seeds k) spins
      (part k (choice_bytes q.mode q.form q.n q.members) choices) (part k (entries q.form q.n) greys)
  task_tested temperatures references seeds = record {
    n_low = ranged.lattice.n_low;
    n_high = ranged.lattice.n_high;
    size_low = ranged.size_low;
    size_high = ranged.size_high;
    inside = rows_inside q.n q.s (group_at q order k) spins h.tested.spins_long grouped;
    spins = rows_spins q.n q.s (group_at q order k) spins h.tested.spins_long grouped group_spins;
    choices_long = λ t.
        part_length (tasks_of q) (choice_bytes q.mode q.form q.n q.members) k choices h.below (h.tested.choices_long t);
    greys_long = λ t. part_length (tasks_of q) (entries q.form q.n) k greys h.below (h.tested.greys_long t);
  }

-- the rules of one task, where it is not masked
abbrev pub one_task : Sweep → List ℤ → ℕ → List Rule
one_task w xs k = cond (masked w k) [] (choice_rules (task_call w k) (task_choices w k) xs)

-- r is the verdict on the task k, whatever the panel's tables, pins and couplings are
pub record TaskTold
    (q : Plan) (k : ℕ) (spins : List ℤ) (order masks : List ℕ) (temperatures cuts : List Float) (references seeds choices greys : List ℕ) (r : ℕ) : Type 0
  where
    pub is :
        (fwd bwd pins : List ℕ) (couplings : List ℤ)
        → Verdict (one_task (sweep_of q fwd bwd pins couplings order masks temperatures cuts references seeds choices greys) spins k) r

-- and on the tasks below K, whatever the outputs hold
pub record TasksTold
    (q : Plan) (K : ℕ) (spins : List ℤ) (order masks : List ℕ) (temperatures cuts : List Float) (references seeds choices greys : List ℕ) (r : ℕ) : Type 0
  where
    pub is :
        (fwd bwd pins : List ℕ) (couplings : List ℤ) (labels grey_labels counts sizes members found grey_found : List ℕ)
        → Verdict
        (task_rules (sweep_of q fwd bwd pins couplings order masks temperatures cuts references seeds choices greys)
        (buffers_of spins labels grey_labels counts sizes members found grey_found) K)
        r

-- a masked task keeps its rules; an unmasked one has the verdict on its parts
module _ {q : Plan} {k : ℕ} {spins : List ℤ} {order masks : List ℕ} {ts cuts : List Float} {references seeds choices greys : List ℕ} where
  pub told_masked : masked_at q masks k ≡ true → TaskTold q k spins order masks ts cuts references seeds choices greys 0
  told_masked e = record { is = λ fwd bwd pins js. rw e tt }

  pub told_parts :
      {t : Task} {cs : List Float} {ps gs : List ℕ} {r : ℕ} → masked_at q masks k ≡ false
      → t ≡ task_at q order ts references seeds k → cs ≡ part k (q.n * q.d) cuts
      → ps ≡ part k (choice_bytes q.mode q.form q.n q.members) choices → gs ≡ part k (entries q.form q.n) greys
      → EveryCall t cs (λ c. Verdict (choice_rules c (choices_of ps gs) spins) r)
      → TaskTold q k spins order masks ts cuts references seeds choices greys r
  told_parts {t = t} e e₁ e₂ e₃ e₄ h = record { is = λ fwd bwd pins js. rw e (rw (e₁, e₂, e₃, e₄) at (h t.d t.s t.temperature fwd bwd pins js)) }

-- ---- one task more
more_kept : (w : Sweep) (b : Buffers) (K : ℕ) → Kept (task_rules w b K) → Kept (one_task w b.spins K) → Kept (task_rules w b (K + 1))
more_kept w b K h l = rw add-one (kept_both (task_rules w b K) (one_task w b.spins K) h l)

more_broken : (w : Sweep) (b : Buffers) (K M r : ℕ) → K < M → Kept (task_rules w b K) → Broken (one_task w b.spins K) r → Broken (task_rules w b M) r
more_broken w b K zero r l h f = absurd (omega arith)
more_broken w b K (suc M) r l h f = go (eq-or-lt_of_le (le_of_suc-le-suc l)) (λ e. more_broken w b K M r e h f)
  where
    go : (K ≡ M) ⊎ (K < M) → (K < M → Broken (task_rules w b M) r) → Broken (task_rules w b (suc M)) r
    go (inl e) ih = rw (← e) (broken_later (task_rules w b K) (one_task w b.spins K) r h f)
    go (inr e) ih = broken_first (task_rules w b M) (one_task w b.spins M) r (ih e)

module _ {q : Plan} {spins : List ℤ} {order masks : List ℕ} {ts cuts : List Float} {references seeds choices greys : List ℕ} where
  pub told_none : TasksTold q 0 spins order masks ts cuts references seeds choices greys 0
  told_none = record { is = λ fwd bwd pins js labels grey_labels counts sizes members found grey_found. tt }

  pub told_more :
      {K r : ℕ} → TasksTold q K spins order masks ts cuts references seeds choices greys 0 → r ≡ 0
      → TaskTold q K spins order masks ts cuts references seeds choices greys r
      → TasksTold q (K + 1) spins order masks ts cuts references seeds choices greys 0
  told_more {K} {r} h e t = record {
    is = λ fwd bwd pins js labels grey_labels counts sizes members found grey_found.
        more_kept (sweep_of q fwd bwd pins js order masks ts cuts references seeds choices greys)
        (buffers_of spins labels grey_labels counts sizes members found grey_found) K
        (h.is fwd bwd pins js labels grey_labels counts sizes members found grey_found) (rw e at (t.is fwd bwd pins js));
  }

  pub told_broken :
      {K M r : ℕ} → K < M → TasksTold q K spins order masks ts cuts references seeds choices greys 0 → (r ≡ 0 → ⊥)
      → TaskTold q K spins order masks ts cuts references seeds choices greys r
      → TasksTold q M spins order masks ts cuts references seeds choices greys r
  told_broken {K} {M} {r = zero} l h ne t = absurd (ne refl)
  told_broken {K} {M} {r = suc r} l h ne t = record {
    is = λ fwd bwd pins js labels grey_labels counts sizes members found grey_found.
        more_broken (sweep_of q fwd bwd pins js order masks ts cuts references seeds choices greys)
        (buffers_of spins labels grey_labels counts sizes members found grey_found) K M (suc r) l
        (h.is fwd bwd pins js labels grey_labels counts sizes members found grey_found) (t.is fwd bwd pins js);
  }
