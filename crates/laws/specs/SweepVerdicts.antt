-- Every sweep has a verdict, and it is computed.
use Rattle.std.specs.Prelude.{ℕ, zero, suc, ◌+◌, ◌*◌, ◌≡◌, refl, Bool, true, false, cond, List, [], ◌∷◌, ◌++◌, length, get_or, ltb}
use Rattle.std.proofs.Common.{subst}
use Rattle.std.specs.Float.{nan}
use Rattle.lemmas.specs.Bools.{and_left, and_right}
use Rattle.paper.specs.Panel.Input.{Buffers}
use Rattle.paper.specs.Panel.Takes.{grows_by, labels_by, takes_cuts, takes_choices, takes_greys, takes_grey_labels, takes_reference, takes_seed, entries, choice_bytes}
use Rattle.paper.specs.Refusal.Rule.{Rule, Kept, Broken}
use Rattle.paper.specs.Refusal.Rules.{order_names, choice_rules}
use Rattle.paper.specs.Refusal.Verdict.{Verdict}
use Rattle.paper.specs.Answer.Task.{Sweep, tasks, masked, task_call, task_choices}
use Rattle.paper.specs.Answer.Sweep.{common, SweepRanged, SweepExact, task_rules, sweep_rules}
use Rattle.laws.specs.Decided.{Decided, le, eq, iff, both, when, all, DecidedAll, refusal, numbered, verdict_by, joined}
use Rattle.laws.specs.Verdicts.{houd_of_two, ranged, spins, inverse, pins, listed, small_couplings, warm, choices}

abbrev pub sweep_ranged : (w : Sweep) → Decided (SweepRanged w)
sweep_ranged w =
    iff (λ (a, (f, (o, (b, c)))). record { ranged = a; few = f; some = o; all = b; enough = c }) (λ r. (r.ranged, (r.few, (r.some, (r.all, r.enough)))))
    (both (ranged w.lattice.n w.lattice.d w.lattice.s w.mode w.members)
    (both (le w.systems w.lattice.s)
    (both (le 1 w.t)
    (both (eq (w.t * w.r) w.systems)
    (le w.members w.r)))))

abbrev pub sweep_exact : (w : Sweep) (b : Buffers) → Decided (SweepExact w b)
sweep_exact w b =
    iff
    (λ (x1, (x2, (x3, (x, (x4, (x5, (x6, (x7, (x8, (x9, (x10, (x11, (x12, (x13, (x14, (x15, (x16, (x17, (x18, x19))))))))))))))))))). record {
      spins = x1;
      fwd = x2;
      bwd = x3;
      pins = x;
      order = x4;
      masks = x5;
      couplings = x6;
      temperatures = x7;
      cuts = x8;
      choices = x9;
      greys = x10;
      references = x11;
      seeds = x12;
      labels = x13;
      grey_labels = x14;
      counts = x15;
      sizes = x16;
      members = x17;
      found = x18;
      grey_found = x19;
    })
    (λ r. (
      r.spins,
      (
        r.fwd,
        (
          r.bwd,
          (
            r.pins,
            (
              r.order,
              (
                r.masks,
                (
                  r.couplings,
                  (
                    r.temperatures,
                    (
                      r.cuts,
                      (
                        r.choices,
                        (
                          r.greys,
                          (
                            r.references,
                            (
                              r.seeds,
                              (r.labels, (r.grey_labels, (r.counts, (r.sizes, (r.members, (r.found, r.grey_found)))))),
                            ),
                          ),
                        ),
                      ),
                    ),
                  ),
                ),
              ),
            ),
          ),
        ),
      ),
    ))
    (both (eq (length b.spins) (w.lattice.s * w.lattice.n))
    (both (eq (length w.lattice.fwd) (w.lattice.n * w.lattice.d))
    (both (eq (length w.lattice.bwd) (w.lattice.n * w.lattice.d))
    (both (eq (length w.pins) w.lattice.n)
    (both (eq (length w.order) w.systems)
    (both (eq (length w.masks) w.t)
    (both (when (takes_cuts (common w)) (eq (length w.lattice.couplings) (w.lattice.n * w.lattice.d)))
    (both (when (takes_cuts (common w)) (eq (length w.temperatures) w.t))
    (both (when (takes_cuts (common w)) (eq (length w.cuts) (tasks w * (w.lattice.n * w.lattice.d))))
    (both (when (takes_choices (common w)) (eq (length w.choices) (tasks w * choice_bytes w.mode w.form w.lattice.n w.members)))
    (both (when (takes_greys (common w)) (eq (length w.greys) (tasks w * entries w.form w.lattice.n)))
    (both (when (takes_reference (common w)) (eq (length w.references) (tasks w)))
    (both (when (takes_seed (common w)) (eq (length w.seeds) (tasks w)))
    (both (when (labels_by w.form) (eq (length b.labels) (tasks w * w.lattice.n)))
    (both (when (takes_grey_labels (common w)) (eq (length b.grey_labels) (tasks w * w.lattice.n)))
    (both (when (labels_by w.form) (eq (length b.counts) (tasks w * (w.lattice.n + 1))))
    (both (when (labels_by w.form) (eq (length b.sizes) (tasks w * 4)))
    (both (when (grows_by w.form) (eq (length b.members) (tasks w * w.lattice.n)))
    (both (when (labels_by w.form) (eq (length b.found) (tasks w)))
    (when (takes_grey_labels (common w)) (eq (length b.grey_found) (tasks w))))))))))))))))))))))

-- unmasked tasks in ascending order
abbrev pub in_turn : (t : Bool) (rs : List Rule) → DecidedAll rs → DecidedAll (cond t [] rs)
in_turn true rs d = tt
in_turn false rs d = d

abbrev pub tasks_decided : (w : Sweep) (b : Buffers) (k : ℕ) → DecidedAll (task_rules w b k)
tasks_decided w b zero = tt
tasks_decided w b (suc k) =
    joined (task_rules w b k) (cond (masked w k) [] (choice_rules (task_call w k) (task_choices w k) b.spins)) (tasks_decided w b k)
    (in_turn (masked w k) (choice_rules (task_call w k) (task_choices w k) b.spins) (choices (task_call w k) (task_choices w k) b.spins))

abbrev pub sweep_decided : (w : Sweep) (b : Buffers) → DecidedAll (sweep_rules w b)
sweep_decided w b = (
  sweep_ranged w,
  (
    houd_of_two w.mode w.form w.members,
    (
      sweep_exact w b,
      (
        spins w.lattice.n w.lattice.s (order_names w.order) b.spins,
        (
          inverse w.lattice.n w.lattice.d w.lattice.fwd w.lattice.bwd,
          (
            pins w.pins,
            (
              listed w.lattice.s (order_names w.order),
              (
                when (takes_cuts (common w)) (small_couplings w.lattice.couplings),
                (
                  when (takes_cuts (common w)) (all w.t (λ j. warm (get_or w.temperatures j nan))),
                  (all w.t (λ j. le (get_or w.masks j 0) 1), tasks_decided w b (tasks w)),
                ),
              ),
            ),
          ),
        ),
      ),
    ),
  ),
)

abbrev pub sweep_refusal : Sweep → Buffers → ℕ
sweep_refusal w b = refusal (sweep_rules w b) (sweep_decided w b)

-- each task's rules have their numbers
numbered_both : (rs qs : List Rule) → numbered rs ≡ true → numbered qs ≡ true → numbered (rs ++ qs) ≡ true
numbered_both [] qs e f = f
numbered_both (r ∷ rs) qs e f =
    rw (and_left (ltb 0 r.number) (numbered rs) e)
    (numbered_both rs qs (and_right (ltb 0 r.number) (numbered rs) e) f)

tasks_numbered : (w : Sweep) (b : Buffers) (k : ℕ) → numbered (task_rules w b k) ≡ true
tasks_numbered w b zero = refl
tasks_numbered w b (suc k) = numbered_both (task_rules w b k) (cond (masked w k) [] own) (tasks_numbered w b k) (turn (masked w k))
  where
    own : List Rule
    own = choice_rules (task_call w k) (task_choices w k) b.spins

    turn : (t : Bool) → numbered (cond t [] (choice_rules (task_call w k) (task_choices w k) b.spins)) ≡ true
    turn true = refl
    turn false = refl

pub sweep_verdict : (w : Sweep) (b : Buffers) → Verdict (sweep_rules w b) (sweep_refusal w b)
sweep_verdict w b = verdict_by (sweep_rules w b) (sweep_decided w b) (tasks_numbered w b (tasks w))

pub sweep_accepted_by : (w : Sweep) (b : Buffers) → sweep_refusal w b ≡ 0 → Kept (sweep_rules w b)
sweep_accepted_by w b e = subst (Verdict (sweep_rules w b)) e (sweep_verdict w b)

pub sweep_refused_by : (w : Sweep) (b : Buffers) (k : ℕ) → sweep_refusal w b ≡ suc k → Broken (sweep_rules w b) (suc k)
sweep_refused_by w b k e = subst (Verdict (sweep_rules w b)) e (sweep_verdict w b)
