-- Two sweeps that agree on all that is taken have the same answers: what areas of masked tasks hold does not matter.
use Rattle.std.specs.Prelude.{ℕ, zero, suc, ◌*◌, ◌<◌, ◌≤◌, ◌≡◌, refl, ◌↔◌, Bool, true, false, cond, List, [], length, get_or, ℤ, Float}
use Rattle.std.proofs.Common.{sym, subst, arith, le_refl}
use Rattle.std.specs.Float.{nan}
use Rattle.paper.specs.Answer.Cases.{Answer}
use Rattle.paper.specs.Answer.Cases.{SweepAnswer, SweepAnswer.Fault, SweepAnswer.Swept}
use Rattle.paper.specs.Panel.Input.{Buffers}
use Rattle.paper.specs.Panel.Takes.{takes_cuts, takes_choices, takes_greys, takes_reference, takes_seed, entries, choice_bytes}
use Rattle.paper.specs.Refusal.Rules.{SmallCouplings, Warm, choice_rules}
use Rattle.paper.specs.Answer.Task.{Sweep, tasks, masked, task_call, task_choices, areas}
use Rattle.paper.specs.Answer.Sweep.{common, SweepRanged, SweepExact, task_rules, sweep_rules, Done, SweepAnswers}
use Rattle.paper.specs.Answer.Same.{SameTaken, SameSwept}
use Rattle.laws.specs.Matched.{Matched, matched_kept, matched_broken, matched_both, taken_same, itself}
use Rattle.laws.specs.UntakenRules.{choice_rules_same}
use Rattle.laws.specs.UntakenAnswers.{taken_back, untaken}

-- the sweep w with all of v that may differ
abbrev over : Sweep → Sweep → Sweep
over w v = record {
  mode = w.mode;
  form = w.form;
  lattice = record {
    n = w.lattice.n;
    d = w.lattice.d;
    s = w.lattice.s;
    fwd = w.lattice.fwd;
    bwd = w.lattice.bwd;
    couplings = v.lattice.couplings;
  };
  pins = w.pins;
  systems = w.systems;
  t = w.t;
  r = w.r;
  members = w.members;
  order = w.order;
  masks = w.masks;
  temperatures = v.temperatures;
  cuts = v.cuts;
  references = v.references;
  seeds = v.seeds;
  choices = v.choices;
  greys = v.greys;
}

is_over : {w v : Sweep} → SameSwept w v → v ≡ over w v
is_over {w} {v} h = λ i. record {
  mode = h.mode i;
  form = h.form i;
  lattice = record {
    n = h.panel.n i;
    d = h.panel.d i;
    s = h.panel.s i;
    fwd = h.panel.fwd i;
    bwd = h.panel.bwd i;
    couplings = v.lattice.couplings;
  };
  pins = h.pins i;
  systems = h.systems i;
  t = h.t i;
  r = h.r i;
  members = h.members i;
  order = h.order i;
  masks = h.masks i;
  temperatures = v.temperatures;
  cuts = v.cuts;
  references = v.references;
  seeds = v.seeds;
  choices = v.choices;
  greys = v.greys;
}

module _ {w v : Sweep} (same : SameSwept w v) where
  each : (k : ℕ) → k < tasks w → masked w k ≡ false → SameTaken (task_call w k) (task_choices w k) (task_call (over w v) k) (task_choices (over w v) k)
  each k h e = subst (λ (z : Sweep). SameTaken (task_call w k) (task_choices w k) (task_call z k) (task_choices z k)) (is_over same) (same.each k h e)

  -- ---- the rules
  ranged_same : SweepRanged w ↔ SweepRanged (over w v)
  ranged_same = (
    (λ h. record { ranged = h.ranged; few = h.few; some = h.some; all = h.all; enough = h.enough }),
    (λ h. record { ranged = h.ranged; few = h.few; some = h.some; all = h.all; enough = h.enough }),
  )

  module _ (b : Buffers) where
    exact_same : SweepExact w b ↔ SweepExact (over w v) b
    exact_same =
        let couplings = taken_same (takes_cuts (common w)) (λ (z : List ℤ). length z ≡ w.lattice.n * w.lattice.d) same.panel.couplings in
        let temperatures = taken_same (takes_cuts (common w)) (λ (z : List Float). length z ≡ w.t) same.temperatures in
        let cuts = taken_same (takes_cuts (common w)) (λ (x : ℕ). x ≡ tasks w * (w.lattice.n * w.lattice.d)) same.cuts in
        let bytes = choice_bytes w.mode w.form w.lattice.n w.members in
        let choices = taken_same (takes_choices (common w)) (λ (x : ℕ). x ≡ tasks w * bytes) same.choices in
        let greys = taken_same (takes_greys (common w)) (λ (x : ℕ). x ≡ tasks w * entries w.form w.lattice.n) same.greys in
        let references = taken_same (takes_reference (common w)) (λ (x : ℕ). x ≡ tasks w) same.references in
        let seeds = taken_same (takes_seed (common w)) (λ (x : ℕ). x ≡ tasks w) same.seeds in (
          (λ h. record {
            spins = h.spins;
            fwd = h.fwd;
            bwd = h.bwd;
            pins = h.pins;
            order = h.order;
            masks = h.masks;
            couplings = couplings.0 h.couplings;
            temperatures = temperatures.0 h.temperatures;
            cuts = cuts.0 h.cuts;
            choices = choices.0 h.choices;
            greys = greys.0 h.greys;
            references = references.0 h.references;
            seeds = seeds.0 h.seeds;
            labels = h.labels;
            grey_labels = h.grey_labels;
            counts = h.counts;
            sizes = h.sizes;
            members = h.members;
            found = h.found;
            grey_found = h.grey_found;
          }),
          (λ h. record {
            spins = h.spins;
            fwd = h.fwd;
            bwd = h.bwd;
            pins = h.pins;
            order = h.order;
            masks = h.masks;
            couplings = couplings.1 h.couplings;
            temperatures = temperatures.1 h.temperatures;
            cuts = cuts.1 h.cuts;
            choices = choices.1 h.choices;
            greys = greys.1 h.greys;
            references = references.1 h.references;
            seeds = seeds.1 h.seeds;
            labels = h.labels;
            grey_labels = h.grey_labels;
            counts = h.counts;
            sizes = h.sizes;
            members = h.members;
            found = h.found;
            grey_found = h.grey_found;
          }),
        )

    -- a masked task has no rules
    tasks_same : (K : ℕ) → K ≤ tasks w → Matched (task_rules w b K) (task_rules (over w v) b K)
    tasks_same zero h = tt
    tasks_same (suc K) h =
        matched_both (task_rules w b K) (task_rules (over w v) b K) (cond (masked w K) [] (choice_rules (task_call w K) (task_choices w K) b.spins))
        (cond (masked w K) [] (choice_rules (task_call (over w v) K) (task_choices (over w v) K) b.spins)) (tasks_same K (omega arith))
        (turn (masked w K) refl)
      where
        turn :
            (t : Bool)
            → masked w K ≡ t
            → Matched (cond t [] (choice_rules (task_call w K) (task_choices w K) b.spins))
            (cond t [] (choice_rules (task_call (over w v) K) (task_choices (over w v) K) b.spins))
        turn true e = tt
        turn false e = choice_rules_same (each K h e) b.spins

    sweep_rules_same : Matched (sweep_rules w b) (sweep_rules (over w v) b)
    sweep_rules_same =
        let couplings = taken_same (takes_cuts (common w)) SmallCouplings same.panel.couplings in
        let warm = taken_same (takes_cuts (common w)) (λ (z : List Float). (j : ℕ) → j < w.t → Warm (get_or z j nan)) same.temperatures in
        let of-tasks = tasks_same (tasks w) (le_refl (tasks w)) in (
          refl,
          ranged_same,
          (
            refl,
            itself,
            (refl, exact_same, (refl, itself, (refl, itself, (refl, itself, (refl, itself, (refl, couplings, (refl, warm, (refl, itself, of-tasks)))))))),
          ),
        )

  done_there : (b b' : Buffers) (k : ℕ) (a : Answer) → k < tasks w → masked w k ≡ false → Done w b b' k a → Done (over w v) b b' k a
  done_there b b' k a h e d = record {
    spins = d.spins;
    answers = (untaken (each k h e) (areas w b b.spins k) a (areas w b' d.spins k)).0 d.answers;
    rows = d.rows;
  }

  there : (b : Buffers) (r : SweepAnswer) (b' : Buffers) → SweepAnswers w b r b' → SweepAnswers (over w v) b r b'
  there b (Fault r) b' q = record { why = matched_broken (sweep_rules w b) (sweep_rules (over w v) b) r (sweep_rules_same b) q.why; kept = q.kept }
  there b (Swept i m h) b' q = record {
    valid = matched_kept (sweep_rules w b) (sweep_rules (over w v) b) (sweep_rules_same b) q.valid;
    answered = q.answered;
    counts = q.counts;
    lengths = q.lengths;
    each = λ k h e. done_there b b' k (q.answered k) h e (q.each k h e);
    skipped = q.skipped;
    others = q.others;
    kept = record {
      labels = q.kept.labels;
      grey_labels = q.kept.grey_labels;
      counts = q.kept.counts;
      sizes = q.kept.sizes;
      members = q.kept.members;
      found = q.kept.found;
      grey_found = q.kept.grey_found;
    };
  }

  alike : (b : Buffers) (r : SweepAnswer) (b' : Buffers) → SweepAnswers w b r b' → SweepAnswers v b r b'
  alike b r b' q = subst (λ (z : Sweep). SweepAnswers z b r b') (sym (is_over same)) (there b r b' q)

  -- to agree is mutual
  swept_back : SameSwept v w
  swept_back = subst (λ (z : Sweep). SameSwept z w) (sym (is_over same)) (record {
    mode = refl;
    form = refl;
    panel = record { n = refl; d = refl; s = refl; fwd = refl; bwd = refl; couplings = λ t. sym (same.panel.couplings t) };
    pins = refl;
    systems = refl;
    t = refl;
    r = refl;
    members = refl;
    order = refl;
    masks = refl;
    temperatures = λ t. sym (same.temperatures t);
    cuts = λ t. sym (same.cuts t);
    references = λ t. sym (same.references t);
    seeds = λ t. sym (same.seeds t);
    choices = λ t. sym (same.choices t);
    greys = λ t. sym (same.greys t);
    each = λ k h e. taken_back (each k h e);
  })

pub sweep_untaken : {w v : Sweep} → SameSwept w v → (b : Buffers) (r : SweepAnswer) (b' : Buffers) → SweepAnswers w b r b' ↔ SweepAnswers v b r b'
sweep_untaken same b r b' = (alike same b r b', alike (swept_back same) b r b')
