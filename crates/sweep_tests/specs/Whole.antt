-- The tests of a sweep, put together: the paper's rules.
use Rattle.std.specs.Prelude.{ℕ, zero, suc, ◌*◌, ◌≡◌, refl, Bool, List, [], ◌∷◌, ◌++◌, length, ℤ, Float}
use Rattle.std.proofs.Common.{inl, inr, arith}
use Rattle.paper.specs.declared.Keeps.{Keeps}
use Rattle.paper.specs.declared.Plan.{Plan}
use Rattle.paper.specs.Panel.Input.{Buffers}
use Rattle.paper.specs.Panel.Made.{buffers_of}
use Rattle.paper.specs.Panel.Takes.{draws_bonds, choices_by, greys_by, keeps_by, entries, choice_bytes}
use Rattle.paper.specs.Refusal.Rule.{Rule, rule, Kept, Broken}
use Rattle.paper.specs.Refusal.Rules.{When, HoudOfTwo, order_names, Named}
use Rattle.paper.specs.Refusal.Verdict.{Verdict}
use Rattle.paper.specs.Answer.Task.{Sweep, tasks}
use Rattle.paper.specs.Answer.Sweep.{SweepRanged, SweepExact, task_rules}
use Rattle.paper.specs.Answer.Totals.{SmallTotals, TotalLengths, swept_rules}
use Rattle.paper.specs.Answer.Made.{sweep_of, plan_of}
use Rattle.tests.specs.Panel.{Fit, fit_lengths, lengths_fit}
use Rattle.tasks.specs.Plan.{Planned, tasks_of}
use Rattle.sweep_tests.specs.Lengths.{Fitting}
use Rattle.sweep_tests.specs.First.{PanelLong, HeatLong, length_rules, panel_rules, heat_rules, lengths_of, own_lengths}
use Rattle.sweep_tests.specs.Tasks.{SweepTested}

module _ (keeps : Keeps) (w : Sweep) (b : Buffers) (ts : List ℤ) where
  abbrev keeping : Bool
  keeping = keeps_by keeps w.form

  abbrev pub panel_of : List Rule
  panel_of = panel_rules (plan_of keeps w) b.spins w.lattice.fwd w.lattice.bwd w.pins w.order

  abbrev pub heat_of : List Rule
  heat_of = heat_rules (plan_of keeps w) w.lattice.couplings w.temperatures w.masks

  abbrev pub tasks_rules : List Rule
  tasks_rules = task_rules w b (tasks w)

  abbrev pub last_rule : List Rule
  last_rule = rule 14 (When keeping (SmallTotals (Named w.lattice.s (order_names w.order)) ts)) ∷ []

  -- all but 1 and 2
  abbrev pub value_rules : List Rule
  value_rules = panel_of ++ (heat_of ++ (tasks_rules ++ last_rule))

  abbrev pub Fits : Type 0
  Fits = Fitting (plan_of keeps w) (lengths_of w b) (own_lengths w ts)

  abbrev pub lengths_rules : List Rule
  lengths_rules = length_rules (plan_of keeps w) (lengths_of w b) (own_lengths w ts)

  planned_of : SweepRanged w → Planned (plan_of keeps w)
  planned_of r = record { ranged = r.ranged; few = r.few; some = r.some; all = r.all; enough = r.enough }

  ranged_of : Planned (plan_of keeps w) → SweepRanged w
  ranged_of p = record { ranged = p.ranged; few = p.few; some = p.some; all = p.all; enough = p.enough }

  fitting_of : SweepExact w b → Fits
  fitting_of e = record {
    each =
        record {
          spins = e.spins;
          fwd = e.fwd;
          bwd = e.bwd;
          pins = e.pins;
          couplings = e.couplings;
          cuts = e.cuts;
          choices = e.choices;
          greys = e.greys;
          labels = e.labels;
          grey_labels = e.grey_labels;
          counts = e.counts;
          sizes = e.sizes;
          members = e.members;
          found = e.found;
          grey_found = e.grey_found;
        };
    order = e.order;
    masks = e.masks;
    temperatures = e.temperatures;
    references = e.references;
    seeds = e.seeds;
  }

  exact_of : Fits → SweepExact w b
  exact_of f = let a = f.each in record {
    spins = a.spins;
    fwd = a.fwd;
    bwd = a.bwd;
    pins = a.pins;
    order = f.order;
    masks = f.masks;
    couplings = a.couplings;
    temperatures = f.temperatures;
    cuts = a.cuts;
    choices = a.choices;
    greys = a.greys;
    references = f.references;
    seeds = f.seeds;
    labels = a.labels;
    grey_labels = a.grey_labels;
    counts = a.counts;
    sizes = a.sizes;
    members = a.members;
    found = a.found;
    grey_found = a.grey_found;
  }

  abbrev Few : Type 0
  Few = HoudOfTwo w.mode w.form w.members

  -- where 1, 15 and 2 are broken, so are the paper's, and past them the verdict is that on the other rules
  behind : (r : ℕ) → Broken lengths_rules r → Broken (swept_rules keeping w b ts) r
  behind r (inl v) = inl ((λ h. v.0 (planned_of h)), v.1)
  behind r (inr v) = inr (ranged_of v.0, houd v.1)
    where
      third : Broken (rule 2 (Fit keeping w.lattice ts) ∷ []) r → Broken (rule 2 (When keeping (TotalLengths w.lattice ts)) ∷ value_rules) r
      third (inl x) = inl ((λ h. x.0 (lengths_fit keeping w.lattice ts h)), x.1)
      third (inr x) = absurd x.1

      second : Broken (rule 2 Fits ∷ rule 2 (Fit keeping w.lattice ts) ∷ []) r
          → Broken (rule 2 (SweepExact w b) ∷ rule 2 (When keeping (TotalLengths w.lattice ts)) ∷ value_rules) r
      second (inl x) = inl ((λ h. x.0 (fitting_of h)), x.1)
      second (inr x) = inr (exact_of x.0, third x.1)

      houd : Broken (rule 15 Few ∷ rule 2 Fits ∷ rule 2 (Fit keeping w.lattice ts) ∷ []) r
          → Broken (rule 15 Few ∷ rule 2 (SweepExact w b) ∷ rule 2 (When keeping (TotalLengths w.lattice ts)) ∷ value_rules) r
      houd (inl x) = inl x
      houd (inr x) = inr (x.0, second x.1)

  pub broken_lengths : (r : ℕ) → (r ≡ 0 → ⊥) → Verdict lengths_rules r → Verdict (swept_rules keeping w b ts) r
  broken_lengths zero ne v = absurd (ne refl)
  broken_lengths (suc r) ne v = behind (suc r) v

  pub past_lengths : Kept lengths_rules → (r : ℕ) → Verdict value_rules r → Verdict (swept_rules keeping w b ts) r
  past_lengths k zero v = (ranged_of k.0, (k.1.0, (exact_of k.1.1.0, (fit_lengths keeping w.lattice ts k.1.1.1.0, v))))
  past_lengths k (suc r) v =
      inr (ranged_of k.0, inr (k.1.0, inr (exact_of k.1.1.0, inr (fit_lengths keeping w.lattice ts k.1.1.1.0, v))))

-- what the tests on values lean on
pub record Sized
    (q : Plan) (spins totals : List ℤ) (fwd bwd order masks : List ℕ) (temperatures cuts : List Float) (choices greys : List ℕ) : Type 0
  where
    pub planned : Planned q
    pub totals_long : When (keeps_by q.keeps q.form) (length totals ≡ q.s)
    pub order_long : length order ≡ q.systems
    pub panel : PanelLong q spins fwd bwd order
    pub heat : HeatLong q temperatures masks
    pub cuts_long : When (draws_bonds q.mode) (length cuts ≡ tasks_of q * (q.n * q.d))
    pub choices_long : When (choices_by q.mode q.form) (length choices ≡ tasks_of q * choice_bytes q.mode q.form q.n q.members)
    pub greys_long : When (greys_by q.mode q.form) (length greys ≡ tasks_of q * entries q.form q.n)

-- r is the verdict on all but 1 and 2, whatever the outputs hold
pub record ValuesTold
    (q : Plan) (spins totals : List ℤ) (fwd bwd pins : List ℕ) (couplings : List ℤ) (order masks : List ℕ) (temperatures cuts : List Float)
    (references seeds choices greys : List ℕ) (r : ℕ) : Type 0
  where
    pub is :
        (labels grey_labels counts sizes members found grey_found : List ℕ)
        → Verdict
        (value_rules q.keeps (sweep_of q fwd bwd pins couplings order masks temperatures cuts references seeds choices greys)
        (buffers_of spins labels grey_labels counts sizes members found grey_found) totals)
        r

module _ {q : Plan} {spins totals : List ℤ} {fwd bwd order masks : List ℕ} {temperatures cuts : List Float} {choices greys : List ℕ}
    (h : Sized q spins totals fwd bwd order masks temperatures cuts choices greys) where
  pub tested_of : (pins : List ℕ) → Kept (panel_rules q spins fwd bwd pins order) → SweepTested q spins order cuts choices greys
  tested_of pins k = record {
    planned = h.planned;
    spins_long = h.panel.spins_long;
    order_long = h.order_long;
    cuts_long = h.cuts_long;
    choices_long = h.choices_long;
    greys_long = h.greys_long;
    spinning = k.0;
    listed = k.1.1.1.0;
  }

pub sized_of :
    {keeps : Keeps} (w : Sweep) (b : Buffers) (ts : List ℤ) → Planned (plan_of keeps w) → Fits keeps w b ts
    → Fit (keeps_by keeps w.form) w.lattice ts
    → Sized (plan_of keeps w) b.spins ts w.lattice.fwd w.lattice.bwd w.order w.masks w.temperatures w.cuts w.choices w.greys
sized_of w b ts p f t = record {
  planned = p;
  totals_long = t.totals_is;
  order_long = f.order;
  panel =
      record {
        few = p.ranged.lattice.s_high;
        n_high = p.ranged.lattice.n_high;
        spins_long = f.each.spins;
        fwd_long = f.each.fwd;
        bwd_long = f.each.bwd;
        order_long = omega (arith, f.order, p.few);
      };
  heat = record { temperatures_long = f.temperatures; masks_long = f.masks };
  cuts_long = f.each.cuts;
  choices_long = f.each.choices;
  greys_long = f.each.greys;
}
