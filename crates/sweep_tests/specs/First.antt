-- Tests 1 to 7 and the mask bytes, over the whole sweep.
use Rattle.std.specs.Prelude.{ℕ, zero, suc, ◌*◌, ◌≤◌, ◌<◌, ◌≡◌, refl, List, [], ◌∷◌, ◌++◌, length, get_or, ℤ, Float}
use Rattle.std.specs.Float.{nan}
use Rattle.paper.specs.Panel.Input.{Buffers}
use Rattle.paper.specs.Panel.Takes.{draws_bonds, keeps_by}
use Rattle.paper.specs.Refusal.Rule.{Rule, rule}
use Rattle.paper.specs.Refusal.Rules.{When, HoudOfTwo, order_names, Named, Spins, Inverse, Pins, Listed, SmallCouplings, Warm}
use Rattle.paper.specs.Refusal.Verdict.{Verdict, broken_first}
use Rattle.paper.specs.Answer.Task.{Sweep}
use Rattle.paper.specs.declared.Plan.{Plan}
use Rattle.paper.specs.declared.Lengths.{Lengths}
use Rattle.tests.specs.Panel.{TotalsFit}
use Rattle.tasks.specs.Plan.{Planned}
use Rattle.sweep_tests.specs.declared.SweepLengths.{SweepLengths}
use Rattle.sweep_tests.specs.Lengths.{Fitting}

-- what the tests on the panel and on the temperatures lean on
pub record PanelLong (q : Plan) (spins : List ℤ) (fwd bwd order : List ℕ) : Type 0 where
  pub few : q.s ≤ 64
  pub n_high : q.n ≤ 4096
  pub spins_long : length spins ≡ q.s * q.n
  pub fwd_long : length fwd ≡ q.n * q.d
  pub bwd_long : length bwd ≡ q.n * q.d
  pub order_long : length order ≤ q.s

pub record HeatLong (q : Plan) (temperatures : List Float) (masks : List ℕ) : Type 0 where
  pub temperatures_long : When (draws_bonds q.mode) (length temperatures ≡ q.t)
  pub masks_long : length masks ≡ q.t

-- 1, 15 and 2, by the numbers alone
abbrev pub length_rules : Plan → Lengths → SweepLengths → List Rule
length_rules q l o =
    rule 1 (Planned q)
    ∷ rule 15 (HoudOfTwo q.mode q.form q.members)
    ∷ rule 2 (Fitting q l o)
    ∷ rule 2 (TotalsFit (keeps_by q.keeps q.form) q.n q.d q.s l.couplings o.totals)
    ∷ []

abbrev pub panel_rules : Plan → List ℤ → List ℕ → List ℕ → List ℕ → List ℕ → List Rule
panel_rules q spins fwd bwd pins order =
    rule 3 (Spins q.n (Named q.s (order_names order)) spins)
    ∷ rule 4 (Inverse q.n q.d fwd bwd)
    ∷ rule 4 (Pins pins)
    ∷ rule 5 (Listed q.s (order_names order))
    ∷ []

abbrev pub AllWarm : ℕ → List Float → Type 0
AllWarm t ts = (j : ℕ) → j < t → Warm (get_or ts j nan)

abbrev pub warm_rules : Plan → List Float → List ℕ → List Rule
warm_rules q temperatures masks =
    rule 7 (When (draws_bonds q.mode) (AllWarm q.t temperatures))
    ∷ rule 9 ((j : ℕ) → j < q.t → get_or masks j 0 ≤ 1)
    ∷ []

abbrev pub heat_rules : Plan → List ℤ → List Float → List ℕ → List Rule
heat_rules q couplings temperatures masks =
    rule 6 (When (draws_bonds q.mode) (SmallCouplings couplings))
    ∷ rule 6 (When (keeps_by q.keeps q.form) (SmallCouplings couplings))
    ∷ warm_rules q temperatures masks

-- the lengths of all that is lent
abbrev pub lengths_of : Sweep → Buffers → Lengths
lengths_of w b = record {
  spins = length b.spins;
  fwd = length w.lattice.fwd;
  bwd = length w.lattice.bwd;
  pins = length w.pins;
  couplings = length w.lattice.couplings;
  cuts = length w.cuts;
  choices = length w.choices;
  greys = length w.greys;
  labels = length b.labels;
  grey_labels = length b.grey_labels;
  counts = length b.counts;
  sizes = length b.sizes;
  members = length b.members;
  found = length b.found;
  grey_found = length b.grey_found;
}

abbrev pub own_lengths : Sweep → List ℤ → SweepLengths
own_lengths w ts = record {
  totals = length ts;
  order = length w.order;
  masks = length w.masks;
  temperatures = length w.temperatures;
  references = length w.references;
  seeds = length w.seeds;
}

-- ---- a list of rules after another
pub first_broken : (rs qs : List Rule) (r : ℕ) → (r ≡ 0 → ⊥) → Verdict rs r → Verdict (rs ++ qs) r
first_broken rs qs zero ne v = absurd (ne refl)
first_broken rs qs (suc r) ne v = broken_first rs qs (suc r) v
