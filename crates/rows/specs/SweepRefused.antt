-- Worked refusals of sweeps: what is tested, and in which order.
use Rattle.std.specs.Prelude.{ℕ, refl, List, [], ◌∷◌, pos, Float}
use Rattle.std.specs.Float.{nan}
use Rattle.std.specs.Float.Ieee.{div, le, of_int}
use Rattle.lemmas.specs.Cells.{table}
use Rattle.lemmas.specs.Bools.{every}
use Rattle.paper.specs.declared.Mode.TheVariants.{Jorg}
use Rattle.paper.specs.declared.Form.TheVariants.{Wolff}
use Rattle.paper.specs.Panel.Input.{Buffers}
use Rattle.paper.specs.Site.Acting.{pair_differs, acts}
use Rattle.paper.specs.Site.Bonds.{whole}
use Rattle.paper.specs.Refusal.Rule.{Kept, Broken}
use Rattle.paper.specs.Answer.Task.{Sweep}
use Rattle.paper.specs.Answer.Sweep.{sweep_rules}
use Rattle.paper.specs.Rows.Cases.{+, -, line}
use Rattle.laws.specs.Decided.{any}
use Rattle.laws.specs.SweepVerdicts.{sweep_accepted_by, sweep_refused_by}

-- Jörg, Wolff: two temperatures of two replicas, so two tasks, on one site joined to itself
abbrev pinning : List ℕ → List ℕ → List Float → List Float → List ℕ → Sweep
pinning pins masks temperatures cuts seeds = record {
  mode = Jorg;
  form = Wolff;
  lattice = line 1 4 (0 ∷ []) (0 ∷ []) (pos 1 ∷ []);
  pins = pins;
  systems = 4;
  t = 2;
  r = 2;
  members = 2;
  order = 0 ∷ 1 ∷ 2 ∷ 3 ∷ [];
  masks = masks;
  temperatures = temperatures;
  cuts = cuts;
  references = [];
  seeds = seeds;
  choices = [];
  greys = [];
}

abbrev sweep : List ℕ → List Float → List Float → List ℕ → Sweep
sweep = pinning (0 ∷ [])

abbrev lent : Buffers
lent = record {
  spins = + ∷ - ∷ + ∷ - ∷ [];
  labels = 0 ∷ 0 ∷ [];
  grey_labels = [];
  counts = 0 ∷ 0 ∷ 0 ∷ 0 ∷ [];
  sizes = 0 ∷ 0 ∷ 0 ∷ 0 ∷ 0 ∷ 0 ∷ 0 ∷ 0 ∷ [];
  members = [];
  found = 0 ∷ 0 ∷ [];
  grey_found = [];
}

abbrev warm : List Float
warm = whole 1 ∷ whole 1 ∷ []

pub record SweepRefusals : Type 0 where
  -- tasks in ascending order, each through 8, 9, 10: task 0's seed goes before task 1's cut
  pub task_by_task : Broken (sweep_rules (sweep (0 ∷ 0 ∷ []) warm (whole 0 ∷ nan ∷ []) (1 ∷ 0 ∷ [])) lent) 10
  -- the mask bytes go before any task, and after 7
  pub mask_first : Broken (sweep_rules (sweep (2 ∷ 0 ∷ []) warm (nan ∷ whole 0 ∷ []) (0 ∷ 0 ∷ [])) lent) 9
  pub warm_first : Broken (sweep_rules (sweep (2 ∷ 0 ∷ []) (nan ∷ whole 1 ∷ []) (nan ∷ whole 0 ∷ []) (0 ∷ 0 ∷ [])) lent) 7
  -- a mask byte 1 masks: that task's cuts and seed are not tested, but its temperature is
  pub masked_free : Kept (sweep_rules (sweep (1 ∷ 0 ∷ []) warm (nan ∷ whole 0 ∷ []) (9 ∷ 0 ∷ [])) lent)
  pub masked_warm : Broken (sweep_rules (sweep (1 ∷ 0 ∷ []) (nan ∷ whole 1 ∷ []) (nan ∷ whole 0 ∷ []) (9 ∷ 0 ∷ [])) lent) 7
  pub unmasked : Broken (sweep_rules (sweep (0 ∷ 1 ∷ []) warm (nan ∷ whole 0 ∷ []) (9 ∷ 0 ∷ [])) lent) 8
  -- a pin byte goes before the temperatures, and is tested where every task is masked
  pub pin_first : Broken (sweep_rules (pinning (2 ∷ []) (1 ∷ 1 ∷ []) (nan ∷ whole 1 ∷ []) (whole 0 ∷ whole 0 ∷ []) (0 ∷ 0 ∷ [])) lent) 4
  pub pins_long : Broken (sweep_rules (pinning (2 ∷ 0 ∷ []) (0 ∷ 0 ∷ []) warm (whole 0 ∷ whole 0 ∷ []) (0 ∷ 0 ∷ [])) lent) 2

pub sweep_refusals : SweepRefusals
unfolding table every any acts pair_differs div le of_int
sweep_refusals = record {
  task_by_task = sweep_refused_by (sweep (0 ∷ 0 ∷ []) warm (whole 0 ∷ nan ∷ []) (1 ∷ 0 ∷ [])) lent 9 refl;
  mask_first = sweep_refused_by (sweep (2 ∷ 0 ∷ []) warm (nan ∷ whole 0 ∷ []) (0 ∷ 0 ∷ [])) lent 8 refl;
  warm_first = sweep_refused_by (sweep (2 ∷ 0 ∷ []) (nan ∷ whole 1 ∷ []) (nan ∷ whole 0 ∷ []) (0 ∷ 0 ∷ [])) lent 6 refl;
  masked_free = sweep_accepted_by (sweep (1 ∷ 0 ∷ []) warm (nan ∷ whole 0 ∷ []) (9 ∷ 0 ∷ [])) lent refl;
  masked_warm = sweep_refused_by (sweep (1 ∷ 0 ∷ []) (nan ∷ whole 1 ∷ []) (nan ∷ whole 0 ∷ []) (9 ∷ 0 ∷ [])) lent 6 refl;
  unmasked = sweep_refused_by (sweep (0 ∷ 1 ∷ []) warm (nan ∷ whole 0 ∷ []) (9 ∷ 0 ∷ [])) lent 7 refl;
  pin_first = sweep_refused_by (pinning (2 ∷ []) (1 ∷ 1 ∷ []) (nan ∷ whole 1 ∷ []) (whole 0 ∷ whole 0 ∷ []) (0 ∷ 0 ∷ [])) lent 3 refl;
  pins_long = sweep_refused_by (pinning (2 ∷ 0 ∷ []) (0 ∷ 0 ∷ []) warm (whole 0 ∷ whole 0 ∷ []) (0 ∷ 0 ∷ [])) lent 1 refl;
}

-- ---- a sweep over some of the panel's systems (12/14). Systems 0 and 1 hold no spins
abbrev over : ℕ → ℕ → List ℕ → Sweep
over systems t order = record {
  mode = Jorg;
  form = Wolff;
  lattice = line 1 4 (0 ∷ []) (0 ∷ []) (pos 1 ∷ []);
  pins = 0 ∷ [];
  systems = systems;
  t = t;
  r = 2;
  members = 2;
  order = order;
  masks = 0 ∷ [];
  temperatures = whole 1 ∷ [];
  cuts = whole 0 ∷ [];
  references = [];
  seeds = 0 ∷ [];
  choices = [];
  greys = [];
}

abbrev lent1 : Buffers
lent1 = record {
  spins = pos 0 ∷ pos 7 ∷ + ∷ - ∷ [];
  labels = 0 ∷ [];
  grey_labels = [];
  counts = 0 ∷ 0 ∷ [];
  sizes = 0 ∷ 0 ∷ 0 ∷ 0 ∷ [];
  members = [];
  found = 0 ∷ [];
  grey_found = [];
}

pub record SweepUnnamed : Type 0 where
  pub beside : Kept (sweep_rules (over 2 1 (2 ∷ 3 ∷ [])) lent1)
  pub named : Broken (sweep_rules (over 2 1 (2 ∷ 1 ∷ [])) lent1) 3
  -- a system that is not there, and one that stands twice, name no other
  pub no_system : Broken (sweep_rules (over 2 1 (2 ∷ 4 ∷ [])) lent1) 5
  pub twice : Broken (sweep_rules (over 2 1 (3 ∷ 3 ∷ [])) lent1) 5
  -- t * r is their number, and t is 1 at least
  pub too_many : Broken (sweep_rules (over 3 1 (2 ∷ 3 ∷ [])) lent1) 1
  pub no_temperature : Broken (sweep_rules (over 0 0 []) lent1) 1
  pub too_long : Broken (sweep_rules (over 2 1 (2 ∷ 3 ∷ 0 ∷ [])) lent1) 2

pub sweep_unnamed : SweepUnnamed
unfolding table every any acts pair_differs div le of_int
sweep_unnamed = record {
  beside = sweep_accepted_by (over 2 1 (2 ∷ 3 ∷ [])) lent1 refl;
  named = sweep_refused_by (over 2 1 (2 ∷ 1 ∷ [])) lent1 2 refl;
  no_system = sweep_refused_by (over 2 1 (2 ∷ 4 ∷ [])) lent1 4 refl;
  twice = sweep_refused_by (over 2 1 (3 ∷ 3 ∷ [])) lent1 4 refl;
  too_many = sweep_refused_by (over 3 1 (2 ∷ 3 ∷ [])) lent1 0 refl;
  no_temperature = sweep_refused_by (over 0 0 []) lent1 0 refl;
  too_long = sweep_refused_by (over 2 1 (2 ∷ 3 ∷ 0 ∷ [])) lent1 1 refl;
}
