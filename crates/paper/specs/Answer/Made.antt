-- The paper's sweep, made of what a function is handed: the plan by value, and the lent slices.
use Rattle.std.specs.Prelude.{ℕ, List, ℤ, Float}
use Rattle.paper.specs.declared.Keeps.{Keeps}
use Rattle.paper.specs.declared.Plan.{Plan}
use Rattle.paper.specs.Answer.Task.{Sweep}

abbrev pub sweep_of : Plan → List ℕ → List ℕ → List ℕ → List ℤ → List ℕ → List ℕ → List Float → List Float → List ℕ → List ℕ → List ℕ → List ℕ → Sweep
sweep_of q fwd bwd pins couplings order masks temperatures cuts references seeds choices greys = record {
  mode = q.mode;
  form = q.form;
  lattice = record { n = q.n; d = q.d; s = q.s; fwd = fwd; bwd = bwd; couplings = couplings };
  pins = pins;
  systems = q.systems;
  t = q.t;
  r = q.r;
  members = q.members;
  order = order;
  masks = masks;
  temperatures = temperatures;
  cuts = cuts;
  references = references;
  seeds = seeds;
  choices = choices;
  greys = greys;
}

-- and its numbers
abbrev pub plan_of : Keeps → Sweep → Plan
plan_of keeps w = record {
  mode = w.mode;
  form = w.form;
  keeps = keeps;
  n = w.lattice.n;
  d = w.lattice.d;
  s = w.lattice.s;
  systems = w.systems;
  t = w.t;
  r = w.r;
  members = w.members;
}
