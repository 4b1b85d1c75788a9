-- The same of a sweep: a group of another size refuses it whole.
use Rattle.std.specs.Prelude.{ℕ, ◌≡◌, Bool, List, ℤ}
use Rattle.paper.specs.Answer.Cases.{SweepAnswer, SweepAnswer.Fault}
use Rattle.paper.specs.Panel.Input.{Buffers}
use Rattle.paper.specs.Answer.Task.{Sweep}
use Rattle.paper.specs.Answer.Totals.{SweepKeepAnswers}
use Rattle.coded.specs.Takes.{spelled}
use Rattle.coded.specs.Answer.{Five}

abbrev pub with_choices : List ℕ → Sweep → Sweep
with_choices xs w = record {
  mode = w.mode;
  form = w.form;
  lattice = w.lattice;
  pins = w.pins;
  systems = w.systems;
  t = w.t;
  r = w.r;
  members = w.members;
  order = w.order;
  masks = w.masks;
  temperatures = w.temperatures;
  cuts = w.cuts;
  references = w.references;
  seeds = w.seeds;
  choices = xs;
  greys = w.greys;
}

abbrev pub spelled_sweep : Bool → Sweep → Sweep
spelled_sweep coded w = with_choices (spelled coded w.choices) w

pub record SweepUnfit (b : Buffers) (ts : List ℤ) (a : SweepAnswer) (b' : Buffers) (ts' : List ℤ) : Type 0 where
  pub number : a ≡ Fault 1
  pub kept : b' ≡ b
  pub totals_kept : ts' ≡ ts

pub record SweepCodedAnswers (coded keeping : Bool) (w : Sweep) (b : Buffers) (ts : List ℤ) (a : SweepAnswer) (b' : Buffers) (ts' : List ℤ)
    : Type 0 where
  pub five : Five coded w.members → SweepKeepAnswers keeping (spelled_sweep coded w) b ts a b' ts'
  pub other : (Five coded w.members → ⊥) → SweepUnfit b ts a b' ts'
