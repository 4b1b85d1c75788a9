-- A task of the form that grows: what it asks. The buffers that it does not take may be any, and stay.
use Rattle.std.specs.Prelude.{ℕ, ◌≡◌, true, List, [], ℤ}
use Rattle.lemmas.specs.Bools.{and_left}
use Rattle.paper.specs.Panel.Input.{Call, Choices, Buffers}
use Rattle.paper.specs.Panel.Made.{buffers_of}
use Rattle.paper.specs.Panel.Takes.{grows_by, labels_by}
use Rattle.paper.specs.Refusal.Kept.{Valid}
use Rattle.laws.specs.Forms.{forms_apart}

-- the outputs of the forms that label
pub record Outputs : Type 0 where
  pub labels : List ℕ
  pub grey_labels : List ℕ
  pub counts : List ℕ
  pub sizes : List ℕ
  pub found : List ℕ
  pub grey_found : List ℕ

abbrev pub no_outputs : Outputs
no_outputs = record { labels = []; grey_labels = []; counts = []; sizes = []; found = []; grey_found = [] }

abbrev pub with_outputs : Outputs → List ℤ → List ℕ → Buffers
with_outputs o xs members = buffers_of xs o.labels o.grey_labels o.counts o.sizes members o.found o.grey_found

pub record GrowAsks (c : Call) (p : Choices) (xs : List ℤ) (members : List ℕ) : Type 0 where
  pub grows : grows_by c.form ≡ true
  pub valid : Valid c p (with_outputs no_outputs xs members)

-- what is valid with some of them is so with others
pub grown_with :
    {c : Call} {p : Choices} {xs : List ℤ} {members : List ℕ} (o u : Outputs) → grows_by c.form ≡ true → Valid c p (with_outputs o xs members)
    → Valid c p (with_outputs u xs members)
grown_with {c} o u f v = let s = v.sound in let e = s.exact in record {
  sound = record {
    ranged = s.ranged;
    houd = s.houd;
    exact = record {
      spins = e.spins;
      fwd = e.fwd;
      bwd = e.bwd;
      pins = e.pins;
      couplings = e.couplings;
      cuts = e.cuts;
      choices = e.choices;
      greys = e.greys;
      labels = λ l. forms_apart c.form l f;
      grey_labels = λ l. forms_apart c.form (and_left (labels_by c.form) _ l) f;
      counts = λ l. forms_apart c.form l f;
      sizes = λ l. forms_apart c.form l f;
      members = e.members;
      found = λ l. forms_apart c.form l f;
      grey_found = λ l. forms_apart c.form (and_left (labels_by c.form) _ l) f;
    };
    spins = s.spins;
    inverse = s.inverse;
    pins = s.pins;
    grouped = s.grouped;
    couplings = s.couplings;
    warm = s.warm;
  };
  fit = v.fit;
}
