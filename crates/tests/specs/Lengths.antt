-- Test 2: the exact lengths of what tasks on one panel are lent.
use Rattle.std.specs.Prelude.{ℕ, ◌+◌, ◌*◌, ◌≤◌, ◌≡◌, Bool}
use Rattle.std.proofs.Common.{one-mul}
use Rattle.lemmas.specs.Tells.{Tells, Test, said}
use Rattle.paper.specs.declared.Mode.{Mode}
use Rattle.paper.specs.declared.Form.{Form}
use Rattle.paper.specs.declared.Lengths.{Lengths}
use Rattle.paper.specs.Panel.Takes.{grows_by, labels_by, draws_bonds, choices_by, greys_by, grey_labels_by, entries, choice_bytes}
use Rattle.paper.specs.Refusal.Rules.{When, Fits}

-- numbers small enough for their products
pub record Small (n d s m count : ℕ) : Type 0 where
  pub n_high : n ≤ 4096
  pub d_high : d ≤ 4
  pub s_high : s ≤ 64
  pub m_high : m ≤ 8
  pub count_high : count ≤ 64

-- count tasks on one panel: each has its own cuts, choices and outputs
pub record FitsEach (mode : Mode) (form : Form) (n d s m count : ℕ) (l : Lengths) : Type 0 where
  pub spins : l.spins ≡ s * n
  pub fwd : l.fwd ≡ n * d
  pub bwd : l.bwd ≡ n * d
  pub pins : l.pins ≡ n
  pub couplings : When (draws_bonds mode) (l.couplings ≡ n * d)
  pub cuts : When (draws_bonds mode) (l.cuts ≡ count * (n * d))
  pub choices : When (choices_by mode form) (l.choices ≡ count * choice_bytes mode form n m)
  pub greys : When (greys_by mode form) (l.greys ≡ count * entries form n)
  pub labels : When (labels_by form) (l.labels ≡ count * n)
  pub grey_labels : When (grey_labels_by mode form) (l.grey_labels ≡ count * n)
  pub counts : When (labels_by form) (l.counts ≡ count * (n + 1))
  pub sizes : When (labels_by form) (l.sizes ≡ count * 4)
  pub members : When (grows_by form) (l.members ≡ count * n)
  pub found : When (labels_by form) (l.found ≡ count)
  pub grey_found : When (grey_labels_by mode form) (l.grey_found ≡ count)

-- the test of a length that is asked only if its buffer is taken; and of all of them, by the number of tasks
pub took : {r t t' : Bool} {x y y' : ℕ} → t ≡ t' → y ≡ y' → Tells r (When t (x ≡ y)) → Test r (When t' (x ≡ y'))
took {r} {t} {t'} {x} {y} {y'} p q h = said r (When t' (x ≡ y')) (rw (p, q) at h)

pub counted :
    {r : Bool} {mode : Mode} {form : Form} {n d s m x y : ℕ} {l : Lengths} → x ≡ y → Tells r (FitsEach mode form n d s m x l)
    → Test r (FitsEach mode form n d s m y l)
counted {r} {mode} {form} {n} {d} {s} {m} {x} {y} {l} p h = said r (FitsEach mode form n d s m y l) (rw p at h)

-- of one task they are the paper's
module _ (mode : Mode) (form : Form) (n d s m : ℕ) (l : Lengths) where
  pub one_fits : FitsEach mode form n d s m 1 l → Fits mode form n d s m l
  one_fits f = record {
    spins = f.spins;
    fwd = f.fwd;
    bwd = f.bwd;
    pins = f.pins;
    couplings = f.couplings;
    cuts = λ e. rw one-mul at (f.cuts e);
    choices = λ e. rw one-mul at (f.choices e);
    greys = λ e. rw one-mul at (f.greys e);
    labels = λ e. rw one-mul at (f.labels e);
    grey_labels = λ e. rw one-mul at (f.grey_labels e);
    counts = λ e. rw one-mul at (f.counts e);
    sizes = λ e. rw one-mul at (f.sizes e);
    members = λ e. rw one-mul at (f.members e);
    found = f.found;
    grey_found = f.grey_found;
  }

  pub fits_one : Fits mode form n d s m l → FitsEach mode form n d s m 1 l
  fits_one f = record {
    spins = f.spins;
    fwd = f.fwd;
    bwd = f.bwd;
    pins = f.pins;
    couplings = f.couplings;
    cuts = λ e. rw one-mul (f.cuts e);
    choices = λ e. rw one-mul (f.choices e);
    greys = λ e. rw one-mul (f.greys e);
    labels = λ e. rw one-mul (f.labels e);
    grey_labels = λ e. rw one-mul (f.grey_labels e);
    counts = λ e. rw one-mul (f.counts e);
    sizes = f.sizes;
    members = λ e. rw one-mul (f.members e);
    found = f.found;
    grey_found = f.grey_found;
  }
