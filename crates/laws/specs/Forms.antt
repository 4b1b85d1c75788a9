-- A form labels or grows, and never both.
use Rattle.std.specs.Prelude.{◌≡◌, refl, ◌⊎◌, Bool, true, false, not}
use Rattle.std.proofs.Common.{sym, inl, inr}
use Rattle.lemmas.specs.Bools.{never}
use Rattle.paper.specs.declared.Form.{Form}
use Rattle.paper.specs.declared.Form.TheVariants.{Sw, Wolff, Observe, Grow}
use Rattle.paper.specs.Panel.Takes.{one_cluster, grows_by, labels_by, moves}

-- which of the two
pub by_form : (f : Form) → (labels_by f ≡ true) ⊎ (grows_by f ≡ true)
by_form f = go (grows_by f)
  where
    go : (t : Bool) → (not t ≡ true) ⊎ (t ≡ true)
    go true = inr refl
    go false = inl refl

pub forms_apart : {P : Type 0} (f : Form) → labels_by f ≡ true → grows_by f ≡ true → P
forms_apart f = go (grows_by f)
  where
    go : {P : Type 0} (t : Bool) → not t ≡ true → t ≡ true → P
    go true l g = never l
    go false l g = never g

-- by the test of the one that is false
pub labels_else : (f : Form) → grows_by f ≡ false → labels_by f ≡ true
labels_else f e = rw e refl

pub grows_else : (f : Form) → labels_by f ≡ false → grows_by f ≡ true
grows_else f = go (grows_by f)
  where
    go : (t : Bool) → not t ≡ false → t ≡ true
    go true e = refl
    go false e = never (sym e)

pub not_grows : (f : Form) → labels_by f ≡ true → grows_by f ≡ false
not_grows f = go (grows_by f)
  where
    go : (t : Bool) → not t ≡ true → t ≡ false
    go true e = never e
    go false e = refl

pub not_labels : (f : Form) → grows_by f ≡ true → labels_by f ≡ false
not_labels f e = rw e refl

-- the form that grows moves one cluster
pub grows_one : (f : Form) → grows_by f ≡ true → one_cluster f ≡ true
grows_one Sw e = never e
grows_one Wolff e = never e
grows_one Observe e = never e
grows_one Grow e = refl

pub grows_moves : (f : Form) → grows_by f ≡ true → moves f ≡ true
grows_moves Sw e = never e
grows_moves Wolff e = never e
grows_moves Observe e = never e
grows_moves Grow e = refl
