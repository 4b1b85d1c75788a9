-- The form that grows, by the tests of forms: its one cluster, its entries, and what it reads.
use Rattle.std.specs.Prelude.{ℕ, zero, suc, ◌≡◌, refl, Bool, true, false, ◌&&◌, List, eqb}
use Rattle.lemmas.specs.Bools.{never}
use Rattle.paper.specs.declared.Mode.{Mode}
use Rattle.paper.specs.declared.Mode.TheVariants.{Houd, Pair, Perm, Gperm, Jorg, Cmr}
use Rattle.paper.specs.declared.Form.{Form}
use Rattle.paper.specs.declared.Form.TheVariants.{Sw, Wolff, Observe, Grow}
use Rattle.paper.specs.Panel.Takes.{is_perm, is_cmr, grows_by, perms_by, greys_by, entries}
use Rattle.paper.specs.Component.Sizes.{label_of}
use Rattle.paper.specs.Move.Moving.{grey_bit, reached_by}
use Rattle.turn.specs.Turned.{OneCluster}

pub one_cluster_lem : (f : Form) (choices : List ℕ) → grows_by f ≡ true → OneCluster f choices
one_cluster_lem Sw choices e = never e
one_cluster_lem Wolff choices e = never e
one_cluster_lem Observe choices e = never e
one_cluster_lem Grow choices e = record { flips = λ r. refl; first = λ r. refl }

pub reached_grown : (f : Form) (mode : Mode) (seed : ℕ) (l : List ℕ) (i : ℕ) → grows_by f ≡ true → reached_by f mode seed l i ≡ eqb (label_of l i) 1
reached_grown Sw mode seed l i e = never e
reached_grown Wolff mode seed l i e = never e
reached_grown Observe mode seed l i e = never e
reached_grown Grow mode seed l i e = refl

pub is_cmr_lem : (m : Mode) → is_cmr m ≡ true → m ≡ Cmr
is_cmr_lem Houd e = never e
is_cmr_lem Pair e = never e
is_cmr_lem Perm e = never e
is_cmr_lem Gperm e = never e
is_cmr_lem Jorg e = never e
is_cmr_lem Cmr e = refl

pub and_yes : (b : Bool) → (b && true) ≡ b
and_yes true = refl
and_yes false = refl

pub not_true : (b : Bool) → (b ≡ true → ⊥) → b ≡ false
not_true true h = absurd (h refl)
not_true false h = refl

-- the grey number 0 flips no spin
pub none_flips : (k : ℕ) → grey_bit 0 k ≡ false
none_flips zero = refl
none_flips (suc k) = refl

pub grown_greys : (f : Form) (m : Mode) → grows_by f ≡ true → greys_by m f ≡ is_cmr m
grown_greys Sw m e = never e
grown_greys Wolff m e = never e
grown_greys Observe m e = never e
grown_greys Grow m e = refl

pub grown_perms : (f : Form) (m : Mode) → grows_by f ≡ true → perms_by m f ≡ is_perm m
grown_perms Sw m e = never e
grown_perms Wolff m e = never e
grown_perms Observe m e = never e
grown_perms Grow m e = refl

pub grown_entries : (f : Form) (n : ℕ) → grows_by f ≡ true → entries f n ≡ 1
grown_entries Sw n e = never e
grown_entries Wolff n e = never e
grown_entries Observe n e = never e
grown_entries Grow n e = refl
