-- The functions on the types: what each promises, it promises of one result.
use Rattle.std.specs.Prelude.{ℕ, ◌≡◌, Bool, Float}
use Rattle.lemmas.specs.Determined.{one_value}
use Rattle.paper.specs.declared.Mode.{Mode}
use Rattle.paper.specs.declared.Form.{Form}
use Rattle.paper.specs.declared.Keeps.{Keeps}
use Rattle.paper.specs.declared.Refusal.{Refusal}
use Rattle.paper.specs.declared.Sampler.{Sampler}
use Rattle.paper.specs.Panel.Takes.{is_houd, is_perm, is_gperm, is_cmr, is_drawn, is_sw, one_cluster, grows_by, labels_by, moves, flips_by, perms_by, choices_by, greys_by}
use Rattle.paper.specs.Panel.Takes.{grey_labels_by, keeps_by, entries, choice_width}
use Rattle.paper.specs.Refusal.Numbers.{number_of}
use Rattle.paper.specs.Site.Bonds.{sampler_of}

pub new_determined : (t : Float) (a b : Sampler) → a ≡ sampler_of t → b ≡ sampler_of t → a ≡ b
new_determined t a b = one_value

pub is_perm_determined : (m : Mode) (a b : Bool) → a ≡ is_perm m → b ≡ is_perm m → a ≡ b
is_perm_determined m a b = one_value

pub is_houd_determined : (m : Mode) (a b : Bool) → a ≡ is_houd m → b ≡ is_houd m → a ≡ b
is_houd_determined m a b = one_value

pub is_gperm_determined : (m : Mode) (a b : Bool) → a ≡ is_gperm m → b ≡ is_gperm m → a ≡ b
is_gperm_determined m a b = one_value

pub is_cmr_determined : (m : Mode) (a b : Bool) → a ≡ is_cmr m → b ≡ is_cmr m → a ≡ b
is_cmr_determined m a b = one_value

pub is_drawn_determined : (m : Mode) (a b : Bool) → a ≡ is_drawn m → b ≡ is_drawn m → a ≡ b
is_drawn_determined m a b = one_value

pub is_sw_determined : (f : Form) (a b : Bool) → a ≡ is_sw f → b ≡ is_sw f → a ≡ b
is_sw_determined f a b = one_value

pub one_cluster_determined : (f : Form) (a b : Bool) → a ≡ one_cluster f → b ≡ one_cluster f → a ≡ b
one_cluster_determined f a b = one_value

pub grows_determined : (f : Form) (a b : Bool) → a ≡ grows_by f → b ≡ grows_by f → a ≡ b
grows_determined f a b = one_value

pub labels_determined : (f : Form) (a b : Bool) → a ≡ labels_by f → b ≡ labels_by f → a ≡ b
labels_determined f a b = one_value

pub moves_determined : (f : Form) (a b : Bool) → a ≡ moves f → b ≡ moves f → a ≡ b
moves_determined f a b = one_value

pub takes_flips_determined : (m : Mode) (f : Form) (a b : Bool) → a ≡ flips_by m f → b ≡ flips_by m f → a ≡ b
takes_flips_determined m f a b = one_value

pub takes_perms_determined : (m : Mode) (f : Form) (a b : Bool) → a ≡ perms_by m f → b ≡ perms_by m f → a ≡ b
takes_perms_determined m f a b = one_value

pub takes_choices_determined : (m : Mode) (f : Form) (a b : Bool) → a ≡ choices_by m f → b ≡ choices_by m f → a ≡ b
takes_choices_determined m f a b = one_value

pub choice_width_determined : (m : Mode) (s a b : ℕ) → a ≡ choice_width m s → b ≡ choice_width m s → a ≡ b
choice_width_determined m s a b = one_value

pub takes_greys_determined : (m : Mode) (f : Form) (a b : Bool) → a ≡ greys_by m f → b ≡ greys_by m f → a ≡ b
takes_greys_determined m f a b = one_value

pub takes_grey_labels_determined : (m : Mode) (f : Form) (a b : Bool) → a ≡ grey_labels_by m f → b ≡ grey_labels_by m f → a ≡ b
takes_grey_labels_determined m f a b = one_value

pub entries_determined : (f : Form) (n a b : ℕ) → a ≡ entries f n → b ≡ entries f n → a ≡ b
entries_determined f n a b = one_value

pub totals_determined : (k : Keeps) (f : Form) (a b : Bool) → a ≡ keeps_by k f → b ≡ keeps_by k f → a ≡ b
totals_determined k f a b = one_value

pub number_determined : (e : Refusal) (a b : ℕ) → a ≡ number_of e → b ≡ number_of e → a ≡ b
number_determined e a b = one_value
