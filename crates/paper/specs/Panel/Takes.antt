-- Which inputs each mode and form takes.
use Rattle.std.specs.Prelude.{ℕ, ◌*◌, Bool, true, false, not, cond, ◌&&◌, ◌||◌}
use Rattle.paper.specs.declared.Mode.{Mode}
use Rattle.paper.specs.declared.Mode.TheVariants.{Houd, Pair, Perm, Gperm, Jorg, Cmr}
use Rattle.paper.specs.declared.Form.{Form}
use Rattle.paper.specs.declared.Form.TheVariants.{Sw, Wolff, Observe, Grow}
use Rattle.paper.specs.declared.Keeps.{Keeps}
use Rattle.paper.specs.declared.Keeps.TheVariants.{Nothing, Totals}
use Rattle.paper.specs.Panel.Input.{Call}

abbrev pub is_perm : Mode → Bool
is_perm Houd = false
is_perm Pair = false
is_perm Perm = true
is_perm Gperm = true
is_perm Jorg = false
is_perm Cmr = false

abbrev pub is_houd : Mode → Bool
is_houd Houd = true
is_houd Pair = false
is_houd Perm = false
is_houd Gperm = false
is_houd Jorg = false
is_houd Cmr = false

abbrev pub is_gperm : Mode → Bool
is_gperm Houd = false
is_gperm Pair = false
is_gperm Perm = false
is_gperm Gperm = true
is_gperm Jorg = false
is_gperm Cmr = false

abbrev pub is_cmr : Mode → Bool
is_cmr Houd = false
is_cmr Pair = false
is_cmr Perm = false
is_cmr Gperm = false
is_cmr Jorg = false
is_cmr Cmr = true

-- the modes that draw their bonds
abbrev pub is_drawn : Mode → Bool
is_drawn Houd = false
is_drawn Pair = false
is_drawn Perm = false
is_drawn Gperm = false
is_drawn Jorg = true
is_drawn Cmr = true

abbrev pub is_sw : Form → Bool
is_sw Sw = true
is_sw Wolff = false
is_sw Observe = false
is_sw Grow = false

-- the forms that move the seed's component alone
abbrev pub one_cluster : Form → Bool
one_cluster Sw = false
one_cluster Wolff = true
one_cluster Observe = false
one_cluster Grow = true

-- the form that finds that component alone, and writes its members; the others find every component, and write labels, counts and sizes
abbrev pub grows_by : Form → Bool
grows_by Sw = false
grows_by Wolff = false
grows_by Observe = false
grows_by Grow = true

abbrev pub labels_by : Form → Bool
labels_by form = not (grows_by form)

abbrev pub moves : Form → Bool
moves Sw = true
moves Wolff = true
moves Observe = false
moves Grow = true

-- couplings, a temperature and cuts
abbrev pub draws_bonds : Mode → Bool
draws_bonds mode = is_drawn mode

-- choices are flips, or in the modes that permute permutations
abbrev pub flips_by : Mode → Form → Bool
flips_by mode form = is_sw form && not (is_perm mode)

abbrev pub perms_by : Mode → Form → Bool
perms_by mode form = moves form && is_perm mode

abbrev pub choices_by : Mode → Form → Bool
choices_by mode form = flips_by mode form || perms_by mode form

-- grey numbers
abbrev pub greys_by : Mode → Form → Bool
greys_by mode form = moves form && is_cmr mode

abbrev pub grey_labels_by : Mode → Form → Bool
grey_labels_by mode form = labels_by form && greys_by mode form

-- totals: to observe moves nothing, and keeps none
abbrev pub keeps_by : Keeps → Form → Bool
keeps_by Nothing form = false
keeps_by Totals form = moves form

abbrev pub takes_cuts : Call → Bool
takes_cuts c = draws_bonds c.mode

abbrev pub takes_flips : Call → Bool
takes_flips c = flips_by c.mode c.form

abbrev pub takes_perms : Call → Bool
takes_perms c = perms_by c.mode c.form

abbrev pub takes_choices : Call → Bool
takes_choices c = choices_by c.mode c.form

abbrev pub takes_greys : Call → Bool
takes_greys c = greys_by c.mode c.form

abbrev pub takes_grey_labels : Call → Bool
takes_grey_labels c = grey_labels_by c.mode c.form

abbrev pub takes_reference : Call → Bool
takes_reference c = is_gperm c.mode

abbrev pub takes_seed : Call → Bool
takes_seed c = one_cluster c.form

-- how many entries a buffer of choices has, and which of them is the component's with the label r
abbrev pub entries : Form → ℕ → ℕ
entries Sw n = n
entries Wolff n = 1
entries Observe n = 0
entries Grow n = 1

abbrev pub entry : Form → ℕ → ℕ
entry Sw r = r
entry Wolff r = 0
entry Observe r = 0
entry Grow r = 0

-- a flip is one byte, a permutation of m places m bytes; so many bytes hold the choices of n sites
abbrev pub choice_width : Mode → ℕ → ℕ
choice_width mode m = cond (is_perm mode) m 1

abbrev pub choice_bytes : Mode → Form → ℕ → ℕ → ℕ
choice_bytes mode form n m = entries form n * choice_width mode m
