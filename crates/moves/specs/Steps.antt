-- What the parts of a task on columns ask and what they leave: hold, label, choose.
use Rattle.std.specs.Prelude.{ℕ, ◌+◌, ◌*◌, ◌^◌, ◌≤◌, ◌<◌, ◌≡◌, Bool, true, cond, ◌&&◌, List, length, get_or, ℤ, Float}
use Rattle.lemmas.specs.Tells.{Tells}
use Rattle.paper.specs.declared.Task.{Task}
use Rattle.paper.specs.declared.Mode.{Mode}
use Rattle.paper.specs.declared.Sampler.{Sampler}
use Rattle.paper.specs.Panel.Input.{Call, pattern, pattern_of, graph, size}
use Rattle.paper.specs.Panel.Made.{call_of}
use Rattle.paper.specs.Panel.Takes.{is_perm, is_gperm, is_cmr, is_drawn, one_cluster, moves, entries, flips_by}
use Rattle.paper.specs.Site.Acting.{acts, SomeActs}
use Rattle.paper.specs.Site.Bonds.{sampler_of, holds, holds_grey}
use Rattle.paper.specs.Component.Labels.{Numbered}
use Rattle.paper.specs.Component.Sizes.{label_of, Sized, Counted, Largest}
use Rattle.paper.specs.Component.Marks.{Flags, Marks}
use Rattle.paper.specs.Move.Moving.{grey_at}
use Rattle.columns.specs.Column.{Columns}
use Rattle.columns.specs.Gauge.{gauge_of}
use Rattle.bonds.specs.Table as table
use Rattle.bonds.specs.Table.{Coupled, ActiveIn, both_acting, jorg_at, blue_at}
use Rattle.choose.specs.Chosen.{Becomes, Freed, reached_at, greyed}
use Rattle.column_rules.specs.Acted.{choice_column}
use Rattle.moves.specs.Tested.{Tested}

-- the group's rows in xs have these columns
abbrev pub ColumnsOf : Task → List ℤ → List ℕ → Type 0
ColumnsOf t xs cols = Columns t.n t.group.len (pattern_of t.n t.group xs) cols

-- ---- hold: the tables of bonds. The grey one is worked out where CMR moves
-- the bonds that hold, worked out on marks of acting sites and on columns; in CMR the blue ones
abbrev pub held_at : Mode → ℕ → List ℕ → List ℤ → List Float → ℕ → Sampler → List ℕ → List ℕ → ℕ → ℕ → Bool
held_at mode d fwd couplings cuts m s flags cols i e =
    cond (is_cmr mode) (blue_at d fwd couplings cuts s cols i e)
    (cond (is_drawn mode) (jorg_at d fwd couplings cuts m s flags cols i e) (both_acting d fwd flags i e))

pub record HoldAsks (t : Task) (fwd : List ℕ) (couplings : List ℤ) (cuts : List Float) (flags cols holding grey : List ℕ) : Type 0 where
  pub active : ActiveIn t.n t.d fwd flags holding
  pub coupled : is_drawn t.mode ≡ true → Coupled t.n t.d couplings cuts
  pub size_low : 2 ≤ t.group.len
  pub size_high : t.group.len ≤ 8
  pub cols_long : length cols ≡ t.n
  pub grey_long : length grey ≡ t.n * t.d

pub record HoldLeaves (t : Task) (fwd : List ℕ) (couplings : List ℤ) (cuts : List Float) (flags cols holding grey : List ℕ) : Type 0 where
  pub held : Marks t.n t.d (held_at t.mode t.d fwd couplings cuts t.group.len (sampler_of t.temperature) flags cols) holding
  pub grey_held :
      is_cmr t.mode ≡ true → moves t.form ≡ true → Marks t.n t.d (table.grey_at t.d fwd couplings cuts (sampler_of t.temperature) cols) grey
  pub grey_long : length grey ≡ t.n * t.d

-- ---- label: from columns to labels, counts, sizes, and how many components there are
-- the areas that it fills
pub record LabelAreas (n d : ℕ) (flags holding grey tally labels counts sizes found : List ℕ) : Type 0 where
  pub flags_long : length flags ≡ n
  pub holding_long : length holding ≡ n * d
  pub grey_long : length grey ≡ n * d
  pub tally_long : length tally ≡ n
  pub labels_long : length labels ≡ n
  pub counts_long : length counts ≡ n + 1
  pub sizes_long : length sizes ≡ 4
  pub found_long : length found ≡ 1

-- the columns are of some rows that are tested
pub record LabelAsks
    (t : Task) (fwd : List ℕ) (couplings : List ℤ) (cuts : List Float) (cols flags holding grey tally labels counts sizes found : List ℕ)
    : Type 0 where
  pub rows : List ℤ
  pub tested : Tested t.mode t.n t.d fwd t.group rows
  pub columns : ColumnsOf t rows cols
  pub reference : is_gperm t.mode ≡ true → t.reference < t.n
  pub coupled : is_drawn t.mode ≡ true → Coupled t.n t.d couplings cuts
  pub lent : LabelAreas t.n t.d flags holding grey tally labels counts sizes found

pub record LabelLeaves (c : Call) (xs : List ℤ) (cols flags grey tally labels counts sizes found : List ℕ) (r : Bool) : Type 0 where
  pub columns : Columns c.lattice.n (size c) (pattern c xs) cols
  pub acting : Flags c.lattice.n (acts c xs) flags
  pub some : Tells r (SomeActs c xs)
  pub labelled : Numbered (graph c) (holds c xs) labels found
  pub grey_held : is_cmr c.mode ≡ true → moves c.form ≡ true → Marks c.lattice.n c.lattice.d (holds_grey c xs) grey
  pub grey_long : length grey ≡ c.lattice.n * c.lattice.d
  pub tallied : Sized labels tally
  pub counted : Counted (acts c xs) labels counts
  pub largest : Largest (acts c xs) labels sizes

-- for any rows that have these columns
abbrev pub LabelsFor :
    Task → List ℕ → List ℤ → List Float → List ℕ → List ℕ → List ℕ → List ℕ → List ℕ → List ℕ → List ℕ → List ℕ → Bool → Type 0
LabelsFor t fwd couplings cuts cols flags grey tally labels counts sizes found r =
    (bwd pins : List ℕ) (xs : List ℤ) → Tested t.mode t.n t.d fwd t.group xs → ColumnsOf t xs cols
    → LabelLeaves (call_of t fwd bwd pins couplings cuts) xs cols flags grey tally labels counts sizes found r

-- the seed has a label, and that a size
pub record SeedAsks (seed : ℕ) (labels tally : List ℕ) : Type 0 where
  pub site : seed < length labels
  pub below : get_or labels seed 0 < length tally

-- ---- choose: the new columns. Of the labels it needs a key for each site, below n, and how many sites have it
pub record Choosable (t : Task) (flags labels choices reached cols : List ℕ) : Type 0 where
  pub few : length cols ≤ 4096
  pub flags_long : length flags ≡ length cols
  pub labels_long : length labels ≡ length cols
  pub reached_long : length reached ≡ length cols
  pub below : (i : ℕ) → i < length cols → get_or labels i 0 < length cols
  pub seeded : one_cluster t.form ≡ true → t.seed < length cols
  pub reference : is_gperm t.mode ≡ true → t.reference < length cols
  pub moving : moves t.form ≡ true
  pub size_low : 1 ≤ t.group.len
  pub size_high : t.group.len ≤ 8
  pub flips_long : flips_by t.mode t.form ≡ true → length choices ≡ length cols
  pub perms_long : is_perm t.mode ≡ true → length choices ≡ entries t.form (length cols) * t.group.len
  pub places : is_perm t.mode ≡ true → (x : ℕ) → x < length choices → get_or choices x 0 < t.group.len
  pub narrow : (i : ℕ) → i < length cols → get_or cols i 0 < 2 ^ t.group.len

-- what CMR's grey half is lent: keys of their own, with sizes from which the same pins' components were taken
pub record Greyable (t : Task) (pins greys grey_labels greyTally cols : List ℕ) : Type 0 where
  pub greys_long : length greys ≡ entries t.form (length cols)
  pub small : (x : ℕ) → x < length greys → get_or greys x 0 ≤ 3
  pub labels_long : length grey_labels ≡ length cols
  pub below : (i : ℕ) → i < length cols → get_or grey_labels i 0 < length cols
  pub tallied : Freed pins grey_labels greyTally
  pub two : t.group.len ≡ 2

-- with sizes from which the held components were taken
pub record ColumnsAsks (t : Task) (flags labels tally choices reached cols : List ℕ) : Type 0 where
  pub choosable : Choosable t flags labels choices reached cols
  pub pins : List ℕ
  pub tallied : Freed pins labels tally

pub record ChooseAsks (t : Task) (choices greys flags labels tally grey_labels greyTally reached cols : List ℕ) : Type 0 where
  pub choosable : Choosable t flags labels choices reached cols
  pub pins : List ℕ
  pub tallied : Freed pins labels tally
  pub greyable : is_cmr t.mode ≡ true → Greyable t pins greys grey_labels greyTally cols

-- the new column of the site i from the choice of its component
abbrev pub column_chosen_at : Task → List ℕ → List ℕ → List ℕ → List ℕ → List ℕ → ℕ → ℕ
column_chosen_at t pins flags labels choices cols i =
    cond (reached_at t.form t.mode t.seed pins flags labels i)
    (choice_column t.mode t.form t.group.len (gauge_of t.mode t.group.len (get_or cols t.reference 0)) choices (label_of labels i)
    (get_or cols i 0))
    (get_or cols i 0)

-- for the pins by which the components were taken from the sizes
abbrev pub ColumnsLeave : Task → List ℕ → List ℕ → List ℕ → List ℕ → List ℕ → List ℕ → Type 0
ColumnsLeave t flags labels tally choices cols new = (pins : List ℕ) → Freed pins labels tally → Becomes (column_chosen_at t pins flags labels choices cols) cols new

-- and in CMR then from the grey number of its grey component
abbrev pub final_at : Task → List ℕ → List ℕ → List ℕ → List ℕ → List ℕ → List ℕ → List ℕ → ℕ → ℕ
final_at t pins flags labels grey_labels choices greys cols i =
    cond (is_cmr t.mode && reached_at t.form t.mode t.seed pins flags grey_labels i)
    (greyed (grey_at t.form greys (label_of grey_labels i)) (column_chosen_at t pins flags labels choices cols i))
    (column_chosen_at t pins flags labels choices cols i)

-- for the pins by which the components were taken from both lists of sizes
abbrev pub ChooseLeaves : Task → List ℕ → List ℕ → List ℕ → List ℕ → List ℕ → List ℕ → List ℕ → List ℕ → List ℕ → Type 0
ChooseLeaves t choices greys flags labels tally grey_labels greyTally cols new =
    (pins : List ℕ) → Freed pins labels tally → (is_cmr t.mode ≡ true → Freed pins grey_labels greyTally)
    → Becomes (final_at t pins flags labels grey_labels choices greys cols) cols new
