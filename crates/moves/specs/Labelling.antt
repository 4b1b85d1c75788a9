-- What the label step of a task asks and what it leaves, and its second half, which takes the held components out of the sizes.
use Rattle.std.specs.Prelude.{ℕ, ◌+◌, ◌*◌, ◌≤◌, ◌<◌, ◌≡◌, Bool, true, false, cond, ◌&&◌, List, [], length, get_or, ℤ, Float}
use Rattle.paper.specs.declared.Task.{Task}
use Rattle.paper.specs.Answer.Cases.{Answer, Answer.Refused, Answer.Idle, Answer.Held, Answer.Moved}
use Rattle.paper.specs.Panel.Input.{Call, pattern, size}
use Rattle.paper.specs.Panel.Made.{call_of}
use Rattle.paper.specs.Panel.Takes.{is_cmr, one_cluster, moves, greys_by, takes_greys}
use Rattle.paper.specs.Site.Acting.{acts, SomeActs, NoneActs}
use Rattle.paper.specs.Component.Labels.{Numbered}
use Rattle.paper.specs.Component.Sizes.{label_of, Sized}
use Rattle.paper.specs.Component.Marks.{Flags, marked}
use Rattle.paper.specs.Move.Moving.{has_one}
use Rattle.paper.specs.Refusal.Rules.{When}
use Rattle.paper.specs.Answer.Move.{SeenAll, SeedHeld}
use Rattle.columns.specs.Column.{Columns}
use Rattle.label.specs.Contract.{graph_of}
use Rattle.choose.specs.Chosen.{is_one, Freed}
use Rattle.moves.specs.Tested.{Tested}
use Rattle.moves.specs.Steps.{ColumnsOf, LabelAsks}
use Rattle.moves.specs.Leaves.{Beside}

-- ---- the grey components of CMR
-- the areas that they fill
pub record GreyAreas (n : ℕ) (grey_labels greyTally grey_found : List ℕ) : Type 0 where
  pub labels_long : length grey_labels ≡ n
  pub tally_long : length greyTally ≡ n
  pub found_long : length grey_found ≡ 1

-- with the table of grey bonds
pub record GreysLent (t : Task) (fwd grey grey_labels greyTally grey_found : List ℕ) : Type 0 where
  pub d_high : t.d ≤ 4
  pub fwd_long : length fwd ≡ t.n * t.d
  pub ahead_lt : (i e : ℕ) → i < t.n → e < t.d → get_or fwd (i * t.d + e) 0 < t.n
  pub grey_long : length grey ≡ t.n * t.d
  pub lent : GreyAreas t.n grey_labels greyTally grey_found

pub record GreysAsk (t : Task) (fwd pins grey grey_labels greyTally grey_found : List ℕ) : Type 0 where
  pub n_high : t.n ≤ 4096
  pub pins_long : length pins ≡ t.n
  pub greys : is_cmr t.mode ≡ true → GreysLent t fwd grey grey_labels greyTally grey_found

-- where they are taken they are labelled, and of their sizes those of held components are 0; else the lists stay
pub record GreysLeave (taken : Bool) (t : Task) (fwd pins grey lent lentFound grey_labels greyTally grey_found : List ℕ) : Type 0 where
  pub labels : taken ≡ true → Numbered (graph_of t.n t.d fwd) (marked t.d grey) grey_labels grey_found
  pub freed : taken ≡ true → Freed pins grey_labels greyTally
  pub kept : taken ≡ false → grey_labels ≡ lent
  pub found_kept : taken ≡ false → grey_found ≡ lentFound

-- ---- free: the held components leave the sizes. Of the labels it needs a key for each site, below n
pub record FreeAsks (t : Task) (fwd pins grey labels tally grey_labels greyTally grey_found : List ℕ) : Type 0 where
  pub n_high : t.n ≤ 4096
  pub pins_long : length pins ≡ t.n
  pub labels_long : length labels ≡ t.n
  pub below : (i : ℕ) → i < t.n → get_or labels i 0 < t.n
  pub tallied : Sized labels tally
  pub seeded : one_cluster t.form ≡ true → t.seed < t.n
  pub greys : greys_by t.mode t.form ≡ true → GreysLent t fwd grey grey_labels greyTally grey_found

-- whether the one component that the form moves is held
abbrev pub held_seed : Task → List ℕ → List ℕ → Bool
held_seed t pins labels = one_cluster t.form && has_one (is_one pins) labels (label_of labels t.seed)

pub record FreeLeaves
    (t : Task) (some : Bool) (fwd pins grey labels lent lentFound tally grey_labels greyTally grey_found : List ℕ) (r : Answer)
    : Type 0 where
  pub answer : r ≡ cond some (cond (held_seed t pins labels) Held Moved) Idle
  pub freed : some ≡ true → moves t.form ≡ true → Freed pins labels tally
  pub greys : GreysLeave (some && greys_by t.mode t.form) t fwd pins grey lent lentFound grey_labels greyTally grey_found

-- ---- the label step
pub record TaskAsks
    (t : Task) (fwd pins : List ℕ) (couplings : List ℤ) (cuts : List Float)
    (cols flags holding grey tally greyTally labels grey_labels counts sizes found grey_found : List ℕ)
    : Type 0 where
  pub label : LabelAsks t fwd couplings cuts cols flags holding grey tally labels counts sizes found
  pub pins_long : length pins ≡ t.n
  pub seeded : one_cluster t.form ≡ true → t.seed < t.n
  pub greys : greys_by t.mode t.form ≡ true → GreyAreas t.n grey_labels greyTally grey_found

-- some site acts, and the one component that the form would move is held; is not held
pub record SomeHeld (c : Call) (xs : List ℤ) : Type 0 where
  pub some : SomeActs c xs
  pub one : one_cluster c.form ≡ true
  pub held : SeedHeld c xs

pub record SomeFree (c : Call) (xs : List ℤ) : Type 0 where
  pub some : SomeActs c xs
  pub free : When (one_cluster c.form) (SeedHeld c xs → ⊥)

-- what an answer to a tested task says of its rows
abbrev pub Foretells : Call → List ℤ → Answer → Type 0
Foretells c xs (Refused r) = ⊥
Foretells c xs Idle = NoneActs c xs
Foretells c xs Held = SomeHeld c xs
Foretells c xs Moved = SomeFree c xs

-- the sites that act, the answer, all outputs beside the spins, and where the form moves the sizes of the components that are not held
pub record TaskLeaves (c : Call) (xs : List ℤ) (cols : List ℕ) (b : Beside) (flags tally greyTally : List ℕ) (b' : Beside) (a : Answer) : Type 0 where
  pub columns : Columns c.lattice.n (size c) (pattern c xs) cols
  pub acting : Flags c.lattice.n (acts c xs) flags
  pub says : Foretells c xs a
  pub seen : (members : List ℕ) → SeenAll c (b xs members) (b' xs members)
  pub freed : SomeActs c xs → moves c.form ≡ true → Freed c.pins (b' xs []).labels tally
  pub grey_freed : takes_greys c ≡ true → Freed c.pins (b' xs []).grey_labels greyTally

-- for any rows that have these columns
abbrev pub TaskFor :
    Task → List ℕ → List ℕ → List ℤ → List Float → List ℕ → Beside → List ℕ → List ℕ → List ℕ → Beside → Answer → Type 0
TaskFor t fwd pins couplings cuts cols b flags tally greyTally b' a =
    (bwd : List ℕ) (xs : List ℤ) → Tested t.mode t.n t.d fwd t.group xs → ColumnsOf t xs cols
    → TaskLeaves (call_of t fwd bwd pins couplings cuts) xs cols b flags tally greyTally b' a
