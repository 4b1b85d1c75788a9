-- From the tables of bonds to labels: a table that was worked out on columns marks the bonds that hold.
use Rattle.std.specs.Prelude.{ℕ, ◌*◌, ◌<◌, ◌≡◌, refl, Bool, true, false, List, length, get_or, set, ℤ, Float}
use Rattle.std.proofs.Common.{sym, ◌∙◌, arith, length-set, get_or-set_same}
use Rattle.std.proofs.Math.Path.{ap}
use Rattle.lemmas.specs.Counts.{bit}
use Rattle.lemmas.specs.Bools.{never}
use Rattle.paper.specs.declared.Task.{Task}
use Rattle.paper.specs.declared.Mode.{Mode}
use Rattle.paper.specs.declared.Mode.TheVariants.{Houd, Pair, Perm, Gperm, Jorg, Cmr}
use Rattle.paper.specs.declared.Sampler.{Sampler}
use Rattle.paper.specs.Panel.Input.{Graph, Call, pattern, size, ahead, graph}
use Rattle.paper.specs.Panel.Made.{call_of}
use Rattle.paper.specs.Panel.Takes.{is_drawn, is_cmr, moves}
use Rattle.paper.specs.Site.Acting.{acts}
use Rattle.paper.specs.Site.Bonds.{sampler_of, jorg_holds, kind_of, blue_holds, grey_holds, both_act, coupling_at, cut_at, kind_at, holds_by, holds, holds_grey}
use Rattle.paper.specs.Component.Labels.{Labels, Numbered}
use Rattle.paper.specs.Component.Marks.{Flags, Marks, marked}
use Rattle.laws.specs.Local.{Agree, kind_ext}
use Rattle.laws.specs.Unique.{labels_ext, counts_ext, sizes_ext}
use Rattle.columns.specs.Column.{shown, Columns}
use Rattle.columns.specs.Laws.{columns_shown}
use Rattle.bonds.specs.Laws.{jorg_ext}
use Rattle.bonds.specs.Table.{both_acting, jorg_at, blue_at, grey_at, CmrOut}
use Rattle.column_rules.specs.Sight.{Sights, flag_at, acts_flags, acts_tells}
use Rattle.label.specs.Contract.{is_one, Labelled, Reported}
use Rattle.moves.specs.Tested.{Tested, TestedFor}
use Rattle.moves.specs.Looked.{mark_at}
use Rattle.moves.specs.Steps.{held_at, HoldLeaves, LabelLeaves}

pub cmr_drawn : (m : Mode) → is_cmr m ≡ true → is_drawn m ≡ true
cmr_drawn Houd e = never e
cmr_drawn Pair e = never e
cmr_drawn Perm e = never e
cmr_drawn Gperm e = never e
cmr_drawn Jorg e = refl
cmr_drawn Cmr e = refl

-- ---- hold: its four ways
module _ {t : Task} {fwd : List ℕ} {couplings : List ℤ} {cuts : List Float} {flags cols holding grey : List ℕ} where
  pub cmr_leaves :
      {s : Sampler} → s ≡ sampler_of t.temperature → is_cmr t.mode ≡ true
      → CmrOut t.n t.d fwd couplings cuts s cols holding grey
      → HoldLeaves t fwd couplings cuts flags cols holding grey
  cmr_leaves q e h = record {
    held = record { long = h.blue.long; at = λ i k hi hk. rw (e, ← q) (h.blue.at i k hi hk) };
    grey_held = λ _ _. rw (← q) h.grey;
    grey_long = h.grey.long;
  }

  pub blue_leaves :
      {s : Sampler} → s ≡ sampler_of t.temperature → is_cmr t.mode ≡ true → moves t.form ≡ false → length grey ≡ t.n * t.d
      → Marks t.n t.d (blue_at t.d fwd couplings cuts s cols) holding
      → HoldLeaves t fwd couplings cuts flags cols holding grey
  blue_leaves q e rests long h = record {
    held = record { long = h.long; at = λ i k hi hk. rw (e, ← q) (h.at i k hi hk) };
    grey_held = λ _ m. never (sym rests ∙ m);
    grey_long = long;
  }

  pub drawn_leaves :
      {s : Sampler} → s ≡ sampler_of t.temperature → is_cmr t.mode ≡ false → is_drawn t.mode ≡ true → length grey ≡ t.n * t.d
      → Marks t.n t.d (jorg_at t.d fwd couplings cuts t.group.len s flags cols) holding
      → HoldLeaves t fwd couplings cuts flags cols holding grey
  drawn_leaves q e d long h = record {
    held = record { long = h.long; at = λ i k hi hk. rw (e, d) (drawn.at i k hi hk) };
    grey_held = λ w _. never (sym e ∙ w);
    grey_long = long;
  }
    where
      drawn : Marks t.n t.d (jorg_at t.d fwd couplings cuts t.group.len (sampler_of t.temperature) flags cols) holding
      drawn = rw q at h

  pub plain_leaves :
      is_cmr t.mode ≡ false → is_drawn t.mode ≡ false → length grey ≡ t.n * t.d
      → Marks t.n t.d (both_acting t.d fwd flags) holding
      → HoldLeaves t fwd couplings cuts flags cols holding grey
  plain_leaves e d long h = record {
    held = record { long = h.long; at = λ i k hi hk. rw (e, d) (h.at i k hi hk) };
    grey_held = λ w _. never (sym e ∙ w);
    grey_long = long;
  }

-- ---- the bonds of a call
module _
    (c : Call) (xs : List ℤ) (r : TestedFor c xs) (flags cols : List ℕ) (acting : Flags c.lattice.n (acts c xs) flags)
    (columns : Columns c.lattice.n (size c) (pattern c xs) cols)
  where
    both_held : (i e : ℕ) → i < c.lattice.n → e < c.lattice.d → both_acting c.lattice.d c.lattice.fwd flags i e ≡ both_act c xs i e
    both_held i e hi he =
        cc (flag_at c.lattice.n (acts c xs) flags acting i hi, flag_at c.lattice.n (acts c xs) flags acting (ahead c i e) (r.ahead_lt i e hi he))

    shows : (i : ℕ) → i < c.lattice.n → Agree (size c) (shown (get_or cols i 0)) (pattern c xs i)
    shows i hi k hk = columns_shown columns i k hi hk (r.spins i k hi hk)

    jorg_held :
        (i e : ℕ) → i < c.lattice.n → e < c.lattice.d
        → jorg_holds (coupling_at c i e) (size c) (shown (get_or cols i 0)) (shown (get_or cols (ahead c i e) 0)) (sampler_of c.temperature) (cut_at c i e)
        ≡ jorg_holds (coupling_at c i e) (size c) (pattern c xs i) (pattern c xs (ahead c i e)) (sampler_of c.temperature) (cut_at c i e)
    jorg_held i e hi he =
        jorg_ext (coupling_at c i e) (size c) _ _ (pattern c xs i) (pattern c xs (ahead c i e)) (sampler_of c.temperature) (cut_at c i e)
        (shows i hi) (shows (ahead c i e) (r.ahead_lt i e hi he))

    kind_held :
        is_cmr c.mode ≡ true → (i e : ℕ) → i < c.lattice.n → e < c.lattice.d
        → kind_of (coupling_at c i e) (shown (get_or cols i 0)) (shown (get_or cols (ahead c i e) 0)) ≡ kind_at c xs i e
    kind_held q i e hi he =
        kind_ext (coupling_at c i e) _ _ (pattern c xs i) (pattern c xs (ahead c i e)) (λ k hk. shows i hi k (omega (arith, r.two q)))
        (λ k hk. shows (ahead c i e) (r.ahead_lt i e hi he) k (omega (arith, r.two q)))

    held_in :
        (m : Mode) → (is_cmr m ≡ true → is_cmr c.mode ≡ true)
        → (i e : ℕ) → i < c.lattice.n → e < c.lattice.d
        → held_at m c.lattice.d c.lattice.fwd c.lattice.couplings c.cuts (size c) (sampler_of c.temperature) flags cols i e
        ≡ holds_by m c xs i e
    held_in Houd q i e hi he = both_held i e hi he
    held_in Pair q i e hi he = both_held i e hi he
    held_in Perm q i e hi he = both_held i e hi he
    held_in Gperm q i e hi he = both_held i e hi he
    held_in Jorg q i e hi he = cc (both_held i e hi he, jorg_held i e hi he)
    held_in Cmr q i e hi he = ap (λ x. blue_holds x (sampler_of c.temperature) (cut_at c i e)) (kind_held (q refl) i e hi he)

    -- the table of `hold` marks the bonds that hold
    pub held_labels :
        (holding l : List ℕ) {found : ℕ}
        → Marks c.lattice.n c.lattice.d
        (held_at c.mode c.lattice.d c.lattice.fwd c.lattice.couplings c.cuts (size c) (sampler_of c.temperature) flags cols) holding
        → Labels (graph c) (marked c.lattice.d holding) l found
        → Labels (graph c) (holds c xs) l found
    unfolding holds
    held_labels holding l h w =
        labels_ext (graph c) (marked c.lattice.d holding) (holds_by c.mode c xs) l
        (λ i e hi he.
        mark_at c.lattice.n c.lattice.d _ holding h i e hi he ∙ held_in c.mode (λ q. q) i e hi he) w

    -- and CMR's other table the grey ones
    pub grey_marks :
        (grey : List ℕ) → is_cmr c.mode ≡ true
        → Marks c.lattice.n c.lattice.d
        (grey_at c.lattice.d c.lattice.fwd c.lattice.couplings c.cuts (sampler_of c.temperature) cols) grey
        → Marks c.lattice.n c.lattice.d (holds_grey c xs) grey
    unfolding holds_grey
    grey_marks grey q h = record {
      long = h.long;
      at = λ i e hi he. h.at i e hi he ∙ ap (λ x. bit (grey_holds x (sampler_of c.temperature) (cut_at c i e))) (kind_held q i e hi he);
    }

-- labels of a table that marks the grey bonds
pub grey_labels_lem :
    (c : Call) (xs : List ℤ) (grey l : List ℕ) {found : List ℕ}
    → Marks c.lattice.n c.lattice.d (holds_grey c xs) grey
    → Numbered (graph c) (marked c.lattice.d grey) l found
    → Numbered (graph c) (holds_grey c xs) l found
grey_labels_lem c xs grey l h w =
    record {
      labels =
          labels_ext (graph c) (marked c.lattice.d grey) (holds_grey c xs) l
          (λ i e hi he. mark_at c.lattice.n c.lattice.d _ grey h i e hi he) w.labels;
      one = w.one;
    }

-- how many there are, stored in a list of one number
pub stored_number :
    {t : Graph} {holding : ℕ → ℕ → Bool} {l : List ℕ} {k : ℕ} (found : List ℕ) → length found ≡ 1 → Labels t holding l k
    → Numbered t holding l (set found 0 k)
stored_number {t} {holding} {l} {k} found one w = record {
  labels = rw (get_or-set_same found 0 k 0 (omega (arith, one))) w;
  one = length-set found 0 k ∙ one;
}

-- ---- label: from what its parts leave to what it leaves
module _
    {t : Task} {fwd : List ℕ} {couplings : List ℤ} {cuts : List Float} {xs : List ℤ} {cols flags holding grey tally labels counts sizes : List ℕ} {r : Bool}
    {k : ℕ} (bwd pins found : List ℕ) (h : HoldLeaves t fwd couplings cuts flags cols holding grey) (tested : Tested t.mode t.n t.d fwd t.group xs)
    (s : Sights t.mode t.n t.group t.reference xs cols flags r)
    (l : Labelled t.n t.d fwd holding labels tally k) (o : Reported (is_one flags) labels counts sizes) (one : length found ≡ 1)
  where
    abbrev c : Call
    c = call_of t fwd bwd pins couplings cuts

    acting : Flags t.n (acts c xs) flags
    acting = acts_flags c xs flags s.flagged

    -- the bytes that the components were counted by are those of the acting sites
    marks : (r : ℕ) → r < length labels → is_one flags r ≡ acts c xs r
    marks r h = flag_at t.n (acts c xs) flags acting r (rw l.labels.long at h)

    pub label_leaves : LabelLeaves c xs cols flags grey tally labels counts sizes (set found 0 k) r
    label_leaves = record {
      columns = s.columns;
      acting = acting;
      some = acts_tells c xs r s.some;
      labelled = stored_number found one (held_labels c xs tested flags cols acting s.columns holding labels h.held l.labels);
      grey_held = λ e m. grey_marks c xs tested flags cols acting s.columns grey e (h.grey_held e m);
      grey_long = h.grey_long;
      tallied = l.sized;
      counted = counts_ext labels marks o.counted;
      largest = sizes_ext labels marks o.largest;
    }
