-- A look at a panel: what the mode sees of the group at each site, and which sites act.
use Rattle.std.specs.Prelude.{ℕ, ◌^◌, ◌≤◌, ◌<◌, ◌≡◌, refl, Bool, true, false, List, eqb, length, get_or, ℤ}
use Rattle.std.proofs.Common.{sym, ap, subst, ◌∙◌}
use Rattle.std.specs.Int.Bits.{bit_xor}
use Rattle.lemmas.specs.Counts.{bit}
use Rattle.lemmas.specs.Tells.{Tells}
use Rattle.paper.specs.declared.Group.{Group}
use Rattle.paper.specs.declared.Mode.{Mode}
use Rattle.paper.specs.Panel.Input.{Call, Pattern, pattern_of, size}
use Rattle.paper.specs.Panel.Takes.{is_gperm}
use Rattle.paper.specs.Site.Acting.{gauge, test_by, acts, SomeActs, NoneActs}
use Rattle.paper.specs.Component.Marks.{Flags}
use Rattle.paper.specs.Refusal.Rules.{Spin}
use Rattle.columns.specs.Column.{shown, column_of, column_lt, Inside, Spinning, Columns}
use Rattle.columns.specs.Gauge.{gauge_of, gauge_column}
use Rattle.column_rules.specs.Laws.{SomeSite, none_passes, gauge_spin, test_column}

-- the group's pattern at the site i as the mode sees it, with the reference site q
abbrev pub seen_by : Mode → ℕ → Group → ℕ → List ℤ → ℕ → Pattern
seen_by mode n g q xs i = gauge mode (pattern_of n g xs q) (pattern_of n g xs i)

abbrev pub seen_at : Call → List ℤ → ℕ → Pattern
seen_at c = seen_by c.mode c.lattice.n c.group c.reference

-- whether a site acts where the site i has the pattern f i
abbrev pub acts_by : Mode → ℕ → ℕ → (ℕ → Pattern) → ℕ → Bool
acts_by mode m q f i = test_by mode m (gauge mode (f q) (f i))

-- and on the group's rows
abbrev pub acts_at : Mode → ℕ → Group → ℕ → List ℤ → ℕ → Bool
acts_at mode n g q xs = acts_by mode g.len q (pattern_of n g xs)

-- ---- a look at columns

-- the sites have the patterns f of m spins, of which these are the columns
pub record Shows (m : ℕ) (cols : List ℕ) (f : ℕ → Pattern) : Type 0 where
  pub columns : Columns (length cols) m f cols
  pub spins : (i k : ℕ) → i < length cols → k < m → Spin (f i k)

-- what it asks: columns of the group's size, a mark for each, and a reference site where one is taken
pub record Lookable (mode : Mode) (g : Group) (q : ℕ) (cols flags : List ℕ) : Type 0 where
  pub size_low : 1 ≤ g.len
  pub size_high : g.len ≤ 8
  pub narrow : (i : ℕ) → i < length cols → get_or cols i 0 < 2 ^ g.len
  pub reference : is_gperm mode ≡ true → q < length cols
  pub flags_long : length flags ≡ length cols

-- what it leaves, for the patterns that the columns show
pub record Looks (mode : Mode) (m q : ℕ) (cols flags : List ℕ) (r : Bool) : Type 0 where
  pub flagged : (f : ℕ → Pattern) → Shows m cols f → Flags (length cols) (acts_by mode m q f) flags
  pub some : (f : ℕ → Pattern) → Shows m cols f → Tells r (SomeSite (length cols) (acts_by mode m q f))

-- ---- a look at rows

-- what a look asks: the group's rows of spins, and a reference site where one is taken
pub record Sighted (mode : Mode) (n : ℕ) (g : Group) (q : ℕ) (xs : List ℤ) : Type 0 where
  pub n_high : n ≤ 4096
  pub size_low : 1 ≤ g.len
  pub size_high : g.len ≤ 8
  pub inside : Inside n g xs
  pub spins : Spinning n g xs
  pub reference : is_gperm mode ≡ true → q < n

-- of one site
pub record SightedAt (mode : Mode) (n : ℕ) (g : Group) (q : ℕ) (xs : List ℤ) (i : ℕ) : Type 0 where
  pub panel : Sighted mode n g q xs
  pub below : i < n

-- of all sites, with a byte for each column and for each mark
pub record Seeable (mode : Mode) (n : ℕ) (g : Group) (q : ℕ) (xs : List ℤ) (cols flags : List ℕ) : Type 0 where
  pub panel : Sighted mode n g q xs
  pub cols_long : length cols ≡ n
  pub flags_long : length flags ≡ n

-- what it leaves
pub record Sights (mode : Mode) (n : ℕ) (g : Group) (q : ℕ) (xs : List ℤ) (cols flags : List ℕ) (r : Bool) : Type 0 where
  pub columns : Columns n g.len (pattern_of n g xs) cols
  pub flagged : Flags n (acts_at mode n g q xs) flags
  pub some : Tells r (SomeSite n (acts_at mode n g q xs))

-- a look at the columns of rows is a look at the rows
module _
    {mode : Mode} {n : ℕ} {g : Group} {q : ℕ} {xs : List ℤ} {cols : List ℕ} (p : Sighted mode n g q xs)
    (w : Columns n g.len (pattern_of n g xs) cols)
  where
    rows_show : Shows g.len cols (pattern_of n g xs)
    rows_show = record {
      columns = record { long = refl; at = λ i h. w.at i (rw w.long at h) };
      spins = λ i k h l. p.spins i k (rw w.long at h) l;
    }

    pub rows_look : {flags : List ℕ} → length flags ≡ n → Lookable mode g q cols flags
    rows_look long = record {
      size_low = p.size_low;
      size_high = p.size_high;
      narrow = λ i h. rw (w.at i (rw w.long at h)) (column_lt g.len (pattern_of n g xs i));
      reference = λ e. rw w.long (p.reference e);
      flags_long = long ∙ sym w.long;
    }

    pub look_sights : {flags : List ℕ} {r : Bool} → Looks mode g.len q cols flags r → Sights mode n g q xs cols flags r
    look_sights {flags} {r} l = record {
      columns = w;
      flagged = subst (λ (x : ℕ). Flags x (acts_at mode n g q xs) flags) w.long (l.flagged _ rows_show);
      some = subst (λ (x : ℕ). Tells r (SomeSite x (acts_at mode n g q xs))) w.long (l.some _ rows_show);
    }

module _ (mode : Mode) (n : ℕ) (g : Group) (q : ℕ) (xs : List ℤ) (spins : Spinning n g xs) (reference : is_gperm mode ≡ true → q < n) where
  pub seen_spin : (i k : ℕ) → i < n → k < g.len → Spin (seen_by mode n g q xs i k)
  seen_spin i k hi hk = gauge_spin mode (pattern_of n g xs q) (pattern_of n g xs i) k (λ e. spins q k (reference e) hk) (spins i k hi hk)

-- a site's column, seen through the gauge of the reference site, acts just if the site does
module _ {mode : Mode} {n : ℕ} {g : Group} {q : ℕ} {xs : List ℤ} (p : Sighted mode n g q xs) {i column gauge : ℕ} (below : i < n) where
  pub column_acts_lem :
      column ≡ column_of g.len (pattern_of n g xs i) → gauge ≡ gauge_of mode g.len (column_of g.len (pattern_of n g xs q))
      → test_by mode g.len (shown (bit_xor column gauge)) ≡ acts_at mode n g q xs i
  column_acts_lem ec eg =
      (λ j. test_by mode g.len (shown (bit_xor (ec j) (eg j))))
      ∙ (ap (λ (x : ℕ). test_by mode g.len (shown x)) (gauge_column mode g.len (pattern_of n g xs q) (pattern_of n g xs i) at_reference here)
      ∙ test_column mode g.len (seen_by mode n g q xs i) (λ k h. seen_spin mode n g q xs p.spins p.reference i k below h) p.size_low)
    where
      at_reference : is_gperm mode ≡ true → (k : ℕ) → k < g.len → Spin (pattern_of n g xs q k)
      at_reference e k h = p.spins q k (p.reference e) h

      here : (k : ℕ) → k < g.len → Spin (pattern_of n g xs i k)
      here k h = p.spins i k below h

-- the same flags are those of the call's acting sites
pub acts_flags : (c : Call) (xs : List ℤ) (flags : List ℕ) → Flags c.lattice.n (λ i. test_by c.mode (size c) (seen_at c xs i)) flags
    → Flags c.lattice.n (acts c xs) flags
unfolding acts
acts_flags c xs flags h = record { long = h.long; at = h.at }

pub some_site : (c : Call) (xs : List ℤ) → SomeActs c xs → SomeSite c.lattice.n (λ i. test_by c.mode (size c) (seen_at c xs i))
unfolding acts
some_site c xs s = record { site = s.site; below = s.below; does = s.does }

pub some_acts : (c : Call) (xs : List ℤ) → SomeSite c.lattice.n (λ i. test_by c.mode (size c) (seen_at c xs i)) → SomeActs c xs
unfolding acts
some_acts c xs s = record { site = s.site; below = s.below; does = s.does }

-- what a test tells of the sites' patterns it tells of the call's acting sites
pub acts_tells : (c : Call) (xs : List ℤ) (r : Bool) → Tells r (SomeSite c.lattice.n (λ i. test_by c.mode (size c) (seen_at c xs i)))
    → Tells r (SomeActs c xs)
acts_tells c xs true h = some_acts c xs h
acts_tells c xs false h = λ s. h (some_site c xs s)

pub none_acts : (c : Call) (xs : List ℤ) → (SomeActs c xs → ⊥) → NoneActs c xs
unfolding acts
none_acts c xs s = none_passes c.lattice.n (λ i. test_by c.mode (size c) (seen_at c xs i)) (λ h. s (some_acts c xs h))

-- a flag read back
pub flag_is : (t : Bool) → eqb (bit t) 1 ≡ t
flag_is true = refl
flag_is false = refl

pub flag_at : (n : ℕ) (f : ℕ → Bool) (xs : List ℕ) → Flags n f xs → (i : ℕ) → i < n → eqb (get_or xs i 0) 1 ≡ f i
flag_at n f xs h i l = ap (λ (x : ℕ). eqb x 1) (h.at i l) ∙ flag_is (f i)
