-- The rules on the column of a pattern are the rules on the pattern.
use Rattle.std.specs.Prelude.{ℕ, ◌*◌, ◌/◌, ◌<◌, ◌≡◌, refl, Bool, true, false, cond, List, ltb, get_or, ℤ, neg_ℤ}
use Rattle.std.proofs.Common.{sym, ◌∙◌, ap, subst, arith}
use Rattle.std.specs.Int.Bits.{bit_xor}
use Rattle.lemmas.specs.Counts.{bit}
use Rattle.lemmas.specs.Tells.{Tells}
use Rattle.paper.specs.declared.Mode.{Mode}
use Rattle.paper.specs.declared.Mode.TheVariants.{Houd, Pair, Perm, Gperm, Jorg, Cmr}
use Rattle.paper.specs.Panel.Input.{Pattern}
use Rattle.paper.specs.Panel.Takes.{is_gperm}
use Rattle.paper.specs.Site.Acting.{gauge, test_by}
use Rattle.paper.specs.Component.Marks.{Flags}
use Rattle.paper.specs.Move.Moving.{partner}
use Rattle.paper.specs.Refusal.Rules.{Spin}
use Rattle.laws.specs.Patterns.{times_spin, Spinning}
use Rattle.laws.specs.Partners.{partner_lt}
use Rattle.laws.specs.Acting.{test_ext}
use Rattle.columns.specs.Column.{shown, column_of, flipped, Columns, shown_column, column_ext, column_lt}
use Rattle.columns.specs.Gauge.{gauge_of, gauge_column}
use Rattle.column_rules.specs.Tables.{Table, acts_entry, SomeMarked, Looked}

-- a flip reads the first m places alone
pub flipped_ext : (mode : Mode) (m : ℕ) (f g : Pattern) → ((k : ℕ) → k < m → f k ≡ g k) → (k : ℕ) → k < m → flipped mode m f k ≡ flipped mode m g k
flipped_ext Houd m f g e k h = ap (λ (z : ℤ). cond (ltb k (2 * (m / 2))) (neg_ℤ z) z) (e k h)
flipped_ext Pair m f g e k h = e (partner m k) (partner_lt m k h)
flipped_ext Perm m f g e k h = e k h
flipped_ext Gperm m f g e k h = e k h
flipped_ext Jorg m f g e k h = e (partner m k) (partner_lt m k h)
flipped_ext Cmr m f g e k h = ap neg_ℤ (e k h)

-- a gauged spin is a spin
pub gauge_spin : (m : Mode) (P f : Pattern) (k : ℕ) → (is_gperm m ≡ true → Spin (P k)) → Spin (f k) → Spin (gauge m P f k)
gauge_spin Houd P f k sp s = s
gauge_spin Pair P f k sp s = s
gauge_spin Perm P f k sp s = s
gauge_spin Gperm P f k sp s = times_spin (P k) (f k) (sp refl) s
gauge_spin Jorg P f k sp s = s
gauge_spin Cmr P f k sp s = s

module _ (mode : Mode) (m : ℕ) (f : Pattern) (spins : Spinning m f) where
  pub test_column : 0 < m → test_by mode m (shown (column_of m f)) ≡ test_by mode m f
  test_column z = test_ext mode m (shown (column_of m f)) f z (λ k h. shown_column m f k h (spins k h))

  pub flip_column : (k : ℕ) → k < m → flipped mode m (shown (column_of m f)) k ≡ flipped mode m f k
  flip_column = flipped_ext mode m (shown (column_of m f)) f (λ k h. shown_column m f k h (spins k h))

  -- so the flipped column is the column of the flipped pattern
  pub flipped_column : column_of m (flipped mode m (shown (column_of m f))) ≡ column_of m (flipped mode m f)
  flipped_column = column_ext m (flipped mode m (shown (column_of m f))) (flipped mode m f) flip_column

-- ---- from the table of acting columns and a panel's columns to the sites: site i has the pattern f i
-- some site passes the test t
pub record SomeSite (n : ℕ) (t : ℕ → Bool) : Type 0 where
  pub site : ℕ
  pub below : site < n
  pub does : t site ≡ true

on : (b : Bool) → bit b ≡ 1 → b ≡ true
on true e = refl
on false e = absurd (omega arith)

off : (b : Bool) → (b ≡ true → ⊥) → b ≡ false
off true e = absurd (e refl)
off false e = refl

module _ (n : ℕ) (t : ℕ → Bool) (acts : List ℕ) (flags : Flags n t acts) where
  some_site : SomeMarked n acts → SomeSite n t
  some_site m = record { site = m.site; below = m.below; does = on (t m.site) (sym (flags.at m.site m.below) ∙ m.is) }

  some_marked : SomeSite n t → SomeMarked n acts
  some_marked s = record { site = s.site; below = s.below; is = flags.at s.site s.below ∙ ap bit s.does }

  -- what a test tells of the bytes, it tells of the sites
  pub flags_tell : (r : Bool) → Tells r (SomeMarked n acts) → Tells r (SomeSite n t)
  flags_tell true m = some_site m
  flags_tell false m = λ s. m (some_marked s)

-- and where it says no, no site passes
pub none_passes : (n : ℕ) (t : ℕ → Bool) → (SomeSite n t → ⊥) → (i : ℕ) → i < n → t i ≡ false
none_passes n t h i l = off (t i) (λ e. h (record { site = i; below = l; does = e }))

-- site i has the pattern f i, and P is that of the reference site
module _
    (mode : Mode) (m n : ℕ) (P : Pattern) (f : ℕ → Pattern) (some : 0 < m)
    (reference : is_gperm mode ≡ true → Spinning m P) (spins : (i : ℕ) → i < n → Spinning m (f i))
  where
    abbrev pub site_acts : ℕ → Bool
    site_acts i = test_by mode m (gauge mode P (f i))

    module _
        {t cols acts : List ℕ} {g : ℕ} {r : Bool} (rule : Table m (acts_entry mode m) t) (panel : Columns n m f cols)
        (gauged : g ≡ gauge_of mode m (column_of m P)) (looked : Looked t g cols acts r)
      where
        seen : (i : ℕ) → i < n → bit_xor (get_or cols i 0) g ≡ column_of m (gauge mode P (f i))
        seen i h = rw (panel.at i h, gauged) (gauge_column mode m P (f i) reference (spins i h))

        entry : (i : ℕ) → i < n → get_or t (column_of m (gauge mode P (f i))) 0 ≡ bit (site_acts i)
        entry i h =
            rule.at (column_of m (gauge mode P (f i))) (column_lt m (gauge mode P (f i)))
            ∙ ap bit (test_column mode m (gauge mode P (f i)) (λ k l. gauge_spin mode P (f i) k (λ e. reference e k l) (spins i h k l)) some)

        byte : (i : ℕ) → i < n → get_or acts i 0 ≡ bit (site_acts i)
        byte i h = looked.at i (omega (arith, panel.long)) ∙ (ap (λ (x : ℕ). get_or t x 0) (seen i h) ∙ entry i h)

        pub looked_flags : Flags n site_acts acts
        looked_flags = record { long = looked.long ∙ panel.long; at = byte }

        pub looked_tells : Tells r (SomeSite n site_acts)
        looked_tells = flags_tell n site_acts acts looked_flags r (subst (λ (x : ℕ). Tells r (SomeMarked x acts)) panel.long looked.tells)
