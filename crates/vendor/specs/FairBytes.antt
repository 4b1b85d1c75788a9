-- What the bytes before and after tell of a component: some permutation fits where it is not at fault, and the least that fits is its row.
use Rattle.std.specs.Prelude.{ℕ, ◌<◌, ◌≡◌, refl, ◌⊎◌, Bool, true, false, List, length, get_or, ℤ}
use Rattle.std.proofs.Common.{sym, ◌∙◌, ap, inl, inr}
use Rattle.std.specs.Int.Bits.{bit_xor}
use Rattle.lemmas.specs.Bools.{never}
use Rattle.paper.specs.Panel.Input.{Call, Pattern, pattern, pinned, size}
use Rattle.paper.specs.Panel.Takes.{is_perm, is_gperm, takes_reference}
use Rattle.paper.specs.Site.Acting.{gauge, acts}
use Rattle.paper.specs.Component.Sizes.{label_of}
use Rattle.paper.specs.Move.Moving.{has_one}
use Rattle.paper.specs.Refusal.Rules.{When, Spin, Permutes}
use Rattle.laws.specs.Holding.{one_is, one_has}
use Rattle.columns.specs.Column.{bit_of, is_up, column_of, bit_code, Columns}
use Rattle.columns.specs.Gauge.{gauge_of, gauge_column, gauge_is}
use Rattle.orders.specs.Words.{word_at, Before}
use Rattle.matching.specs.Fitting.{Test, Fits, Fitted, Least, Square, same, identity_first}
use Rattle.matching.specs.Explain.{allowed}
use Rattle.vendor.specs.Vendor.{Explains, Smallest, ActsIn, Unchanged, Fair, RowOf}
use Rattle.vendor.specs.Components.{acts_or_not}
use Rattle.vendor.specs.OwnFair.{identity, turned_same}
use Rattle.matching.specs.Allowed.{Comes, allowed_is, is_allowed}
use Rattle.matching.proofs.Square.{allowed_square}
use Rattle.vendor.specs.Gauged.{up_same, gauge_spin, gauge_same, turned_seen, seen_turned, idle_same, least_same, before_agree}

-- the spins before and after, and the byte of each site
pub record Paired (c : Call) (xs ys : List ℤ) (olds news : List ℕ) : Type 0 where
  pub perm : is_perm c.mode ≡ true
  pub before : (i k : ℕ) → i < c.lattice.n → k < size c → Spin (pattern c xs i k)
  pub after : (i k : ℕ) → i < c.lattice.n → k < size c → Spin (pattern c ys i k)
  pub olds_are : Columns c.lattice.n (size c) (pattern c xs) olds
  pub news_are : Columns c.lattice.n (size c) (pattern c ys) news
  pub reference : When (takes_reference c) (c.reference < c.lattice.n)

-- the byte of the gauge
abbrev pub gauge_byte : Call → List ℕ → ℕ
gauge_byte c olds = gauge_of c.mode (size c) (get_or olds c.reference 0)

-- the places that the component r allows
abbrev pub may_in : Call → List ℕ → List ℕ → List ℕ → ℕ → Test
may_in c olds news l r = allowed (gauge_byte c olds) olds news l c.pins r

module _ {c : Call} {xs ys : List ℤ} {olds news : List ℕ} (b : Paired c xs ys olds news) where
  abbrev P : Pattern
  P = pattern c xs c.reference

  abbrev seen : List ℤ → ℕ → Pattern
  seen zs i = gauge c.mode P (pattern c zs i)

  abbrev byte : List ℕ → ℕ → ℕ
  byte cols i = bit_xor (get_or cols i 0) (gauge_byte c olds)

  spinning : is_gperm c.mode ≡ true → (k : ℕ) → k < size c → Spin (P k)
  spinning g k h = b.before c.reference k (b.reference g) h

  -- a bit of a byte tells what is seen there
  module _
      (zs : List ℤ) (cols : List ℕ) (w : Columns c.lattice.n (size c) (pattern c zs) cols)
      (s : (i k : ℕ) → i < c.lattice.n → k < size c → Spin (pattern c zs i k)) (i : ℕ) (hi : i < c.lattice.n)
    where
      byte_is : byte cols i ≡ column_of (size c) (seen zs i)
      byte_is =
          rw (w.at i hi, gauge_is c.mode (size c) c.lattice.n c.reference (pattern c xs) b.olds_are b.reference)
          (gauge_column c.mode (size c) P (pattern c zs i) spinning (λ k h. s i k hi h))

      bit_is : (k : ℕ) → k < size c → bit_of (byte cols i) k ≡ is_up (seen zs i k)
      bit_is k h = rw byte_is (bit_code (size c) (λ j. is_up (seen zs i j)) k h)

      seen_spin : (k : ℕ) → k < size c → Spin (seen zs i k)
      seen_spin k h = gauge_spin c.mode P (pattern c zs i) k (λ g. spinning g k h) (s i k hi h)

  module _ (i : ℕ) (hi : i < c.lattice.n) (j k : ℕ) (hj : j < size c) (hk : k < size c) where
    old_bit : bit_of (byte olds i) j ≡ is_up (seen xs i j)
    old_bit = bit_is xs olds b.olds_are b.before i hi j hj

    new_bit : bit_of (byte news i) k ≡ is_up (seen ys i k)
    new_bit = bit_is ys news b.news_are b.after i hi k hk

    bits_seen : bit_of (byte olds i) j ≡ bit_of (byte news i) k → seen ys i k ≡ seen xs i j
    bits_seen e =
        up_same (seen ys i k) (seen xs i j) (seen_spin ys news b.news_are b.after i hi k hk) (seen_spin xs olds b.olds_are b.before i hi j hj)
        (sym new_bit ∙ (sym e ∙ old_bit))

    seen_bits : seen ys i k ≡ seen xs i j → bit_of (byte olds i) j ≡ bit_of (byte news i) k
    seen_bits e = old_bit ∙ (sym (ap is_up e) ∙ sym new_bit)

  -- a place that is seen as it was is unchanged
  seen_same : (i k : ℕ) → i < c.lattice.n → k < size c → seen ys i k ≡ seen xs i k → pattern c ys i k ≡ pattern c xs i k
  seen_same i k hi hk e =
      gauge_same c.mode P (pattern c ys i) (pattern c xs i) k (λ g. spinning g k hk) (b.after i k hi hk) (b.before i k hi hk) e

  -- ---- one component, by labels of all sites
  module _ (l : List ℕ) (long : length l ≡ c.lattice.n) (r : ℕ) where
    abbrev may : Test
    may = may_in c olds news l r

    abbrev Held : Type 0
    Held = has_one (pinned c) l r ≡ true

    -- q permutes what is seen
    abbrev Sees : (ℕ → ℕ) → Type 0
    Sees q = (i k : ℕ) → i < c.lattice.n → k < size c → label_of l i ≡ r → seen ys i k ≡ seen xs i (q k)

    module _ (q : ℕ → ℕ) where
      explains_sees : Explains c xs ys l r q → Sees q
      explains_sees e i k hi hk t =
          let h = e.permutes.within k hk in
          turned_seen P (pattern c xs i) q k c.mode b.perm (λ g. spinning g k hk) (λ g. spinning g (q k) h) (b.before i (q k) hi h) (pattern c ys i)
          (e.turns i k hi hk t)

      sees_explains : Permutes (size c) q → Sees q → Explains c xs ys l r q
      sees_explains p s = record {
        permutes = p;
        turns = λ i k hi hk t.
            let h = p.within k hk in
            seen_turned P (pattern c xs i) q k c.mode b.perm (λ g. spinning g k hk) (λ g. spinning g (q k) h) (b.before i (q k) hi h)
            (pattern c ys i) (b.after i k hi hk) (s i k hi hk t);
      }

      module _ (f : Fits (size c) may q) where
        comes : (i k : ℕ) → i < c.lattice.n → k < size c → label_of l i ≡ r → Comes (byte olds i) (byte news i) (get_or c.pins i 0) k (q k)
        comes i k hi hk t = allowed_is (gauge_byte c olds) olds news l c.pins r k (q k) (f.each k hk) i (rw b.olds_are.long hi) t

        fits_sees : Sees q
        fits_sees i k hi hk t = bits_seen i hi (q k) k (f.permutes.within k hk) hk (comes i k hi hk t).shows

        fits_held : Held → (k : ℕ) → k < size c → q k ≡ k
        fits_held e k hk =
            let o = one_is (pinned c) l r e in
            (comes o.site k (rw long at o.below) hk o.label).stays o.marked

      sees_fits : Permutes (size c) q → Sees q → (Held → (k : ℕ) → k < size c → q k ≡ k) → Fits (size c) may q
      sees_fits p s e = record {
        permutes = p;
        each = λ k hk. is_allowed (gauge_byte c olds) olds news l c.pins r k (q k) (λ i h t. at k hk i (rw b.olds_are.long at h) t);
      }
        where
          at : (k : ℕ) → k < size c → (i : ℕ) → i < c.lattice.n → label_of l i ≡ r → Comes (byte olds i) (byte news i) (get_or c.pins i 0) k (q k)
          at k hk i hi t = record {
            shows = seen_bits i hi (q k) k (p.within k hk) hk (s i k hi hk t);
            stays = λ m. e (one_has (pinned c) l r (record { site = i; below = rw long hi; label = t; marked = m })) k hk;
          }

      -- what does not act stays, whatever is explained
      idle_stays : Permutes (size c) q → Sees q → (i : ℕ) → i < c.lattice.n → label_of l i ≡ r → acts c xs i ≡ false → Unchanged c xs ys i
      unfolding acts
      idle_stays p s i hi t e k hk =
          seen_same i k hi hk
          (s i k hi hk t ∙ idle_same c.mode b.perm (size c) P (pattern c xs i) e (q k) k (p.within k hk) hk)

    -- the identity fits what stays
    stays_fits : ((i : ℕ) → i < c.lattice.n → label_of l i ≡ r → Unchanged c xs ys i) → Fits (size c) may same
    stays_fits u =
        sees_fits same (identity (size c))
        (explains_sees same (record {
          permutes = identity (size c);
          turns = λ i k hi hk t.
              u i hi t k hk ∙ sym (turned_same c.mode P (pattern c xs i) k (λ g. spinning g k hk) (b.before i k hi hk));
        }))
        (λ e k hk. refl)

    idle_of : (ActsIn c xs l r → ⊥) → (i : ℕ) → i < c.lattice.n → label_of l i ≡ r → acts c xs i ≡ false
    idle_of none i hi t = go (acts c xs i) refl
      where
        go : (x : Bool) → acts c xs i ≡ x → x ≡ false
        go true e = absurd (none (record { site = i; below = hi; label = t; does = e }))
        go false e = refl

    -- ---- a component is not at fault where some permutation fits
    pub fair_fitted : Fair c xs ys l r → Fitted (size c) may
    fair_fitted f = go (has_one (pinned c) l r) refl (acts_or_not c xs l r long)
      where
        go : (h : Bool) → has_one (pinned c) l r ≡ h → ActsIn c xs l r ⊎ (ActsIn c xs l r → ⊥) → Fitted (size c) may
        go true e a = record { by = same; fits = stays_fits (f.held e) }
        go false e (inl a) =
            let w = f.acting a in
            record {
              by = w.by;
              fits = sees_fits w.by w.explains.permutes (explains_sees w.by w.explains) (λ h. never (sym e ∙ h));
            }
        go false e (inr a) = record { by = same; fits = stays_fits (λ i hi t. f.idle i hi t (idle_of a i hi t)) }

    pub fitted_fair : Fitted (size c) may → Fair c xs ys l r
    fitted_fair w = record {
      acting = λ a. record { by = w.by; explains = sees_explains w.by w.fits.permutes s };
      idle = λ i hi t e. idle_stays w.by w.fits.permutes s i hi t e;
      held = λ e i hi t k hk. seen_same i k hi hk (s i k hi hk t ∙ ap (seen xs i) (fits_held w.by w.fits e k hk));
    }
      where
        s : Sees w.by
        s = fits_sees w.by w.fits

    module _ (q : ℕ → ℕ) (w : Least (size c) may q) where
      -- the least that fits is the smallest that explains: of a held component both are the identity
      pub least_acting : ActsIn c xs l r → Smallest c xs ys l r q
      least_acting a = record {
        explains = sees_explains q w.fits.permutes (fits_sees q w.fits);
        none_before = λ p e f. none p e f (has_one (pinned c) l r) refl;
      }
        where
          none : (p : ℕ → ℕ) → Explains c xs ys l r p → Before (size c) p q → (h : Bool) → has_one (pinned c) l r ≡ h → ⊥
          none p e f true h = identity_first (size c) p e.permutes (before_agree f (fits_held q w.fits h))
          none p e f false h = w.none_before p (sees_fits p e.permutes (explains_sees p e) (λ t. never (sym h ∙ t))) f

      pub least_other : (ActsIn c xs l r → ⊥) → (k : ℕ) → k < size c → q k ≡ k
      least_other a =
          least_same w
          (stays_fits (λ i hi t. idle_stays q w.fits.permutes (fits_sees q w.fits) i hi t (idle_of a i hi t)))

    -- so a row with the least is the row that is asked
    pub least_row : (rows : List ℕ) → Least (size c) may (word_at (size c) rows r) → RowOf c xs ys l rows r
    least_row rows w = record { acting = least_acting (word_at (size c) rows r) w; other = least_other (word_at (size c) rows r) w }

    pub square : Square (size c) may
    square = allowed_square (size c) (gauge_byte c olds) olds news l c.pins r
