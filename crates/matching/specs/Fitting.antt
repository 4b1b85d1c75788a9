-- Permutations that fit a test of pairs of places, the least of them as a word, and how it is found: for each place in turn the smallest that is left.
use Rattle.std.specs.Prelude.{ℕ, ◌+◌, ◌≤◌, ◌<◌, ◌≡◌, ◌≢◌, Bool, cond, eqb}
use Rattle.std.proofs.Math.Path.{sym}
use Rattle.std.proofs.Common.{◌∙◌, ap, arith, eq-eqb, ne_eqb}
use Rattle.std.proofs.Math.Bool.{true}
use Rattle.std.proofs.Math.Decide.{ℕ_discrete}
use Rattle.lemmas.specs.Places.{Placed, Unplaced}
use Rattle.paper.specs.Refusal.Rules.{Distinct, Permutes}
use Rattle.laws.specs.Permuted.{onto}
use Rattle.orders.specs.Words.{Agree, Before, Compared, Compared.equal, Compared.before, Compared.after, compare}

-- may the place k have come from the place j?
abbrev pub Test : Type 0
Test = ℕ → ℕ → Bool

-- a permutation of m places by which each place comes from one that it may have come from
pub record Fits (m : ℕ) (may : Test) (q : ℕ → ℕ) : Type 0 where
  pub permutes : Permutes m q
  pub each : (k : ℕ) → k < m → may k (q k) ≡ true

-- some permutation fits
pub record Fitted (m : ℕ) (may : Test) : Type 0 where
  pub by : ℕ → ℕ
  pub fits : Fits m may by

-- it fits, and none that fits comes before it
pub record Least (m : ℕ) (may : Test) (q : ℕ → ℕ) : Type 0 where
  pub fits : Fits m may q
  pub none_before : (p : ℕ → ℕ) → Fits m may p → Before m p q → ⊥

-- there is one such word
pub least_unique : {m : ℕ} {may : Test} {p q : ℕ → ℕ} → Least m may p → Least m may q → Agree m p q
least_unique {m} {may} {p} {q} x y = go (compare m m p q (omega arith))
  where
    go : Compared m m p q → Agree m p q
    go (equal a) = a
    go (before b) = absurd (y.none_before p x.fits b)
    go (after b) = absurd (x.none_before q y.fits b)

-- ---- the identity
abbrev pub same : ℕ → ℕ
same k = k

-- no permutation comes before it: at the first place where it is not, it would repeat a value
pub identity_first : (m : ℕ) (q : ℕ → ℕ) → Permutes m q → Before m q same → ⊥
identity_first m q p b =
    let low : q b.place < b.place = b.less in
    let e = p.distinct (q b.place) b.place (omega (arith, b.inside)) b.inside (b.agree (q b.place) low) in
    omega (arith, e)

-- so where it fits it is the least
pub identity_least : {m : ℕ} {may : Test} → ((k : ℕ) → k < m → may k k ≡ true) → Least m may same
identity_least {m} {may} h = record {
  fits = record { permutes = record { within = λ k l. l; distinct = λ a b la lb e. e }; each = h };
  none_before = λ p f b. identity_first m p f.permutes b;
}

-- ---- two places that may both have come from one may each have come from all that the other may have come from
abbrev pub Square : ℕ → Test → Type 0
Square m may =
    (k l i j : ℕ) → k < m → l < m → i < m → j < m → may k i ≡ true → may k j ≡ true → may l i ≡ true → may l j ≡ true

-- ---- a word that is begun: its first k places
pub record Begun (m : ℕ) (may : Test) (k : ℕ) (g : ℕ → ℕ) : Type 0 where
  pub within : (i : ℕ) → i < k → g i < m
  pub distinct : Distinct k g
  pub each : (i : ℕ) → i < k → may i (g i) ≡ true
  pub smaller : (i j : ℕ) → i < k → j < g i → may i j ≡ true → Placed i g j

-- a permutation that fits and begins so
pub record Goes (m : ℕ) (may : Test) (k : ℕ) (g : ℕ → ℕ) : Type 0 where
  pub by : ℕ → ℕ
  pub fits : Fits m may by
  pub agree : Agree k by g

pub begun_none : (m : ℕ) (may : Test) (g : ℕ → ℕ) → Begun m may 0 g
begun_none m may g = record {
  within = λ i h. absurd (omega arith);
  distinct = λ a b ha hb e. absurd (omega arith);
  each = λ i h. absurd (omega arith);
  smaller = λ i j h l e. absurd (omega arith);
}

-- whole, it is the least
pub begun_least : {m : ℕ} {may : Test} {g : ℕ → ℕ} → Begun m may m g → Least m may g
begun_least {m} {may} {g} b = record {
  fits = record { permutes = record { within = b.within; distinct = b.distinct }; each = b.each };
  none_before = none;
}
  where
    none : (p : ℕ → ℕ) → Fits m may p → Before m p g → ⊥
    none p f w =
        let r = b.smaller w.place (p w.place) w.inside w.less (f.each w.place w.inside) in
        let e = f.permutes.distinct w.place r.0 w.inside (omega (arith, r.1, w.inside)) (r.2 ∙ sym (w.agree r.0 r.1)) in
        omega (arith, e, r.1)

-- ---- one place more: the smallest that is left
pub record Next (m : ℕ) (may : Test) (k : ℕ) (g : ℕ → ℕ) (v : ℕ) : Type 0 where
  pub within : v < m
  pub fresh : Unplaced k g v
  pub may_come : may k v ≡ true
  pub smallest : (j : ℕ) → j < v → may k j ≡ true → Placed k g j

placed_same : {k : ℕ} {g h : ℕ → ℕ} → Agree k h g → (i j : ℕ) → i ≤ k → Placed i g j → Placed i h j
placed_same same i j l r = (r.0, r.1, r.2 ∙ sym (same r.0 (omega (arith, r.1))))

module _ {m : ℕ} {may : Test} {k : ℕ} {g h : ℕ → ℕ} (same : Agree k h g) where
  pub begun_more : Begun m may k g → Next m may k g (h k) → Begun m may (k + 1) h
  begun_more b x = record {
    within = λ i l. within i l (ℕ_discrete i k);
    distinct = λ i j hi hj e. apart i j hi hj e (ℕ_discrete i k) (ℕ_discrete j k);
    each = λ i l. each i l (ℕ_discrete i k);
    smaller = λ i j l s e. smaller i j l s e (ℕ_discrete i k);
  }
    where
      within : (i : ℕ) → i < k + 1 → Dec (i ≡ k) → h i < m
      within i l (yes e) = rw e x.within
      within i l (no e) = rw (same i (omega arith)) (b.within i (omega arith))

      apart : (i j : ℕ) → i < k + 1 → j < k + 1 → h i ≡ h j → Dec (i ≡ k) → Dec (j ≡ k) → i ≡ j
      apart i j hi hj e (yes p) (yes q) = p ∙ sym q
      apart i j hi hj e (yes p) (no q) = absurd (x.fresh j (omega arith) (sym (ap h p) ∙ (e ∙ same j (omega arith))))
      apart i j hi hj e (no p) (yes q) = absurd (x.fresh i (omega arith) (sym (ap h q) ∙ (sym e ∙ same i (omega arith))))
      apart i j hi hj e (no p) (no q) =
          b.distinct i j (omega arith) (omega arith) (sym (same i (omega arith)) ∙ (e ∙ same j (omega arith)))

      each : (i : ℕ) → i < k + 1 → Dec (i ≡ k) → may i (h i) ≡ true
      each i l (yes e) = rw e x.may_come
      each i l (no e) = rw (same i (omega arith)) (b.each i (omega arith))

      smaller : (i j : ℕ) → i < k + 1 → j < h i → may i j ≡ true → Dec (i ≡ k) → Placed i h j
      smaller i j l s w (yes e) = rw e (placed_same same k j (omega arith) (x.smallest j (rw e at s) (rw e at w)))
      smaller i j l s w (no e) = placed_same same i j (omega arith) (b.smaller i j (omega arith) (rw (same i (omega arith)) at s) w)

-- ---- where a permutation fits, one fits that begins so: two of its places are exchanged
pub goes_none : {m : ℕ} {may : Test} (g : ℕ → ℕ) → Fitted m may → Goes m may 0 g
goes_none g f = record { by = f.by; fits = f.fits; agree = λ k h. absurd (omega arith) }

-- k and l exchanged
swap : ℕ → ℕ → ℕ → ℕ
swap k l x = cond (eqb x k) l (cond (eqb x l) k x)

data Swapped (k l x v : ℕ) : Type 0 where
  first : x ≡ k → v ≡ l → Swapped k l x v
  second : x ≢ k → x ≡ l → v ≡ k → Swapped k l x v
  other : x ≢ k → x ≢ l → v ≡ x → Swapped k l x v

swapped : (k l x : ℕ) → Swapped k l x (swap k l x)
unfolding swap
swapped k l x = go (ℕ_discrete x k) (ℕ_discrete x l)
  where
    go : Dec (x ≡ k) → Dec (x ≡ l) → Swapped k l x (cond (eqb x k) l (cond (eqb x l) k x))
    go (yes e) d = first e (rw (eq-eqb x k e))
    go (no n) (yes e) = second n e (rw (ne_eqb x k n, eq-eqb x l e))
    go (no n) (no o) = other n o (rw (ne_eqb x k n, ne_eqb x l o))

swap_below : (m k l x : ℕ) → k < m → l < m → x < m → swap k l x < m
swap_below m k l x hk hl hx = go (swapped k l x)
  where
    go : Swapped k l x (swap k l x) → swap k l x < m
    go (first e v) = omega arith
    go (second n e v) = omega arith
    go (other n o v) = omega arith

swap_distinct : (k l a b : ℕ) → swap k l a ≡ swap k l b → a ≡ b
swap_distinct k l a b e = go (swapped k l a) (swapped k l b)
  where
    go : Swapped k l a (swap k l a) → Swapped k l b (swap k l b) → a ≡ b
    go (first x v) (first y w) = omega arith
    go (first x v) (second n y w) = omega arith
    go (first x v) (other n o w) = omega arith
    go (second p x v) (first y w) = omega arith
    go (second p x v) (second n y w) = omega arith
    go (second p x v) (other n o w) = omega arith
    go (other p r v) (first y w) = omega arith
    go (other p r v) (second n y w) = omega arith
    go (other p r v) (other n o w) = omega arith

module _
    {m : ℕ} {may : Test} {k : ℕ} {g h : ℕ → ℕ} (square : Square m may) (below : k < m) (same : Agree k h g) (x : Next m may k g (h k)) (w : Goes m may k g)
  where
    module _ (l : ℕ) (hl : l < m) (is : h k ≡ w.by l) where
      q' : ℕ → ℕ
      q' i = w.by (swap k l i)

      permutes : Permutes m q'
      unfolding q'
      permutes = record {
        within = λ i b. w.fits.permutes.within (swap k l i) (swap_below m k l i below hl b);
        distinct = λ a b ha hb e. swap_distinct k l a b
            (w.fits.permutes.distinct (swap k l a) (swap k l b) (swap_below m k l a below hl ha) (swap_below m k l b below hl hb) e);
      }

      -- the place l may have come from where k comes from, since both may have come from h k
      each : (i : ℕ) → i < m → may i (q' i) ≡ true
      unfolding q'
      each i b = at (swapped k l i)
        where
          at : Swapped k l i (swap k l i) → may i (w.by (swap k l i)) ≡ true
          at (first e v) = rw (v, e, ← is) x.may_come
          at (second n e v) =
              rw (v, e)
              (square k l (h k) (w.by k) below hl x.within (w.fits.permutes.within k below) x.may_come (w.fits.each k below)
              (rw is (w.fits.each l hl)))
          at (other n o v) = rw v (w.fits.each i b)

      -- no place below k has that value
      agree : (i : ℕ) → i < k + 1 → q' i ≡ h i
      unfolding q'
      agree i b = at (swapped k l i)
        where
          at : Swapped k l i (swap k l i) → w.by (swap k l i) ≡ h i
          at (first e v) = rw (v, e) (sym is)
          at (second n e v) =
              absurd (x.fresh i (omega arith) (is ∙ (sym (ap w.by e) ∙ w.agree i (omega arith))))
          at (other n o v) = rw v (w.agree i (omega arith) ∙ sym (same i (omega arith)))

    pub goes_more : Goes m may (k + 1) h
    goes_more =
        let r = onto m w.by w.fits.permutes (h k) x.within in
        record {
          by = q' r.0 r.1 r.2;
          fits = record { permutes = permutes r.0 r.1 r.2; each = each r.0 r.1 r.2 };
          agree = agree r.0 r.1 r.2;
        }

-- where none is left that the place k may have come from, no permutation fits
pub goes_nowhere :
    {m : ℕ} {may : Test} {k : ℕ} {g : ℕ → ℕ} → k < m → ((j : ℕ) → j < m → may k j ≡ true → Placed k g j) → Goes m may k g → ⊥
goes_nowhere {m} {may} {k} {g} below taken w =
    let r = taken (w.by k) (w.fits.permutes.within k below) (w.fits.each k below) in
    let e = w.fits.permutes.distinct k r.0 below (omega (arith, r.1)) (r.2 ∙ sym (w.agree r.0 r.1)) in
    omega (arith, e, r.1)
