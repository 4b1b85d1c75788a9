-- Numbers of components: a label is the number of smallest sites before its own. `carried` takes the smallest site of each component to its number.
use Prim.Native.Nat.{ℕ, zero, suc, ◌+◌, ◌≤◌, ◌<◌}
use Rattle.std.specs.Prelude.{◌≡◌, ◌⊎◌, ◌≢◌, Bool, true, false, List, length}
use Rattle.std.proofs.Math.Path.{refl}
use Rattle.std.proofs.Common.{sym, ◌∙◌, ap, inl, inr, le_antisymm}
use Rattle.std.proofs.Math.Decide.{ℕ_discrete, dec_lt}
use native.Mathlib.Omega.{arith}
use borrow.Author.Tests.{eq-eqb, ne_eqb, eqb-true}
use Rattle.std.proofs.Math.Dec.{eqb}
use Rattle.lemmas.specs.Bools.{never}
use Rattle.lemmas.specs.Counts.{bit, count_where, count_yes, count_most, count_zero, count_pos, bit_le}
use Rattle.paper.specs.Component.Links.{Linked.stay, trans, back}
use Rattle.paper.specs.Panel.Input.{Graph}
use Rattle.paper.specs.Component.Labels.{Joined, Labels}
use Rattle.paper.specs.Component.Sizes.{label_of, is_first}

-- two numbers of which neither is smaller
even : (a b : ℕ) → (a < b → ⊥) → (b < a → ⊥) → a ≡ b
even a b low high = go (dec_lt a b) (dec_lt b a)
  where
    go : Dec (a < b) → Dec (b < a) → a ≡ b
    go (yes h) (yes k) = absurd (low h)
    go (yes h) (no k) = absurd (low h)
    go (no h) (yes k) = absurd (high k)
    go (no h) (no k) = omega arith

-- ---- counts of the numbers below m that pass
module _ (f : ℕ → Bool) where
  pub count_mono : (a m : ℕ) → a ≤ m → count_where f a ≤ count_where f m
  unfolding count_where
  count_mono a zero h = let e : a ≡ 0 = omega arith in rw e (omega arith)
  count_mono a (suc m) h = go (ℕ_discrete a (suc m)) (λ l. count_mono a m l)
    where
      go : Dec (a ≡ suc m) → (a ≤ m → count_where f a ≤ count_where f m) → count_where f a ≤ count_where f m + bit (f m)
      go (yes e) ih = rw e (omega arith)
      go (no e) ih = omega (arith, ih (omega arith))

  -- one that passes is counted behind itself
  pub count_rises : (a m : ℕ) → a < m → f a ≡ true → count_where f a < count_where f m
  count_rises a m h e = omega (arith, count_mono (a + 1) m (omega arith), count_yes f a e)

  -- the number r of those that pass
  pub record Nth (m r : ℕ) : Type 0 where
    pub at : ℕ
    pub below : at < m
    pub passes : f at ≡ true
    pub before : count_where f at ≡ r

  pub nth : (m r : ℕ) → r < count_where f m → Nth m r
  unfolding count_where
  nth zero r h = absurd (omega arith)
  nth (suc m) r h = go (dec_lt r (count_where f m)) (f m) refl (λ l. nth m r l)
    where
      further : Nth m r → Nth (suc m) r
      further w = record { at = w.at; below = omega (arith, w.below); passes = w.passes; before = w.before }

      go : Dec (r < count_where f m) → (b : Bool) → f m ≡ b → (r < count_where f m → Nth m r) → Nth (suc m) r
      go (yes l) b e ih = further (ih l)
      go (no l) true e ih = record { at = m; below = omega arith; passes = e; before = omega (arith, h, bit_le (f m)) }
      go (no l) false e ih = absurd (omega (arith, rw e at h))

  -- some number below m passes, or none does
  pub some_or_none : (m : ℕ) → ((i : ℕ) × (i < m) × (f i ≡ true)) ⊎ (count_where f m ≡ 0)
  some_or_none m = go (dec_lt 0 (count_where f m))
    where
      go : Dec (0 < count_where f m) → ((i : ℕ) × (i < m) × (f i ≡ true)) ⊎ (count_where f m ≡ 0)
      go (yes h) = let w = nth m 0 h in inl (w.at, w.below, w.passes)
      go (no h) = inr (omega arith)

-- ---- firsts
module _ (l : List ℕ) where
  -- no site before a first has its label; a site with none such before it is first
  pub first_only : (i j : ℕ) → is_first l i ≡ true → j < i → label_of l j ≢ label_of l i
  unfolding is_first
  first_only i j e h same =
      absurd (omega (
        arith,
        count_pos (λ j. eqb (label_of l j) (label_of l i)) i j h (eq-eqb _ _ same),
        eqb-true (count_where (λ j. eqb (label_of l j) (label_of l i)) i) 0 e,
      ))

  pub first_when : (i : ℕ) → ((j : ℕ) → j < i → label_of l j ≢ label_of l i) → is_first l i ≡ true
  unfolding is_first
  first_when i h = eq-eqb _ 0 (count_zero (λ j. eqb (label_of l j) (label_of l i)) i (λ j jl. ne_eqb _ _ (h j jl)))

  -- one label has one first
  pub first_one : (i j : ℕ) → is_first l i ≡ true → is_first l j ≡ true → label_of l i ≡ label_of l j → i ≡ j
  first_one i j a b e = even i j (λ h. first_only j i b h e) (λ h. first_only i j a h (sym e))

  -- a site that is not first has its label from one before it
  pub not_first : (i : ℕ) → is_first l i ≡ false → (j : ℕ) × (j < i) × (label_of l j ≡ label_of l i)
  unfolding is_first
  not_first i e = go (some_or_none (λ j. eqb (label_of l j) (label_of l i)) i)
    where
      go : ((j : ℕ) × (j < i) × (eqb (label_of l j) (label_of l i) ≡ true)) ⊎ (count_where (λ j. eqb (label_of l j) (label_of l i)) i ≡ 0)
          → (j : ℕ) × (j < i) × (label_of l j ≡ label_of l i)
      go (inl w) = (w.0, w.1, eqb-true _ _ w.2)
      go (inr z) = never (sym e ∙ eq-eqb _ 0 z)

  -- the first site with i's label
  pub record FirstOf (i : ℕ) : Type 0 where
    pub at : ℕ
    pub low : at ≤ i
    pub same : label_of l at ≡ label_of l i
    pub is : is_first l at ≡ true

  below_of : (m i : ℕ) → i < m → FirstOf i
  below_of zero i h = absurd (omega arith)
  below_of (suc m) i h = go (is_first l i) refl (λ j jl. below_of m j jl)
    where
      go : (b : Bool) → is_first l i ≡ b → ((j : ℕ) → j < m → FirstOf j) → FirstOf i
      go true e ih = record { at = i; low = omega arith; same = refl; is = e }
      go false e ih =
          let w = not_first i e in
          let r = ih w.0 (omega (arith, w.1)) in
          record { at = r.at; low = omega (arith, r.low, w.1); same = r.same ∙ w.2; is = r.is }

  pub first_of : (i : ℕ) → FirstOf i
  first_of i = below_of (suc i) i (omega arith)

-- in one ascending pass: the site i is first with its label exactly if that is the number of firsts before it
abbrev pub Ranked : List ℕ → Type 0
Ranked l = (i : ℕ) → i < length l → is_first l i ≡ eqb (label_of l i) (count_where (is_first l) i)

-- ---- a label is the number of firsts before the first with that label
module _ {t : Graph} {holding : ℕ → ℕ → Bool} {l : List ℕ} {found : ℕ} (h : Labels t holding l found) where
  abbrev Told : ℕ → Type 0
  Told i = ((is_first l i ≡ true) × (label_of l i ≡ count_where (is_first l) i)) ⊎ ((is_first l i ≡ false) × (label_of l i < count_where (is_first l) i))

  told_lt : (i m : ℕ) → i < m → Told i → label_of l i < count_where (is_first l) m
  told_lt i m il (inl w) = rw w.1 (count_rises (is_first l) i m il w.0)
  told_lt i m il (inr w) = omega (arith, w.1, count_mono (is_first l) i m (omega arith))

  told_first : (i : ℕ) → is_first l i ≡ true → Told i → label_of l i ≡ count_where (is_first l) i
  told_first i e (inl w) = w.1
  told_first i e (inr w) = never (sym w.0 ∙ e)

  step : (m : ℕ) → m < t.n → ((i : ℕ) → i < m → Told i) → Told m
  step m ml all = go (is_first l m) refl
    where
      -- not a smaller number: that is a first's before it
      not_less : is_first l m ≡ true → label_of l m < count_where (is_first l) m → ⊥
      not_less e less =
          let w = nth (is_first l) m (label_of l m) less in
          first_only l m w.at e w.below (told_first w.at w.passes (all w.at w.below) ∙ w.before)

      -- not a larger one: the number between them would be that of a first behind it
      not_more : is_first l m ≡ true → count_where (is_first l) m < label_of l m → ⊥
      not_more e more = at (dec_lt r.at m) (ℕ_discrete r.at m)
        where
          u : (k : ℕ) × (k < t.n) × (count_where (is_first l) m ≡ label_of l k)
          u = h.used (count_where (is_first l) m) (omega (arith, h.below m ml))

          r : FirstOf l u.0
          r = first_of l u.0

          is : label_of l r.at ≡ count_where (is_first l) m
          is = r.same ∙ sym u.2

          at : Dec (r.at < m) → Dec (r.at ≡ m) → ⊥
          at (yes a) b = absurd (omega (arith, told_lt r.at m a (all r.at a), is))
          at (no a) (yes b) = absurd (omega (arith, more, is, ap (label_of l) b))
          at (no a) (no b) = absurd (omega (arith, h.rising m r.at (omega arith) (omega (arith, r.low, u.1)) e r.is, is, more))

      go : (b : Bool) → is_first l m ≡ b → Told m
      go false e =
          let w = not_first l m e in
          inr (e, rw (← w.2) (told_lt w.0 m w.1 (all w.0 w.1)))
      go true e = inl (e, even (label_of l m) (count_where (is_first l) m) (not_less e) (not_more e))

  told_below : (m : ℕ) → m ≤ t.n → (i : ℕ) → i < m → Told i
  told_below zero ml i il = absurd (omega arith)
  told_below (suc m) ml i il = go (ℕ_discrete i m) (told_below m (omega arith))
    where
      go : Dec (i ≡ m) → ((j : ℕ) → j < m → Told j) → Told i
      go (yes e) ih = rw e (step m (omega arith) ih)
      go (no e) ih = ih i (omega arith)

  told : (i : ℕ) → i < t.n → Told i
  told = told_below t.n (omega arith)

  pub first_label : (i : ℕ) → i < t.n → is_first l i ≡ true → label_of l i ≡ count_where (is_first l) i
  first_label i il e = told_first i e (told i il)

  pub ranked : Ranked l
  ranked i il = go (told i (rw h.long at il))
    where
      go : Told i → is_first l i ≡ eqb (label_of l i) (count_where (is_first l) i)
      go (inl w) = w.0 ∙ sym (eq-eqb (label_of l i) (count_where (is_first l) i) w.1)
      go (inr w) = w.0 ∙ sym (ne_eqb (label_of l i) (count_where (is_first l) i) (λ e. omega (arith, w.1)))

  -- how many there are is how many firsts there are, and so at most n
  pub found_firsts : found ≡ count_where (is_first l) t.n
  found_firsts = even found (count_where (is_first l) t.n) no_less no_more
    where
      no_more : count_where (is_first l) t.n < found → ⊥
      no_more more =
          let u = h.used (count_where (is_first l) t.n) more in
          absurd (omega (arith, told_lt u.0 t.n u.1 (told u.0 u.1), u.2))

      no_less : found < count_where (is_first l) t.n → ⊥
      no_less less =
          let w = nth (is_first l) t.n found less in
          absurd (omega (arith, h.below w.at w.below, first_label w.at w.below w.passes, w.before))

  pub found_le : found ≤ t.n
  found_le = rw found_firsts (count_most (is_first l) t.n)

-- ---- from the smallest sites
-- each site's entry is the smallest site that it is joined to
pub record Smallest (t : Graph) (holding : ℕ → ℕ → Bool) (s : List ℕ) : Type 0 where
  pub long : length s ≡ t.n
  pub joined : (i : ℕ) → i < t.n → Joined t holding i (label_of s i)
  pub least : (i j : ℕ) → i < t.n → j < t.n → Joined t holding i j → label_of s i ≤ j

-- a smallest site
abbrev pub own : List ℕ → ℕ → Bool
own s i = eqb (label_of s i) i

module _ {t : Graph} {holding : ℕ → ℕ → Bool} {s : List ℕ} (h : Smallest t holding s) where
  pub smallest_lt : (i : ℕ) → i < t.n → label_of s i < t.n
  smallest_lt i il = omega (arith, h.least i i il il stay)

  pub smallest_same : (i j : ℕ) → i < t.n → j < t.n → Joined t holding i j → label_of s i ≡ label_of s j
  smallest_same i j il jl w = le_antisymm (low i j il jl w) (low j i jl il (back w))
    where
      low : (a b : ℕ) → a < t.n → b < t.n → Joined t holding a b → label_of s a ≤ label_of s b
      low a b al bl w = h.least a (label_of s b) al (smallest_lt b bl) (trans w (h.joined b bl))

  pub smallest_own : (i : ℕ) → i < t.n → own s (label_of s i) ≡ true
  smallest_own i il = eq-eqb _ _ (sym (smallest_same i (label_of s i) il (smallest_lt i il) (h.joined i il)))

  -- a component's number is how many smallest sites come before its own, and there are as many as smallest sites
  pub carried : (l : List ℕ) → length l ≡ t.n → ((i : ℕ) → i < t.n → label_of l i ≡ count_where (own s) (label_of s i))
      → Labels t holding l (count_where (own s) t.n)
  carried l long is = record {
    long = long;
    joined = λ i j il jl e. trans (h.joined i il) (back (rw (← (alike i j il jl e)) at (h.joined j jl)));
    same = λ i j il jl w. is i il ∙ (ap (count_where (own s)) (smallest_same i j il jl w) ∙ sym (is j jl));
    below = λ i il. rw (is i il) (count_rises (own s) (label_of s i) t.n (smallest_lt i il) (smallest_own i il));
    used = λ r rl. let w = nth (own s) t.n r rl in
        (w.at, w.below, sym (is w.at w.below ∙ (ap (count_where (own s)) (eqb-true _ _ w.passes) ∙ w.before)));
    rising = λ i j il jl a b. rw (at_own i (omega arith) a, at_own j jl b) (count_rises (own s) i j il (first_own i (omega arith) a));
  }
    where
      -- equal counts before two smallest sites: they are one
      one_site : (a b : ℕ) → own s a ≡ true → own s b ≡ true → count_where (own s) a ≡ count_where (own s) b → a ≡ b
      one_site a b oa ob e =
          even a b (λ h. absurd (omega (arith, e, count_rises (own s) a b h oa))) (λ h. absurd (omega (arith, e, count_rises (own s) b a h ob)))

      alike : (i j : ℕ) → i < t.n → j < t.n → label_of l i ≡ label_of l j → label_of s i ≡ label_of s j
      alike i j il jl e = one_site _ _ (smallest_own i il) (smallest_own j jl) (sym (is i il) ∙ (e ∙ is j jl))

      first_own : (i : ℕ) → i < t.n → is_first l i ≡ true → own s i ≡ true
      first_own i il e = go (dec_lt (label_of s i) i)
        where
          go : Dec (label_of s i < i) → own s i ≡ true
          go (yes less) = absurd (first_only l i (label_of s i) e less
              (is (label_of s i) (smallest_lt i il) ∙ (ap (count_where (own s)) (eqb-true _ _ (smallest_own i il)) ∙ sym (is i il))))
          go (no less) = eq-eqb _ _ (le_antisymm (h.least i i il il stay) (omega arith))

      at_own : (i : ℕ) → i < t.n → is_first l i ≡ true → label_of l i ≡ count_where (own s) i
      at_own i il e = is i il ∙ ap (count_where (own s)) (eqb-true _ _ (first_own i il e))
