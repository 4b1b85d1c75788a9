-- From a number to a site, a coupling, a line and the first line: what each test adds, and what its failure shows.
use Prim.Native.Nat.{ℕ, zero, suc, ◌+◌, ◌-◌, ◌≤◌, ◌<◌}
use mathlib.Core.Path.{◌≡◌, refl, sym, ◌∙◌, ap}
use mathlib.Core.Bool.{false, cond}
use mathlib.Core.List.{List, [], ◌∷◌, ◌++◌}
use native.Mathlib.Omega.{arith}
use native.Mathlib.Numerals.{add-one}
use native.Mathlib.Decide.{dec_le, dec_lt}
use borrow.Author.Tests.{le-leb, lt-leb}
use lib.Dec.{leb}
use lib.ListN.{length, get_or, drop, length-drop}
use lib.Seq.{drop-cons, get_or-drop}
use lib.IntN.{ℤ, pos, negsuc}
use Rattle.edge_text.specs.Outcome.{Number}
use Rattle.edge_text.specs.Outcome.Number.{At, Bad}
use Rattle.edge_text.specs.declared.Edge.{Edge}
use Rattle.edge_text.specs.Decimal.{is_digit, limit, decimal, Held, decimal_started}
use Rattle.edge_text.specs.Form.{line_of, head_of, signed}
use Rattle.edge_text.specs.Numbers.{Begins, begins, Signed, same_number, started_first, line_split, head_split}
use Rattle.edge_text.specs.Reading.{NumberAt, ExactAt, ExactAs, SiteAt, SiteAs, MinusAt, MinusAs, CouplingAt, CouplingAs, LineAt, HeadAs, HasMinus}
use Rattle.edge_text.specs.Reading.{plus_code, minus_code, code_of}

-- ---- a number that is at most m
module _ {t : List ℕ} {a c v e : ℕ} (h : NumberAt t a c v e) (m : ℕ) (low : m ≤ 1000000) where
  over : (w : ℕ) → w ≤ m → m < v → h.number ≡ w → ⊥
  over w l g s = at (dec_lt v limit)
    where
      at : Dec (v < limit) → ⊥
      at (yes k) = let q = h.held.small k in omega arith
      at (no k) = let q = h.held.large (omega arith) in omega arith

  pub exact_over : is_digit c ≡ false → m < v → (w : ℕ) (r : List ℕ) → w ≤ m → Begins (drop a t) w c r → ⊥
  exact_over n g w r l b = over w l g (same_number n h.is b).number

  pub exact_at : v ≤ m → ExactAt t a c m v e
  exact_at l = record { is = rw same h.is; small = l; within = h.within }
    where
      same : v ≡ h.number
      same = h.held.small (omega arith)

-- ---- a site
module _ (t : List ℕ) (a n : ℕ) where
  pub site_none : ((w : ℕ) (r : List ℕ) → w ≤ n → Begins (drop a t) w 32 r → ⊥) → (i : ℕ) (r : List ℕ) → i < n → Begins (drop a t) (suc i) 32 r → ⊥
  site_none f i r l b = f (suc i) r (omega arith) b

module _ {t : List ℕ} {a n : ℕ} where
  module _ {v e : ℕ} (h : ExactAt t a 32 n v e) where
    pub site_zero : v < 1 → (i : ℕ) (r : List ℕ) → i < n → Begins (drop a t) (suc i) 32 r → ⊥
    site_zero z i r l b = let s = (same_number refl h.is b).number in omega arith

    pub site_at : 1 ≤ v → SiteAt t a n (v - 1) e
    site_at p = let s : suc (v - 1) ≡ v = omega arith in record { is = rw s h.is; small = let k = h.small in omega arith; within = h.within }

pub some_site : (v : ℕ) → (v ≡ 0 → ⊥) → 1 ≤ v
some_site zero n = absurd (n refl)
some_site (suc v) n = omega arith

-- ---- a coupling's code
held_over : {v w : ℕ} → Held v w → 1000000 < v → 1000000 < w
held_over {v} {w} h l = at (dec_lt v limit)
  where
    at : Dec (v < limit) → 1000000 < w
    at (yes k) = let q = h.small k in omega arith
    at (no k) = let q = h.large (omega arith) in omega arith

code_same : {v w : ℕ} (f : ℕ → ℕ) → Held v w → cond (leb v 1000000) (f v) 2000002 ≡ cond (leb w 1000000) (f w) 2000002
code_same {v} {w} f h = at (dec_le v 1000000)
  where
    at : Dec (v ≤ 1000000) → cond (leb v 1000000) (f v) 2000002 ≡ cond (leb w 1000000) (f w) 2000002
    at (yes l) = ap (λ (x : ℕ). cond (leb x 1000000) (f x) 2000002) (h.small (omega arith))
    at (no l) = rw (lt-leb v 1000000 (omega arith), lt-leb w 1000000 (held_over h (omega arith))) refl

pub code_small : (z : ℤ) → code_of z ≤ 2000002
code_small (pos v) = at (dec_le v 1000000)
  where
    at : Dec (v ≤ 1000000) → plus_code v ≤ 2000002
    at (yes l) = rw (le-leb v 1000000 l) (omega arith)
    at (no l) = rw (lt-leb v 1000000 (omega arith)) (omega arith)
code_small (negsuc v) = at (dec_le (suc v) 1000000)
  where
    at : Dec (suc v ≤ 1000000) → minus_code (suc v) ≤ 2000002
    at (yes l) = rw (le-leb (suc v) 1000000 l) (omega arith)
    at (no l) = rw (lt-leb (suc v) 1000000 (omega arith)) (omega arith)

-- ---- behind a minus
module _ {t : List ℕ} {a v e : ℕ} (h : NumberAt t a 10 v e) where
  pub minus_zero : v < 1 → (w : ℕ) (r : List ℕ) → Begins (drop a t) (suc w) 10 r → ⊥
  minus_zero z w r b = let s = (same_number refl h.is b).number in let q = h.held.small (omega arith) in omega arith

  pub minus_at : (x : ℕ) → 1 ≤ v → x ≡ minus_code v → MinusAt t a x e
  minus_at x p q = record { number = h.number - 1; is = rw s h.is; code = rw s (q ∙ code_same (λ y. 1000001 - y) h.held); within = h.within }
    where
      positive : 1 ≤ h.number
      positive = at (dec_lt v limit)
        where
          at : Dec (v < limit) → 1 ≤ h.number
          at (yes k) = let f = h.held.small k in omega arith
          at (no k) = let f = h.held.large (omega arith) in omega arith

      s : suc (h.number - 1) ≡ h.number
      s = omega (arith, positive)

  pub plus_at : (x : ℕ) → x ≡ plus_code v → CouplingAt t a x e
  plus_at x q = record {
    coupling = pos h.number;
    is = record { spelt = h.is.spelt };
    code = q ∙ code_same (λ y. 1000001 + y) h.held;
    within = h.within;
  }

-- ---- a coupling
minus_split : {t : List ℕ} {a : ℕ} → HasMinus t a → drop a t ≡ 45 ∷ drop (a + 1) t
minus_split {t} {a} h = rw (add-one a) (drop-cons t a 0 h.inside) ∙ ap (λ (x : ℕ). x ∷ drop (a + 1) t) h.is

tail : List ℕ → List ℕ
tail [] = []
tail (x ∷ xs) = xs

minus_bad : {t : List ℕ} {a : ℕ} → HasMinus t a → ((w : ℕ) (r : List ℕ) → Begins (drop (a + 1) t) (suc w) 10 r → ⊥) → (z : ℤ) (r : List ℕ)
    → Signed (drop a t) z 10 r → ⊥
unfolding tail
minus_bad m h (pos v) r s = started_first _ _ (decimal_started v) (sym s.spelt ∙ minus_split m)
minus_bad m h (negsuc v) r s = h v r (begins (suc v) 10 r (ap tail (sym (minus_split m) ∙ s.spelt)))

pub minus_as : {t : List ℕ} {a : ℕ} (n : Number) → HasMinus t a → MinusAs t (a + 1) n → CouplingAs t a n
minus_as (At x e) m h = record {
  coupling = negsuc h.number;
  is = record { spelt = minus_split m ∙ ap (λ (s : List ℕ). 45 ∷ s) h.is.spelt };
  code = h.code;
  within = h.within;
}
minus_as Bad m h = minus_bad m h

pub plus_none : (t : List ℕ) (a : ℕ) → (HasMinus t a → ⊥) → ((w : ℕ) (r : List ℕ) → Begins (drop a t) w 10 r → ⊥) → (z : ℤ) (r : List ℕ)
    → Signed (drop a t) z 10 r → ⊥
plus_none t a m f (pos v) r s = f v r (begins v 10 r s.spelt)
plus_none t a m f (negsuc v) r s = m (record { inside = omega (arith, long, length-drop a t); is = first })
  where
    long : length (drop a t) ≡ suc (length (decimal (suc v) ++ (10 ∷ r)))
    long = ap (length {A = ℕ}) s.spelt

    first : get_or t a 0 ≡ 45
    first =
        let z : a + 0 ≡ a = omega arith in
        sym (get_or-drop a t 0 0 ∙ ap (λ (k : ℕ). get_or t k 0) z) ∙ ap (λ (l : List ℕ). get_or l 0 0) s.spelt

-- ---- a line
abbrev NoLine : List ℕ → ℕ → ℕ → Type 0
NoLine t a n = (l : Edge) (r : List ℕ) → l.from < n → l.to < n → drop a t ≡ line_of l ++ r → ⊥

pub line_no_from : (t : List ℕ) (a n : ℕ) → SiteAs t a n Bad → NoLine t a n
line_no_from t a n f l r lf lt e = f l.from _ lf (begins _ 32 _ (e ∙ line_split l r))

module _ {t : List ℕ} {a n : ℕ} where
  module _ {i p : ℕ} (h : SiteAt t a n i p) where
    behind_from : (l : Edge) (r : List ℕ) → drop a t ≡ line_of l ++ r → drop p t ≡ decimal (suc l.to) ++ (32 ∷ (signed l.coupling ++ (10 ∷ r)))
    behind_from l r e = (same_number refl h.is (begins _ 32 _ (e ∙ line_split l r))).behind

    pub line_no_to : SiteAs t p n Bad → NoLine t a n
    line_no_to f l r lf lt e = f l.to _ lt (begins _ 32 _ (behind_from l r e))

    module _ {j q : ℕ} (k : SiteAt t p n j q) where
      behind_to : (l : Edge) (r : List ℕ) → drop a t ≡ line_of l ++ r → drop q t ≡ signed l.coupling ++ (10 ∷ r)
      behind_to l r e = (same_number refl k.is (begins _ 32 _ (behind_from l r e))).behind

      pub line_no_end : CouplingAs t q Bad → NoLine t a n
      line_no_end f l r lf lt e = f l.coupling r (record { spelt = behind_to l r e })

      pub line_at : {x e : ℕ} → CouplingAt t q x e → LineAt t a n i j x e
      line_at {x} {e} c = record {
        coupling = c.coupling;
        is =
            h.is.spelt
            ∙ (ap (λ (s : List ℕ). decimal (suc i) ++ (32 ∷ s)) (k.is.spelt ∙ ap (λ (s : List ℕ). decimal (suc j) ++ (32 ∷ s)) c.is.spelt)
            ∙ sym (line_split (record { from = i; to = j; coupling = c.coupling }) (drop e t)));
        code = c.code;
        from_small = h.small;
        to_small = k.small;
        within = c.within;
      }

-- ---- the first line
module _ (t : List ℕ) (n most : ℕ) where
  pub head_none : ExactAs t 0 32 n Bad → (m : ℕ) (r : List ℕ) → m ≤ most → t ≡ head_of n m ++ r → ⊥
  head_none f m r l e = f n _ (omega arith) (begins n 32 _ (e ∙ head_split n m r))

  module _ {v p : ℕ} (h : ExactAt t 0 32 n v p) where
    pub head_other : (v ≡ n → ⊥) → (m : ℕ) (r : List ℕ) → m ≤ most → t ≡ head_of n m ++ r → ⊥
    head_other d m r l e = d (same_number refl h.is (begins n 32 _ (e ∙ head_split n m r))).number

    pub head_as : v ≡ n → (k : Number) → ExactAs t p 10 most k → HeadAs t n most k
    head_as s (At m e) k = record {
      is = h.is.spelt ∙ ((λ i. decimal (s i) ++ (32 ∷ k.is.spelt i)) ∙ sym (head_split n m (drop e t)));
      few = k.small;
      within = k.within;
    }
    head_as s Bad k = λ m r l e. k m r l (begins m 10 r (same_number refl h.is (begins n 32 _ (e ∙ head_split n m r))).behind)
