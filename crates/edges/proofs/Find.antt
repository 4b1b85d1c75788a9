-- The look-up of a bond: what a scan of one site's bonds, and then of the other's, tells.
use Prim.Native.Nat.{ℕ, ◌+◌, ◌*◌, ◌≤◌, ◌<◌}
use mathlib.Core.Path.{◌≡◌, refl, sym, ◌∙◌, ap, subst}
use mathlib.Core.Logic.{inl, inr}
use mathlib.Core.Bool.{true, false, ◌&&◌}
use mathlib.Core.List.{List}
use native.Mathlib.Omega.{arith}
use native.Mathlib.Nat.{mul-le-mul_right, suc-mul}
use native.Mathlib.Decide.{dec_lt, ℕ_discrete}
use borrow.Author.Tests.{eqb-true, eq-eqb}
use lib.Dec.{eqb}
use lib.ListN.{get_or}
use Rattle.lemmas.specs.Bools.{and_left, and_right, never}
use Rattle.lemmas.specs.Cells.{cell_lt}
use Rattle.edges.specs.Bonds.{Ahead, Joins}
use Rattle.edges.specs.Filling.{Open, Ways, ScanAs, Celled, Ordered, FoundAs}

-- ---- one site
pub record Scanning (d : ℕ) (fwd cells : List ℕ) (from to e : ℕ) : Type 0 where
  pub within : e ≤ d
  pub before : (k : ℕ) → k < e → Open fwd cells to (from * d + k) → ⊥

module _ (d : ℕ) (fwd cells : List ℕ) (from to : ℕ) where
  pub scanning_none : Scanning d fwd cells from to 0
  scanning_none = record { within = omega arith; before = λ k l o. omega arith }

  module _ (e : ℕ) (s : Scanning d fwd cells from to e) (l : e < d) (f x : ℕ) (ef : f ≡ get_or fwd (from * d + e) 0) (ex : x ≡ get_or cells (from * d + e) 0) where
    pub scanning_more : (eqb f to && eqb x 0) ≡ false → Scanning d fwd cells from to (e + 1)
    scanning_more h = record { within = omega arith; before = at }
      where
        closed : Open fwd cells to (from * d + e) → ⊥
        closed o = never (sym h ∙ rw (eq-eqb f to (ef ∙ o.leads), eq-eqb x 0 (ex ∙ o.is_free)) refl)

        at : (k : ℕ) → k < e + 1 → Open fwd cells to (from * d + k) → ⊥
        at k q o = go (ℕ_discrete k e)
          where
            go : Dec (k ≡ e) → ⊥
            go (yes p) = closed (subst (λ (y : ℕ). Open fwd cells to (from * d + y)) p o)
            go (no p) = s.before k (omega arith) o

    pub scanning_found : (eqb f to && eqb x 0) ≡ true → ScanAs d fwd cells from to e
    scanning_found h = record {
      within = s.within;
      before = s.before;
      found = λ _. record {
        leads = sym ef ∙ eqb-true f to (and_left (eqb f to) (eqb x 0) h);
        is_free = sym ex ∙ eqb-true x 0 (and_right (eqb f to) (eqb x 0) h);
      };
    }

  pub scanning_end : (e : ℕ) → Scanning d fwd cells from to e → d ≤ e → ScanAs d fwd cells from to e
  scanning_end e s l = record { within = s.within; before = s.before; found = λ q. absurd (omega arith) }

-- ---- two sites
pub ways_of : {n d : ℕ} {fwd cells : List ℕ} → Celled n d fwd cells → (i : ℕ) → i < n → Ways d fwd cells i
ways_of {n} {d} c i l =
    let h : i * d + d ≤ n * d = rw suc-mul at (mul-le-mul_right d l) in
    record { fwd_long = omega (arith, c.fwd_long); cells_long = omega (arith, c.cells_long) }

module _ {n d : ℕ} {fwd cells : List ℕ} {i j : ℕ} (o : Ordered n d fwd cells i j) where
  -- a free bond from a to b is one that the scan of a for b passes or finds
  ahead_open : (a b c e : ℕ) → ScanAs d fwd cells a b e → (w : Ahead d fwd a b c) → w.way < e → get_or cells c 0 ≡ 0 → ⊥
  ahead_open a b c e s w l f =
      s.before w.way l (record {
        leads = ap (λ (x : ℕ). get_or fwd x 0) (sym w.is) ∙ w.leads;
        is_free = ap (λ (x : ℕ). get_or cells x 0) (sym w.is) ∙ f;
      })

  rows : i < j → i * d + d ≤ j * d
  rows l = rw suc-mul at (mul-le-mul_right d l)

  pub found_first : (e : ℕ) → ScanAs d fwd cells i j e → e < d → FoundAs n d fwd cells i j (i * d + e)
  found_first e s l =
      let b = cell_lt n d i e o.pair.first l in
      record {
        within = omega arith;
        joins = λ _. inl (record { way = e; below = l; is = refl; leads = (s.found l).leads });
        is_free = λ _. (s.found l).is_free;
        least = least;
      }
    where
      least : (c : ℕ) → c < i * d + e → Joins d fwd i j c → get_or cells c 0 ≡ 0 → ⊥
      least c q (inl w) f = ahead_open i j c e s w (omega (arith, w.is)) f
      least c q (inr w) f = at (dec_lt i j)
        where
          at : Dec (i < j) → ⊥
          at (yes h) = omega (arith, rows h, w.is)
          at (no h) =
              let same : j ≡ i = let r = o.rising in omega arith in
              ahead_open i j c e s (record { way = w.way; below = w.below; is = rw (← same) w.is; leads = rw same w.leads })
              (omega (arith, subst (λ (x : ℕ). c ≡ x * d + w.way) same w.is)) f

  module _ (e : ℕ) (s : ScanAs d fwd cells i j e) (full : d ≤ e) (f : ℕ) (t : ScanAs d fwd cells j i f) where
    pub found_second : f < d → FoundAs n d fwd cells i j (j * d + f)
    found_second l =
        let b = cell_lt n d j f o.pair.second l in
        record {
          within = omega arith;
          joins = λ _. inr (record { way = f; below = l; is = refl; leads = (t.found l).leads });
          is_free = λ _. (t.found l).is_free;
          least = least;
        }
      where
        least : (c : ℕ) → c < j * d + f → Joins d fwd i j c → get_or cells c 0 ≡ 0 → ⊥
        least c q (inl w) g = ahead_open i j c e s w (let h = w.below in omega arith) g
        least c q (inr w) g = ahead_open j i c f t w (omega (arith, w.is)) g

    pub found_none : d ≤ f → FoundAs n d fwd cells i j (n * d)
    found_none l = record { within = omega arith; joins = λ q. absurd (omega arith); is_free = λ q. absurd (omega arith); least = least }
      where
        least : (c : ℕ) → c < n * d → Joins d fwd i j c → get_or cells c 0 ≡ 0 → ⊥
        least c q (inl w) g = ahead_open i j c e s w (let h = w.below in omega arith) g
        least c q (inr w) g = ahead_open j i c f t w (let h = w.below in omega arith) g

joins_swap : {d : ℕ} {fwd : List ℕ} {i j b : ℕ} → Joins d fwd i j b → Joins d fwd j i b
joins_swap (inl w) = inr w
joins_swap (inr w) = inl w

pub found_swap : {n d : ℕ} {fwd cells : List ℕ} {i j b : ℕ} → FoundAs n d fwd cells j i b → FoundAs n d fwd cells i j b
found_swap f = record {
  within = f.within;
  joins = λ l. joins_swap (f.joins l);
  is_free = f.is_free;
  least = λ c l w g. f.least c l (joins_swap w) g;
}
