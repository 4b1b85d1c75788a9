-- Reading what was written gives the same table, wherever no two bonds join the same pair of sites.
use Prim.Native.Nat.{ℕ, zero, suc, ◌*◌, ◌/◌, ◌%◌, ◌≤◌, ◌<◌}
use Rattle.std.specs.Prelude.{◌≡◌, Bool, eqb, ltb, length, get_or, take, ℤ, pos}
use Rattle.std.proofs.Math.Path.{refl, sym}
use Rattle.std.proofs.Common.{◌∙◌, ap, subst, inl, arith, take_at}
use Rattle.std.proofs.Math.Bool.{true, false, cond}
use mathlib.Core.List.{List, [], ◌∷◌, ◌++◌, append-nil}
use Rattle.std.proofs.Math.Decide.{dec_lt, ℕ_discrete}
use borrow.Author.Tests.{lt-ltb, le-ltb, eq-eqb, ne_eqb}
use Rattle.std.proofs.Math.Seq.{ext_get_or}
use Rattle.lemmas.specs.Ints.{eq_z}
use Rattle.paper.specs.Refusal.Rules.{Sizes, Inverse, SmallCouplings}
use Rattle.lemmas.specs.Ints.{is_same}
use Rattle.edge_text.specs.Form.{text_of}
use Rattle.edges.specs.Cases.{Listing.Wrote}
use Rattle.edges.specs.Bonds.{Joins, Cell, free, holds, Lowest, Fills, value_of, table_of}
use Rattle.edges.specs.Listed.{edge_at, listed}
use Rattle.edges.specs.Fills.{fills_behind, table_long, table_at}
use Rattle.edges.specs.Listing.{way_of}
use Rattle.edges.specs.Answer.{net_of, Exact, list_of, IsList, SmallList, ReadAnswers, WriteAnswers}
use Rattle.edges.specs.Determined.{Same, cells_unique, read_edges_determined}

-- no two bonds join the same pair
abbrev pub Simple : ℕ → ℕ → List ℕ → Type 0
Simple n d fwd = (i j b c : ℕ) → b < n * d → c < n * d → Joins d fwd i j b → Joins d fwd i j c → b ≡ c

-- ---- the cells after the lines of the bonds below m
cell_of : ℤ → Cell
cell_of z = cond (eq_z z (pos 0)) free (holds z)

after : List ℤ → ℕ → ℕ → Cell
after js m b = cond (ltb b m) (cell_of (get_or js b (pos 0))) free

module _ (n d : ℕ) (fwd : List ℕ) (js : List ℤ) (p : 1 ≤ d) (one : Simple n d fwd) where
  own : (b : ℕ) → b < n * d → Joins d fwd (b / d) (get_or fwd b 0) b
  own b l = let w = way_of n d b p l in inl (record { way = b % d; below = w.way; is = sym w.is; leads = refl })

  lowest : (m : ℕ) → m < n * d → Lowest n d fwd (after js m) (m / d) (get_or fwd m 0) m
  unfolding after
  lowest m l = record {
    below = l;
    joins = own m l;
    is_free = rw (le-ltb m m (omega arith)) refl;
    least = λ c q w f. let e = one (m / d) (get_or fwd m 0) c m (omega arith) l w (own m l) in omega arith;
  }

  -- a bond more
  same_after : (m : ℕ) (s : Cell) → cell_of (get_or js m (pos 0)) ≡ s → (b : ℕ) → after js (suc m) b ≡ cond (eqb b m) s (after js m b)
  unfolding after
  same_after m s e b = at (dec_lt b m) (ℕ_discrete b m)
    where
      at : Dec (b < m) → Dec (b ≡ m)
          → cond (ltb b (suc m)) (cell_of (get_or js b (pos 0))) free ≡ cond (eqb b m) s (cond (ltb b m) (cell_of (get_or js b (pos 0))) free)
      at (yes l) q = rw (lt-ltb b (suc m) (omega arith), ne_eqb b m (λ k. omega arith), lt-ltb b m l) refl
      at (no l) (yes q) = rw (lt-ltb b (suc m) (omega arith), eq-eqb b m q) (ap (λ (k : ℕ). cell_of (get_or js k (pos 0))) q ∙ e)
      at (no l) (no q) = rw (le-ltb b (suc m) (omega arith), ne_eqb b m q, le-ltb b m (omega arith)) refl

  none_after : (b : ℕ) → after js 0 b ≡ free
  unfolding after
  none_after b = rw (le-ltb b 0 (omega arith)) refl

  -- a bond without a line leaves its cell as it is
  kept : (m b : ℕ) → cond (eqb b m) free (after js m b) ≡ after js m b
  unfolding after
  kept m b = at (ℕ_discrete b m)
    where
      at : Dec (b ≡ m) → cond (eqb b m) free (cond (ltb b m) (cell_of (get_or js b (pos 0))) free) ≡ cond (ltb b m) (cell_of (get_or js b (pos 0))) free
      at (yes q) = rw (eq-eqb b m q, le-ltb b m (omega arith)) refl
      at (no q) = rw (ne_eqb b m q) refl

  fills : (m : ℕ) → m ≤ n * d → Fills n d fwd (λ b. free) (listed d fwd js m) (after js m)
  unfolding listed cell_of
  fills zero l = λ i b. none_after b i
  fills (suc m) l = at (eq_z (get_or js m (pos 0)) (pos 0)) refl (fills m (omega arith))
    where
      at : (t : Bool) → eq_z (get_or js m (pos 0)) (pos 0) ≡ t → Fills n d fwd (λ b. free) (listed d fwd js m) (after js m)
          → Fills n d fwd (λ b. free) (listed d fwd js m ++ cond t [] (edge_at d fwd js m ∷ [])) (after js (suc m))
      at true e ih =
          let same : after js (suc m) ≡ after js m = λ i b. (same_after m free (rw e refl) b ∙ kept m b) i in
          rw append-nil (subst (λ (c : ℕ → Cell). Fills n d fwd (λ b. free) (listed d fwd js m) c) (sym same) ih)
      at false e ih =
          fills_behind n d fwd (listed d fwd js m) (edge_at d fwd js m ∷ []) (λ b. free) (after js m) (after js (suc m)) ih
          (m, lowest m (omega arith), λ i b. same_after m (holds (get_or js m (pos 0))) (rw e refl) b i)

  refilled : length js ≡ n * d → table_of (n * d) (after js (n * d)) ≡ js
  unfolding after cell_of
  refilled l = ext_get_or (pos 0) (table_of (n * d) (after js (n * d))) js (table_long (n * d) (after js (n * d)) ∙ sym l) at
    where
      back : (z : ℤ) (t : Bool) → eq_z z (pos 0) ≡ t → value_of (cond t free (holds z)) ≡ z
      back z true e = sym (is_same z (pos 0) e)
      back z false e = refl

      at : (k : ℕ) → k < length (table_of (n * d) (after js (n * d))) → get_or (table_of (n * d) (after js (n * d))) k (pos 0) ≡ get_or js k (pos 0)
      at k h =
          let q : k < n * d = rw (table_long (n * d) (after js (n * d))) at h in
          table_at (n * d) k (after js (n * d)) q ∙ rw (lt-ltb k (n * d) q) (back (get_or js k (pos 0)) (eq_z (get_or js k (pos 0)) (pos 0)) refl)

-- ---- the text of a table is read as that table
module _ (n d : ℕ) (fwd bwd : List ℕ) (js lent : List ℤ) (one : Simple n d fwd) (s : Sizes n d 1) (x : Exact (net_of n d fwd bwd) js)
    (v : Inverse n d fwd bwd) (small : SmallCouplings js) (room : length lent ≡ n * d) where
  abbrev text : List ℕ
  text = text_of n (list_of (net_of n d fwd bwd) js)

  is_list : IsList n d fwd text
  is_list = record {
    list = listed d fwd js (n * d);
    cells = after js (n * d);
    made = record { is = refl; fills = fills n d fwd js s.d_low one (n * d) (omega arith) };
  }

  table : table_of (n * d) is_list.cells ≡ js
  unfolding is_list
  table = refilled n d fwd js s.d_low one x.couplings_long

  small_list : SmallList n d fwd text
  small_list list cells made =
      subst (λ (c : ℕ → Cell). SmallCouplings (table_of (n * d) c)) (cells_unique n d fwd text is_list (record { list = list; cells = cells; made = made }))
      (rw table small)

  reads : ReadAnswers (net_of n d fwd bwd) text lent 0 js
  reads = record {
    valid = (s, (record { fwd_long = x.fwd_long; bwd_long = x.bwd_long; couplings_long = room }, (v, (is_list, (small_list, tt)))));
    read = is_list;
    table = sym table;
  }

  pub read_back : (r : ℕ) (js' : List ℤ) → ReadAnswers (net_of n d fwd bwd) text lent r js' → Same r 0 js' js
  read_back r js' p = read_edges_determined n d fwd bwd text lent js' js r 0 p reads

-- what `write_edges` wrote, `read_edges` reads as the same table, into any couplings of the right length
pub round_trip : (n d : ℕ) (fwd bwd : List ℕ) (js : List ℤ) (out out' : List ℕ) (m : ℕ) → WriteAnswers (net_of n d fwd bwd) js out (Wrote m) out'
    → Simple n d fwd → (lent : List ℤ) → length lent ≡ n * d → (r : ℕ) (js' : List ℤ)
    → ReadAnswers (net_of n d fwd bwd) (take m out') lent r js' → Same r 0 js' js
round_trip n d fwd bwd js out out' m w one lent room r js' p =
    let k = w.valid in
    read_back n d fwd bwd js lent one k.0 k.1.0 k.1.1.0 k.1.1.1.0 room r js'
    (subst (λ (t : List ℕ). ReadAnswers (net_of n d fwd bwd) t lent r js') same p)
  where
    count : m ≡ length (text_of n (list_of (net_of n d fwd bwd) js))
    count = ap (λ (vs : List ℕ). get_or vs 0 0) w.told

    same : take m out' ≡ text_of n (list_of (net_of n d fwd bwd) js)
    same = rw w.is (take_at _ _ m (sym count))
