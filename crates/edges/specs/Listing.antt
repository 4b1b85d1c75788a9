-- What the steps of writing promise: one bond's line, how many lines and bytes there are, and all lines.
use Rattle.std.specs.Prelude.{ℕ, zero, suc, ◌+◌, ◌*◌, ◌/◌, ◌%◌, ◌≤◌, ◌<◌, ◌≡◌, refl, List, [], ◌∷◌, ◌++◌, length, get_or, ℤ}
use Rattle.std.proofs.Common.{sym, ◌∙◌, ap, subst, append_assoc, append-nil, arith, div-lt_iff_lt-mul, div-add-mod', mod-lt, length-append}
use Rattle.std.proofs.Math.Decide.{ℕ_discrete}
use Rattle.paper.specs.Refusal.Rules.{Inverse, SmallCouplings}
use Rattle.edge_text.specs.declared.Edge.{Edge}
use Rattle.edge_text.specs.Form.{line_of, lines_of}
use Rattle.edge_text.specs.Writing.{SmallEdge}
use Rattle.edges.specs.Listed.{edge_at, entry_at, listed}

-- tested tables and couplings
pub record Tabled (n d : ℕ) (fwd : List ℕ) (js : List ℤ) : Type 0 where
  pub n_high : n ≤ 4096
  pub d_low : 1 ≤ d
  pub d_high : d ≤ 4
  pub fwd_long : length fwd ≡ n * d
  pub js_long : length js ≡ n * d
  pub bwd : List ℕ
  pub inverse : Inverse n d fwd bwd
  pub small : SmallCouplings js

pub record Bond (n d : ℕ) (fwd : List ℕ) (js : List ℤ) (b : ℕ) : Type 0 where
  pub tabled : Tabled n d fwd js
  pub below : b < n * d

pub record BondRoom (n d : ℕ) (fwd : List ℕ) (js : List ℤ) (b a long : ℕ) : Type 0 where
  pub bond : Bond n d fwd js b
  pub fits : a + length (lines_of (entry_at d fwd js b)) ≤ long

pub record ListRoom (n d : ℕ) (fwd : List ℕ) (js : List ℤ) (a long : ℕ) : Type 0 where
  pub tabled : Tabled n d fwd js
  pub fits : a + length (lines_of (listed d fwd js (n * d))) ≤ long

-- so many edges: at most one of a bond, at most 16,384 of a list; and so many bytes
pub record Told (list : List Edge) (r : ℕ) : Type 0 where
  pub is : r ≡ length list
  pub few : r ≤ 1

pub record Counted (list : List Edge) (r : ℕ) : Type 0 where
  pub is : r ≡ length list
  pub few : r ≤ 16384

pub record Measured (list : List Edge) (r : ℕ) : Type 0 where
  pub is : r ≡ length (lines_of list)
  pub few : r ≤ 409600

-- ---- laws
pub lines_append : (xs ys : List Edge) → lines_of (xs ++ ys) ≡ lines_of xs ++ lines_of ys
unfolding lines_of
lines_append [] ys = refl
lines_append (x ∷ xs) ys = ap (λ (s : List ℕ). line_of x ++ s) (lines_append xs ys) ∙ sym (append_assoc (line_of x) (lines_of xs) (lines_of ys))

pub lines_one : (e : Edge) → lines_of (e ∷ []) ≡ line_of e
unfolding lines_of
lines_one e = simp append-nil

-- the bond b is of site b / d, in direction b % d
pub record Way (n d b : ℕ) : Type 0 where
  pub site : b / d < n
  pub way : b % d < d
  pub is : b / d * d + b % d ≡ b

pub way_of : (n d b : ℕ) → 1 ≤ d → b < n * d → Way n d b
way_of n d b p l = record { site = (div-lt_iff_lt-mul p).1 l; way = mod-lt b p; is = div-add-mod' b d }

pub inside : {n d : ℕ} {fwd bwd : List ℕ} → Inverse n d fwd bwd → (b : ℕ) → 1 ≤ d → b < n * d → get_or fwd b 0 < n
inside {n} {d} {fwd} v b p l =
    let w = way_of n d b p l in
    subst (λ (x : ℕ). get_or fwd x 0 < n) w.is (v.there (b / d) (b % d) w.site w.way).inside

pub small_edge : {n d : ℕ} {fwd : List ℕ} {js : List ℤ} {b : ℕ} → Bond n d fwd js b → SmallEdge (edge_at d fwd js b)
small_edge {n} {d} {fwd} {js} {b} h =
    let t = h.tabled in
    record {
      from_low = omega (arith, (way_of n d b t.d_low h.below).site, t.n_high);
      to_low = omega (arith, inside t.inverse b t.d_low h.below, t.n_high);
      coupling_low = t.small b (omega (arith, h.below, t.js_long));
    }

-- a longer list has more bytes
pub listed_grows : (d : ℕ) (fwd : List ℕ) (js : List ℤ) (b m : ℕ) → b < m
    → length (lines_of (listed d fwd js b)) + length (lines_of (entry_at d fwd js b)) ≤ length (lines_of (listed d fwd js m))
unfolding listed
listed_grows d fwd js b zero l = absurd (omega arith)
listed_grows d fwd js b (suc m) l = at (ℕ_discrete b m) (λ q. listed_grows d fwd js b m q)
  where
    sum : (k : ℕ) → length (lines_of (listed d fwd js k ++ entry_at d fwd js k)) ≡ length (lines_of (listed d fwd js k)) + length (lines_of (entry_at d fwd js k))
    sum k = ap length (lines_append (listed d fwd js k) (entry_at d fwd js k)) ∙ length-append (lines_of (listed d fwd js k)) (lines_of (entry_at d fwd js k))

    at : Dec (b ≡ m) → (b < m → length (lines_of (listed d fwd js b)) + length (lines_of (entry_at d fwd js b)) ≤ length (lines_of (listed d fwd js m)))
        → length (lines_of (listed d fwd js b)) + length (lines_of (entry_at d fwd js b)) ≤ length (lines_of (listed d fwd js m ++ entry_at d fwd js m))
    at (yes e) ih = rw e (omega (arith, sum m))
    at (no e) ih = let h = ih (omega arith) in omega (arith, sum m)
