-- One bond's line, and the bonds one by one.
use Prim.Native.Nat.{ℕ, ◌+◌, ◌*◌, ◌≤◌, ◌<◌}
use mathlib.Core.Path.{◌≡◌, refl, sym, ◌∙◌, ap, subst}
use mathlib.Core.Bool.{Bool, true, false}
use mathlib.Core.List.{List, [], ◌∷◌, ◌++◌}
use native.Mathlib.Omega.{arith}
use native.Mathlib.Numerals.{add-one}
use lib.ListN.{length, get_or, length-append}
use lib.IntN.{ℤ, pos}
use mir.Syntax.{w32}
use mir.Val.{SFits, to_z, of_z}
use mir.Facts.{to_z-of_z}
use Rattle.lemmas.specs.Ints.{eq_z}
use Rattle.lemmas.specs.Held.{small_fits}
use Rattle.edge_text.specs.declared.Edge.{Edge}
use Rattle.edge_text.specs.Form.{line_of, lines_of}
use Rattle.edge_text.specs.Writing.{Put, Long, put_none, put_both, put_long}
use Rattle.edges.specs.Listed.{edge_at, entry_at, listed}
use Rattle.edges.specs.Listing.{Tabled, Bond, BondRoom, Told, Counted, Measured, lines_append, lines_one, listed_grows}

module _ {n d : ℕ} {fwd : List ℕ} {js : List ℤ} {b : ℕ} (h : Bond n d fwd js b) where
  abbrev z : ℤ
  z = get_or js b (pos 0)

  pub coupling_fits : SFits w32 z
  coupling_fits = small_fits w32 z 1000000 (h.tabled.small b (omega (arith, h.below, h.tabled.js_long))) tt

  -- of the coupling that is read, as its bits are read back
  abbrev zero : Bool
  zero = eq_z (to_z w32 (of_z w32 z)) (pos 0)

  no_entry : zero ≡ true → entry_at d fwd js b ≡ []
  no_entry e = rw (sym (ap (λ (y : ℤ). eq_z y (pos 0)) (to_z-of_z coupling_fits)) ∙ e) refl

  an_entry : zero ≡ false → entry_at d fwd js b ≡ edge_at d fwd js b ∷ []
  an_entry e = rw (sym (ap (λ (y : ℤ). eq_z y (pos 0)) (to_z-of_z coupling_fits)) ∙ e) refl

  module _ (e : zero ≡ true) where
    pub none_told : Told (entry_at d fwd js b) 0
    none_told = record { is = rw (no_entry e) refl; few = omega arith }

    pub none_long : Long (lines_of (entry_at d fwd js b)) 25 0
    unfolding lines_of
    none_long = record { bytes = rw (no_entry e) refl; few = omega arith }

    pub none_put : (before : List ℕ) (a : ℕ) → Put (lines_of (entry_at d fwd js b)) before a a before
    unfolding lines_of
    none_put before a = rw (no_entry e) (put_none before a)

  module _ (e : zero ≡ false) where
    pub one_told : Told (entry_at d fwd js b) 1
    one_told = record { is = rw (an_entry e) refl; few = omega arith }

    one_line : lines_of (entry_at d fwd js b) ≡ line_of (edge_at d fwd js b)
    one_line = rw (an_entry e) (lines_one (edge_at d fwd js b))

    pub one_room : (a long : ℕ) → a + length (lines_of (entry_at d fwd js b)) ≤ long → a + length (line_of (edge_at d fwd js b)) ≤ long
    one_room a long f = rw one_line at f

    pub one_long : (g : Edge) (r : ℕ) → g ≡ edge_at d fwd js b → Long (line_of g) 25 r → Long (lines_of (entry_at d fwd js b)) 25 r
    one_long g r q l = rw one_line (subst (λ (x : Edge). Long (line_of x) 25 r) q l)

    pub one_put : (g : Edge) (before after : List ℕ) (a r : ℕ) → g ≡ edge_at d fwd js b → Put (line_of g) before a r after
        → Put (lines_of (entry_at d fwd js b)) before a r after
    one_put g before after a r q p = rw one_line (subst (λ (x : Edge). Put (line_of x) before a r after) q p)

-- ---- the bonds below b
abbrev some : ℕ → List ℕ → List ℤ → ℕ → List Edge
some d fwd js b = listed d fwd js b

pub record Counting (n d : ℕ) (fwd : List ℕ) (js : List ℤ) (m r b : ℕ) : Type 0 where
  pub bonds : m ≡ n * d
  pub within : b ≤ m
  pub is : r ≡ length (some d fwd js b)
  pub few : r ≤ b

pub record Measuring (n d : ℕ) (fwd : List ℕ) (js : List ℤ) (m r b : ℕ) : Type 0 where
  pub bonds : m ≡ n * d
  pub within : b ≤ m
  pub is : r ≡ length (lines_of (some d fwd js b))
  pub few : r ≤ 25 * b

pub record Putting (n d : ℕ) (fwd : List ℕ) (js : List ℤ) (before : List ℕ) (a m : ℕ) (after : List ℕ) (r b : ℕ) : Type 0 where
  pub bonds : m ≡ n * d
  pub within : b ≤ m
  pub put : Put (lines_of (some d fwd js b)) before a r after

module _ (n d : ℕ) (fwd : List ℕ) (js : List ℤ) where
  pub counting_none : Counting n d fwd js (n * d) 0 0
  unfolding listed
  counting_none = record { bonds = refl; within = omega arith; is = refl; few = omega arith }

  pub measuring_none : Measuring n d fwd js (n * d) 0 0
  unfolding listed lines_of
  measuring_none = record { bonds = refl; within = omega arith; is = refl; few = omega arith }

  pub putting_none : (before : List ℕ) (a : ℕ) → Putting n d fwd js before a (n * d) before a 0
  unfolding listed lines_of
  putting_none before a = record { bonds = refl; within = omega arith; put = put_none before a }

  more : (b : ℕ) → some d fwd js (b + 1) ≡ some d fwd js b ++ entry_at d fwd js b
  unfolding listed
  more b = rw (add-one b) refl

  lines_more : (b : ℕ) → lines_of (some d fwd js (b + 1)) ≡ lines_of (some d fwd js b) ++ lines_of (entry_at d fwd js b)
  lines_more b = ap lines_of (more b) ∙ lines_append (some d fwd js b) (entry_at d fwd js b)

  module _ (m b : ℕ) (l : b < m) where
    pub counting_more : (r x : ℕ) → Counting n d fwd js m r b → Told (entry_at d fwd js b) x → Counting n d fwd js m (r + x) (b + 1)
    counting_more r x c t = record {
      bonds = c.bonds;
      within = omega arith;
      is = let e = ap length (more b) in let q = length-append (some d fwd js b) (entry_at d fwd js b) in omega (arith, c.is, t.is);
      few = omega (arith, c.few, t.few);
    }

    pub measuring_more : (r x : ℕ) → Measuring n d fwd js m r b → Long (lines_of (entry_at d fwd js b)) 25 x → Measuring n d fwd js m (r + x) (b + 1)
    measuring_more r x c t = record {
      bonds = c.bonds;
      within = omega arith;
      is =
          let e = ap (length {A = ℕ}) (lines_more b) in
          let q = length-append (lines_of (some d fwd js b)) (lines_of (entry_at d fwd js b)) in
          omega (arith, c.is, t.bytes);
      few = omega (arith, c.few, t.few);
    }

    pub putting_more : {before mid after : List ℕ} {a p q : ℕ} → Putting n d fwd js before a m mid p b → Put (lines_of (entry_at d fwd js b)) mid p q after
        → Putting n d fwd js before a m after q (b + 1)
    putting_more c t = record { bonds = c.bonds; within = omega arith; put = rw (lines_more b) (put_both c.put t) }

    pub putting_room : {before mid : List ℕ} {a p : ℕ} → Tabled n d fwd js → Putting n d fwd js before a m mid p b
        → a + length (lines_of (some d fwd js (n * d))) ≤ length before → BondRoom n d fwd js b p (length mid)
    putting_room t c f = record {
      bond = record { tabled = t; below = let e = c.bonds in omega arith };
      fits = let e = c.bonds in omega (arith, listed_grows d fwd js b (n * d) (omega arith), c.put.next, put_long c.put);
    }

  module _ (few : n * d ≤ 16384) (m r b : ℕ) (l : m ≤ b) where
    pub counted : Counting n d fwd js m r b → Counted (some d fwd js (n * d)) r
    counted c =
        let e : b ≡ n * d = let q = c.within in let s = c.bonds in omega arith in
        record { is = rw (← e) c.is; few = omega (arith, c.few) }

    pub measured : Measuring n d fwd js m r b → Measured (some d fwd js (n * d)) r
    measured c =
        let e : b ≡ n * d = let q = c.within in let s = c.bonds in omega arith in
        record { is = rw (← e) c.is; few = omega (arith, c.few) }

  pub all_put : {before after : List ℕ} {a m r b : ℕ} → m ≤ b → Putting n d fwd js before a m after r b
      → Put (lines_of (some d fwd js (n * d))) before a r after
  all_put {b = b} l c = let e : b ≡ n * d = let q = c.within in let s = c.bonds in omega arith in rw (← e) c.put
