-- Lists of sites: the sites that pass a test, gathered from the left, and the links along their bonds.
use Prim.Native.Nat.{ℕ, ◌+◌, ◌*◌, ◌≤◌, ◌<◌}
use mathlib.Core.Path.{◌≡◌, refl, sym, ap, ◌∙◌}
use mathlib.Core.Bool.{Bool, true, false}
use mathlib.Core.List.{List}
use native.Mathlib.Nat.{suc-mul, not-suc-le-zero, add-zero}
use native.Mathlib.Numerals.{add-one}
use native.Mathlib.Decide.{ℕ_discrete}
use native.Mathlib.Omega.{arith}
use lib.ListN.{length, get_or, set, length-set}
use Rattle.lemmas.specs.Counts.{bit}
use Rattle.lemmas.specs.Stores.{AfterSet, AfterSet.here, AfterSet.there, after_set, lt_of_ne}
use Rattle.forest.specs.Steps.{Passes, Among, Gathered}

module _ {f : ℕ → Bool} {lo i : ℕ} {list : List ℕ} {m : ℕ} (h : Gathered f lo i list m) (room : m < length list) where
  -- what was listed stays listed
  before : (t : ℕ) → t < m → get_or (set list m i) t 0 ≡ get_or list t 0
  before t l = go (after_set list m i t room)
    where
      go : AfterSet list m i t → get_or (set list m i) t 0 ≡ get_or list t 0
      go (here e g) = absurd (omega arith)
      go (there ne g) = g

  still : (k t : ℕ) → t < m → i ≤ k → Passes f lo k (get_or (set list m i) t 0)
  still k t l ik = let p = h.each t l in rw (before t l) (record { from = p.from; below = omega (arith, p.below); on = p.on })

  listed : (j x : ℕ) → m ≤ j → Passes f lo i x → Among (set list m i) j x
  listed j x mj p = let a = h.all x p in record { place = a.place; within = omega (arith, a.within); is = before a.place a.within ∙ a.is }

  earlier : {x : ℕ} → Passes f lo (i + 1) x → (x ≡ i → ⊥) → Passes f lo i x
  earlier p ne = record { from = p.from; below = lt_of_ne p.below ne; on = p.on }

  site_on : f i ≡ true → Gathered f lo (i + 1) (set list m i) (m + 1)
  site_on on = record {
    short = omega (arith, h.short);
    each = λ t l. each t l (after_set list m i t room);
    all = λ x p. all x p (ℕ_discrete x i);
  }
    where
      each : (t : ℕ) → t < m + 1 → AfterSet list m i t → Passes f lo (i + 1) (get_or (set list m i) t 0)
      each t l (here e g) = rw g (record { from = omega (arith, h.short); below = omega arith; on = on })
      each t l (there ne g) = still (i + 1) t (lt_of_ne l ne) (omega arith)

      new : AfterSet list m i m → get_or (set list m i) m 0 ≡ i
      new (here e g) = g
      new (there ne g) = absurd (ne refl)

      all : (x : ℕ) → Passes f lo (i + 1) x → Dec (x ≡ i) → Among (set list m i) (m + 1) x
      all x p (yes e) = record { place = m; within = omega arith; is = new (after_set list m i m room) ∙ sym e }
      all x p (no ne) = listed (m + 1) x (omega arith) (earlier p ne)

  site_off : f i ≡ false → Gathered f lo (i + 1) (set list m i) m
  site_off off = record {
    short = omega (arith, h.short);
    each = λ t l. still (i + 1) t l (omega arith);
    all = λ x p. all x p (ℕ_discrete x i);
  }
    where
      all : (x : ℕ) → Passes f lo (i + 1) x → Dec (x ≡ i) → Among (set list m i) m x
      all x p (yes e) = absurd (let z : ◌≡◌ {A = ℕ} 0 1 = cc (p.on, off, ap f e) in omega arith)
      all x p (no ne) = listed m x (omega arith) (earlier p ne)

  site_more : (b : Bool) → f i ≡ b → Gathered f lo (i + 1) (set list m i) (m + bit b)
  site_more true e = site_on e
  site_more false e = rw (add-zero m) (site_off e)

-- ---- `gather` has listed the sites below i, and stands at the byte at
pub record Gather (f : ℕ → Bool) (lo hi d k room : ℕ) (list : List ℕ) (m at i : ℕ) : Type 0 where
  pub long : length list ≡ room
  pub reached : i ≤ hi
  pub cell : at ≡ i * d + k
  pub sites : Gathered f lo i list m

pub gather_none : (f : ℕ → Bool) (lo hi d k : ℕ) (list : List ℕ) → lo ≤ hi → Gather f lo hi d k (length list) list 0 (lo * d + k) lo
gather_none f lo hi d k list h = record {
  long = refl;
  reached = h;
  cell = refl;
  sites = record { short = omega arith; each = λ t l. absurd (not-suc-le-zero l); all = λ x p. absurd (omega (arith, p.from, p.below)) };
}

module _ {f : ℕ → Bool} {lo hi d k room : ℕ} {list : List ℕ} {m at i : ℕ} (h : Gather f lo hi d k room list m at i) (l : i < hi) (fits : hi ≤ lo + room) where
  pub gather_room : m < length list
  gather_room = omega (arith, h.long, h.sites.short)

  pub gather_more : (b : Bool) → f i ≡ b → (o : ℕ) → o ≡ bit b → Gather f lo hi d k room (set list m i) (m + o) (at + d) (i + 1)
  gather_more b e o eo = rw eo (record {
    long = simp length-set h.long;
    reached = omega arith;
    cell = rw (add-one, suc-mul) (omega (arith, h.cell));
    sites = site_more h.sites gather_room b e;
  })
