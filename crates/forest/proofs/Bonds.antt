-- The forest grows bond by bond.
use Prim.Native.Nat.{ℕ, ◌+◌, ◌*◌, ◌≤◌, ◌<◌, zero-le}
use mathlib.Core.Path.{◌≡◌, refl, sym, ap, ◌∙◌}
use mathlib.Core.Logic.{◌⊎◌, inl, inr}
use mathlib.Core.Bool.{Bool}
use mathlib.Core.List.{List}
use native.Mathlib.Nat.{not-suc-le-zero, lt_of_not-le}
use native.Mathlib.Decide.{ℕ_discrete, dec_le}
use native.Mathlib.Omega.{arith}
use lib.ListN.{length, get_or}
use Rattle.lemmas.specs.Stores.{lt_of_ne}
use Rattle.forest.specs.Closure.{Only, none, more}
use Rattle.forest.specs.Forest.{Adds, Down, Keeps}
use Rattle.forest.specs.Steps.{Passes, Gathered, Listed, Part, Bonding}

-- ---- a loop that adds steps to a forest: after i of m turns q has p's links and those of B i
pub record Joining (p : List ℕ) (B : ℕ → ℕ → ℕ → Type 0) (m : ℕ) (q : List ℕ) (i : ℕ) : Type 0 where
  pub reached : i ≤ m
  pub keeps : Adds p (B i) q

-- the same with the list that a turn writes
pub record Joins (p : List ℕ) (B : ℕ → ℕ → ℕ → Type 0) (m room : ℕ) (q list : List ℕ) (i : ℕ) : Type 0 where
  pub forest : Joining p B m q i
  pub list_long : length list ≡ room

pub keeps_none : {p : List ℕ} {B : ℕ → ℕ → Type 0} → Down p → ((x y : ℕ) → B x y → ⊥) → Adds p B p
keeps_none d empty = record { long = refl; down = d; same = none empty }

-- q has B's steps beside p's, r has G's beside q's, and C has those of both
pub keeps_more : {p q r : List ℕ} {B G C : ℕ → ℕ → Type 0} → Adds p B q → Adds q G r
    → ((x y : ℕ) → B x y → C x y) → ((x y : ℕ) → G x y → C x y) → ((x y : ℕ) → C x y → B x y ⊎ G x y) → Adds p C r
keeps_more k l bc gc cbg = record { long = l.long ∙ k.long; down = l.down; same = more l.same k.same bc gc cbg }

-- ---- a list of sites, each joined along its bond k
module _ (d k : ℕ) (fwd list : List ℕ) where
  listed_none : (x y : ℕ) → Listed d k fwd list 0 x y → ⊥
  listed_none x y h = not-suc-le-zero h.among.within

  pub listed_start : (m : ℕ) {p : List ℕ} → Down p → Joining p (Listed d k fwd list) m p 0
  listed_start m h = record { reached = zero-le; keeps = keeps_none h listed_none }

  -- a turn: the site a, which stands at t, is joined to the end b of its bond
  pub listed_more : {m t a b : ℕ} {p q r : List ℕ} → Joining p (Listed d k fwd list) m q t → t < m → a ≡ get_or list t 0 → b ≡ get_or fwd (a * d + k) 0
      → Adds q (Only a b) r → Joining p (Listed d k fwd list) m r (t + 1)
  listed_more {m} {t} {a} {b} j l ea eb u = record { reached = omega arith; keeps = keeps_more j.keeps u kept new split }
    where
      kept : (x y : ℕ) → Listed d k fwd list t x y → Listed d k fwd list (t + 1) x y
      kept x y h = record { among = record { place = h.among.place; within = omega (arith, h.among.within); is = h.among.is }; leads = h.leads }

      new : (x y : ℕ) → Only a b x y → Listed d k fwd list (t + 1) x y
      new x y h = rw (h.0, h.1) (record { among = record { place = t; within = omega arith; is = sym ea }; leads = sym eb })

      split : (x y : ℕ) → Listed d k fwd list (t + 1) x y → Listed d k fwd list t x y ⊎ Only a b x y
      split x y h = go (ℕ_discrete h.among.place t)
        where
          go : Dec (h.among.place ≡ t) → Listed d k fwd list t x y ⊎ Only a b x y
          go (no ne) = inl (record {
            among = record { place = h.among.place; within = lt_of_ne h.among.within ne; is = h.among.is };
            leads = h.leads;
          })
          go (yes e) = inr (site, sym h.leads ∙ (ap (λ (z : ℕ). get_or fwd (z * d + k) 0) site ∙ sym eb))
            where
              site : x ≡ a
              site = sym h.among.is ∙ (ap (λ (z : ℕ). get_or list z 0) e ∙ sym ea)

-- ---- a block: the sites from lo below hi, one direction after another
module _ (d : ℕ) (fwd : List ℕ) (f : ℕ → ℕ → Bool) (lo hi : ℕ) where
  part_none : (x y : ℕ) → Part d fwd f lo hi 0 x y → ⊥
  part_none x y h = not-suc-le-zero h.dir_lt

  pub block_start : {p : List ℕ} → Down p → Joining p (Part d fwd f lo hi) d p 0
  block_start h = record { reached = zero-le; keeps = keeps_none h part_none }

  -- a turn: the sites whose bond k holds are listed and joined
  pub block_more : {k m : ℕ} {p q r list : List ℕ} → Joining p (Part d fwd f lo hi) d q k → k < d → Gathered (λ x. f x k) lo hi list m
      → Adds q (Listed d k fwd list m) r → Joining p (Part d fwd f lo hi) d r (k + 1)
  block_more {k} {m} {p} {q} {r} {list} j l g u = record { reached = omega arith; keeps = keeps_more j.keeps u kept new split }
    where
      kept : (x y : ℕ) → Part d fwd f lo hi k x y → Part d fwd f lo hi (k + 1) x y
      kept x y h = record { from = h.from; below = h.below; dir = h.dir; dir_lt = omega (arith, h.dir_lt); on = h.on; leads = h.leads }

      new : (x y : ℕ) → Listed d k fwd list m x y → Part d fwd f lo hi (k + 1) x y
      new x y h =
          let p : Passes (λ x. f x k) lo hi x = rw h.among.is at (g.each h.among.place h.among.within) in
          record { from = p.from; below = p.below; dir = k; dir_lt = omega arith; on = p.on; leads = h.leads }

      split : (x y : ℕ) → Part d fwd f lo hi (k + 1) x y → Part d fwd f lo hi k x y ⊎ Listed d k fwd list m x y
      split x y h = go (ℕ_discrete h.dir k)
        where
          go : Dec (h.dir ≡ k) → Part d fwd f lo hi k x y ⊎ Listed d k fwd list m x y
          go (no ne) = inl (record { from = h.from; below = h.below; dir = h.dir; dir_lt = lt_of_ne h.dir_lt ne; on = h.on; leads = h.leads })
          go (yes e) = inr (record {
            among = g.all x (record { from = h.from; below = h.below; on = rw e at h.on });
            leads = rw e at h.leads;
          })

-- ---- all sites, one block after another
module _ (d : ℕ) (fwd : List ℕ) (f : ℕ → ℕ → Bool) where
  pub all_start : (n : ℕ) {p : List ℕ} → Down p → Joining p (λ i. Part d fwd f 0 i d) n p 0
  all_start n h = record { reached = zero-le; keeps = keeps_none h (λ x y b. not-suc-le-zero b.below) }

  pub all_more : {n lo hi : ℕ} {p q r : List ℕ} → Joining p (λ i. Part d fwd f 0 i d) n q lo → lo < hi → hi ≤ n
      → Adds q (Part d fwd f lo hi d) r → Joining p (λ i. Part d fwd f 0 i d) n r hi
  all_more {n} {lo} {hi} j l h u = record { reached = h; keeps = keeps_more j.keeps u kept new split }
    where
      kept : (x y : ℕ) → Part d fwd f 0 lo d x y → Part d fwd f 0 hi d x y
      kept x y b = record { from = b.from; below = omega (arith, b.below); dir = b.dir; dir_lt = b.dir_lt; on = b.on; leads = b.leads }

      new : (x y : ℕ) → Part d fwd f lo hi d x y → Part d fwd f 0 hi d x y
      new x y b = record { from = zero-le; below = b.below; dir = b.dir; dir_lt = b.dir_lt; on = b.on; leads = b.leads }

      split : (x y : ℕ) → Part d fwd f 0 hi d x y → Part d fwd f 0 lo d x y ⊎ Part d fwd f lo hi d x y
      split x y b = go (dec_le lo x)
        where
          go : Dec (lo ≤ x) → Part d fwd f 0 lo d x y ⊎ Part d fwd f lo hi d x y
          go (yes k) = inr (record { from = k; below = b.below; dir = b.dir; dir_lt = b.dir_lt; on = b.on; leads = b.leads })
          go (no k) = inl (record { from = zero-le; below = lt_of_not-le k; dir = b.dir; dir_lt = b.dir_lt; on = b.on; leads = b.leads })

-- what the steps ask still holds of a forest that was made of the first one
pub bonding_kept : {d room room' : ℕ} {fwd holds p q : List ℕ} {E : ℕ → ℕ → Type 0} → Bonding d fwd holds p room → Keeps p E q → room' ≡ room
    → Bonding d fwd holds q room'
bonding_kept {d} b k e = record {
  ahead = rw k.long b.ahead;
  holds_long = rw k.long b.holds_long;
  list_long = e ∙ (b.list_long ∙ sym k.long);
  down = k.down;
}
