-- The sites whose byte is 1, listed from the first site on.
use Rattle.std.specs.Prelude.{ℕ, ◌+◌, ◌≤◌, ◌<◌, ◌≡◌, refl, ◌⊎◌, Bool, true, false, cond, ◌||◌, List, eqb, ltb, length, get_or, set}
use Rattle.std.proofs.Common.{sym, ◌∙◌, ap, inl, inr, add-zero, arith, eqb-true, lt-ltb, le-ltb, length-set}
use Rattle.std.proofs.Math.Decide.{ℕ_discrete, dec_lt}
use Rattle.std.proofs.lemmas.Bool.{eqb-false}
use Rattle.lemmas.specs.Counts.{bit}
use Rattle.lemmas.specs.Places.{Placed}
use Rattle.lemmas.specs.Stores.{AfterSet, AfterSet.here, AfterSet.there, after_set, lt_of_ne}
use Rattle.lemmas.specs.Tells.{Tells, Test, said, same, either}
use Rattle.paper.specs.Refusal.Rules.{Distinct}

-- the sites from `from` to below `to`
pub record Block (from to n : ℕ) : Type 0 where
  pub ordered : from ≤ to
  pub within : to ≤ n
  pub few : n ≤ 4096

-- one of them is marked
pub record MarkAmong (marks : List ℕ) (from to : ℕ) : Type 0 where
  pub place : ℕ
  pub low : from ≤ place
  pub high : place < to
  pub on : get_or marks place 0 ≡ 1

abbrev pub ended : ℕ → ℕ → ℕ
ended from n = cond (ltb (from + 64) n) (from + 64) n

-- a list with an entry for each site
pub record Room (n list : ℕ) : Type 0 where
  pub few : n ≤ 4096
  pub long : n ≤ list

-- the first k of the list are the marked sites below i, each once
pub record Collected (marks : List ℕ) (i : ℕ) (list : List ℕ) (k : ℕ) : Type 0 where
  pub short : k ≤ i
  pub below : (a : ℕ) → a < k → get_or list a 0 < i
  pub each : (a : ℕ) → a < k → get_or marks (get_or list a 0) 0 ≡ 1
  pub all : (j : ℕ) → j < i → get_or marks j 0 ≡ 1 → Placed k (λ a. get_or list a 0) j
  pub apart : Distinct k (λ a. get_or list a 0)

-- what a function leaves that lists them
pub record Collects (marks : List ℕ) (i : ℕ) (before after : List ℕ) (k : ℕ) : Type 0 where
  pub same_long : length after ≡ length before
  pub got : Collected marks i after k

-- ---- whether a block has one

-- i turns are done, and the flag tells of the sites below i
pub record Looked (marks : List ℕ) (from to i : ℕ) (found : Bool) : Type 0 where
  pub low : from ≤ i
  pub high : i ≤ to
  pub tells : Tells found (MarkAmong marks from i)

pub look_start : {from to : ℕ} (marks : List ℕ) → from ≤ to → Looked marks from to from false
look_start marks h = record { low = omega arith; high = h; tells = λ w. omega (arith, w.low, w.high) }

pub look_more :
    {marks : List ℕ} {from to i : ℕ} {a b : Bool} → Looked marks from to i a → i < to → Test b (get_or marks i 0 ≡ 1) → Looked marks from to (i + 1) (a || b)
look_more {marks} {from} {to} {i} {a} was l t = record {
  low = omega (arith, was.low);
  high = omega (arith, l);
  tells = (same (MarkAmong marks from (i + 1)) there back (either (said a _ was.tells) t)).says;
}
  where
    there : MarkAmong marks from i ⊎ (get_or marks i 0 ≡ 1) → MarkAmong marks from (i + 1)
    there (inl w) = record { place = w.place; low = w.low; high = omega (arith, w.high); on = w.on }
    there (inr e) = record { place = i; low = was.low; high = omega arith; on = e }

    back : MarkAmong marks from (i + 1) → MarkAmong marks from i ⊎ (get_or marks i 0 ≡ 1)
    back w = go (ℕ_discrete w.place i)
      where
        go : Dec (w.place ≡ i) → MarkAmong marks from i ⊎ (get_or marks i 0 ≡ 1)
        go (yes q) = inr (rw (← q) w.on)
        go (no q) = inl (record { place = w.place; low = w.low; high = lt_of_ne w.high q; on = w.on })

pub look_end : {marks : List ℕ} {from to i : ℕ} {a : Bool} → Looked marks from to i a → to ≤ i → Tells a (MarkAmong marks from to)
look_end {marks} {from} {to} {i} {a} w h = let e : i ≡ to = omega (arith, w.high) in rw e at w.tells

-- ---- where a block ends
pub ended_block : (from n : ℕ) → from < n → n ≤ 4096 → Block from (ended from n) n
ended_block from n l few = go (dec_lt (from + 64) n)
  where
    go : Dec (from + 64 < n) → Block from (ended from n) n
    go (yes h) = rw (lt-ltb (from + 64) n h) (record { ordered = omega arith; within = omega arith; few = few })
    go (no h) = rw (le-ltb (from + 64) n (omega arith)) (record { ordered = omega arith; within = omega arith; few = few })

pub ended_later : (from n : ℕ) → from < n → from < ended from n
ended_later from n l = go (dec_lt (from + 64) n)
  where
    go : Dec (from + 64 < n) → from < ended from n
    go (yes h) = rw (lt-ltb (from + 64) n h) (omega arith)
    go (no h) = rw (le-ltb (from + 64) n (omega arith)) l

-- ---- the list grows
pub none_collected : (marks list : List ℕ) → Collected marks 0 list 0
none_collected marks list = record {
  short = omega arith;
  below = λ a l. absurd (omega arith);
  each = λ a l. absurd (omega arith);
  all = λ j l e. absurd (omega arith);
  apart = λ a b al bl e. absurd (omega arith);
}

-- past a block without a mark
pub collected_past :
    {marks list : List ℕ} {from to k : ℕ} → Collected marks from list k → from ≤ to → (MarkAmong marks from to → ⊥) → Collected marks to list k
collected_past {marks} {list} {from} {to} {k} h le none = record {
  short = omega (arith, h.short);
  below = λ a l. omega (arith, h.below a l);
  each = h.each;
  all = λ j l e. all j l e (dec_lt j from);
  apart = h.apart;
}
  where
    all : (j : ℕ) → j < to → get_or marks j 0 ≡ 1 → Dec (j < from) → Placed k (λ a. get_or list a 0) j
    all j l e (yes q) = h.all j q e
    all j l e (no q) = absurd (none (record { place = j; low = omega arith; high = l; on = e }))

-- one site more: its number is stored, and counts if it is marked
module _ {marks list : List ℕ} {i k : ℕ} (h : Collected marks i list k) (room : k < length list) where
  before : (a : ℕ) → a < k → get_or (set list k i) a 0 ≡ get_or list a 0
  before a l = go (after_set list k i a room)
    where
      go : AfterSet list k i a → get_or (set list k i) a 0 ≡ get_or list a 0
      go (here e g) = absurd (omega arith)
      go (there ne g) = g

  last : get_or (set list k i) k 0 ≡ i
  last = go (after_set list k i k room)
    where
      go : AfterSet list k i k → get_or (set list k i) k 0 ≡ i
      go (here e g) = g
      go (there ne g) = absurd (ne refl)

  unmarked : (get_or marks i 0 ≡ 1 → ⊥) → Collected marks (i + 1) (set list k i) k
  unmarked off = record {
    short = omega (arith, h.short);
    below = λ a l. omega (arith, before a l, h.below a l);
    each = λ a l. rw (before a l) (h.each a l);
    all = λ j l e. all j l e (ℕ_discrete j i);
    apart = λ a b al bl e. h.apart a b al bl (sym (before a al) ∙ (e ∙ before b bl));
  }
    where
      all : (j : ℕ) → j < i + 1 → get_or marks j 0 ≡ 1 → Dec (j ≡ i) → Placed k (λ a. get_or (set list k i) a 0) j
      all j l e (yes q) = absurd (off (rw (← q) e))
      all j l e (no q) = let p = h.all j (lt_of_ne l q) e in (p.0, p.1, p.2 ∙ sym (before p.0 p.1))

  marked : get_or marks i 0 ≡ 1 → Collected marks (i + 1) (set list k i) (k + 1)
  marked on = record {
    short = omega (arith, h.short);
    below = λ a l. below a l (ℕ_discrete a k);
    each = λ a l. each a l (ℕ_discrete a k);
    all = λ j l e. all j l e (ℕ_discrete j i);
    apart = λ a b al bl e. apart a b al bl (ℕ_discrete a k) (ℕ_discrete b k) e;
  }
    where
      below : (a : ℕ) → a < k + 1 → Dec (a ≡ k) → get_or (set list k i) a 0 < i + 1
      below a l (yes q) = rw (q, last) (omega arith)
      below a l (no q) = let z = lt_of_ne l q in omega (arith, before a z, h.below a z)

      each : (a : ℕ) → a < k + 1 → Dec (a ≡ k) → get_or marks (get_or (set list k i) a 0) 0 ≡ 1
      each a l (yes q) = rw (q, last) on
      each a l (no q) = let z = lt_of_ne l q in rw (before a z) (h.each a z)

      all : (j : ℕ) → j < i + 1 → get_or marks j 0 ≡ 1 → Dec (j ≡ i) → Placed (k + 1) (λ a. get_or (set list k i) a 0) j
      all j l e (yes q) = (k, omega arith, q ∙ sym last)
      all j l e (no q) = let p = h.all j (lt_of_ne l q) e in (p.0, omega (arith, p.1), p.2 ∙ sym (before p.0 p.1))

      -- what was listed is another site
      other : (a : ℕ) → a < k → get_or (set list k i) a 0 ≡ i → ⊥
      other a l e = omega (arith, before a l, h.below a l)

      apart :
          (a b : ℕ) → a < k + 1 → b < k + 1 → Dec (a ≡ k) → Dec (b ≡ k) → get_or (set list k i) a 0 ≡ get_or (set list k i) b 0 → a ≡ b
      apart a b al bl (yes p) (yes q) e = p ∙ sym q
      apart a b al bl (yes p) (no q) e = absurd (other b (lt_of_ne bl q) (sym e ∙ (ap (λ (x : ℕ). get_or (set list k i) x 0) p ∙ last)))
      apart a b al bl (no p) (yes q) e = absurd (other a (lt_of_ne al p) (e ∙ (ap (λ (x : ℕ). get_or (set list k i) x 0) q ∙ last)))
      apart a b al bl (no p) (no q) e =
          h.apart a b (lt_of_ne al p) (lt_of_ne bl q) (sym (before a (lt_of_ne al p)) ∙ (e ∙ before b (lt_of_ne bl q)))

  collected_more : (b : Bool) → eqb (get_or marks i 0) 1 ≡ b → {more : ℕ} → more ≡ bit b → Collected marks (i + 1) (set list k i) (k + more)
  collected_more true e q = rw q (marked (eqb-true _ _ e))
  collected_more false e q = rw (q, add-zero k) (unmarked (eqb-false _ _ e))

pub collects_more :
    {marks before list : List ℕ} {i k : ℕ} → Collects marks i before list k → k < length list → (b : Bool) → eqb (get_or marks i 0) 1 ≡ b → {more : ℕ}
    → more ≡ bit b → Collects marks (i + 1) before (set list k i) (k + more)
collects_more {marks} {before} {list} {i} {k} h room b e q = record {
  same_long = length-set list k i ∙ h.same_long;
  got = collected_more h.got room b e q;
}
