-- The growth of a cluster from its seed, for any rule of bonds: what holds while it goes on, and its steps.
use Rattle.std.specs.Prelude.{ℕ, ◌+◌, ◌*◌, ◌≤◌, ◌<◌, ◌≡◌, refl, Bool, true, false, List, length, get_or, set}
use Rattle.std.proofs.Common.{sym, ap, ◌∙◌, le_refl, arith, length-set}
use Rattle.std.proofs.Math.Decide.{ℕ_discrete}
use Rattle.lemmas.specs.Bools.{never}
use Rattle.lemmas.specs.Stores.{AfterSet, AfterSet.here, AfterSet.there, after_set, lt_of_ne, Cleared, cleared_all}
use Rattle.paper.specs.Component.Links.{Linked.stay, Linked.along, Linked.against, trans}
use Rattle.paper.specs.Component.Labels.{Joined}
use Rattle.paper.specs.Panel.Input.{Graph, leads_to}
use Rattle.paper.specs.Refusal.Rules.{Inverse}
use Rattle.grow.specs.Members.{inside}
use Rattle.grow.specs.Listed.{Listed, still, now_marked, before, one_more, listed_none}

-- marked sites are joined to the seed, which is one of them, and the list has them all
pub record Growing (t : Graph) (holding : ℕ → ℕ → Bool) (seed : ℕ) (members list : List ℕ) (len : ℕ) : Type 0 where
  pub long : length members ≡ t.n
  pub byte : (i : ℕ) → i < t.n → get_or members i 0 ≤ 1
  pub seeded : get_or members seed 0 ≡ 1
  pub joined : (i : ℕ) → get_or members i 0 ≡ 1 → Joined t holding seed i
  pub listed : Listed members list len

-- the bonds at site x that hold, in the directions below k and in both senses, lead to marked sites
pub record Shut (t : Graph) (holding : ℕ → ℕ → Bool) (members : List ℕ) (k x : ℕ) : Type 0 where
  pub ahead : (e : ℕ) → e < k → holding x e ≡ true → get_or members (leads_to t x e) 0 ≡ 1
  pub behind : (y e : ℕ) → y < t.n → e < k → holding y e ≡ true → leads_to t y e ≡ x → get_or members y 0 ≡ 1

-- what was marked and listed still is
pub record Later (members list : List ℕ) (len : ℕ) (members' list' : List ℕ) (len' : ℕ) : Type 0 where
  pub long : length list' ≡ length list
  pub more : len ≤ len'
  pub marked : (i : ℕ) → get_or members i 0 ≡ 1 → get_or members' i 0 ≡ 1
  pub same : (k : ℕ) → k < len → get_or list' k 0 ≡ get_or list k 0

-- a bond leads to the site found, and b tells whether it holds: a new site is marked and listed
pub data Met (b : Bool) (found : ℕ) (members list : List ℕ) (len : ℕ) : List ℕ → List ℕ → ℕ → Type 0 where
  known : get_or members found 0 ≡ 1 → Met b found members list len members list len
  loose : b ≡ false → Met b found members list len members list len
  joins : b ≡ true → (get_or members found 0 ≡ 1 → ⊥) → Met b found members list len (set members found 1) (set list len found) (len + 1)

pub later_refl : (members list : List ℕ) (len : ℕ) → Later members list len members list len
later_refl members list len = record { long = refl; more = le_refl len; marked = λ i e. e; same = λ k l. refl }

pub later_trans :
    {m l m' l' m'' l'' : List ℕ} {len len' len'' : ℕ} → Later m l len m' l' len' → Later m' l' len' m'' l'' len'' → Later m l len m'' l'' len''
later_trans p q = record {
  long = q.long ∙ p.long;
  more = omega (arith, p.more, q.more);
  marked = λ i e. q.marked i (p.marked i e);
  same = λ k l. q.same k (omega (arith, p.more)) ∙ p.same k l;
}

pub shut_later : {t : Graph} {holding : ℕ → ℕ → Bool} {m m' : List ℕ} {k x : ℕ}
    → ((i : ℕ) → get_or m i 0 ≡ 1 → get_or m' i 0 ≡ 1) → Shut t holding m k x → Shut t holding m' k x
shut_later w s = record { ahead = λ e el on. w _ (s.ahead e el on); behind = λ y e yl el on leads. w y (s.behind y e yl el on leads) }

-- ---- one bond is met
module _ {b : Bool} {found : ℕ} {m l : List ℕ} {len : ℕ} (h : Listed m l len) (fl : found < length m) where
  pub met_later : {m' l' : List ℕ} {len' : ℕ} → Met b found m l len m' l' len' → Later m l len m' l' len'
  met_later (known e) = later_refl m l len
  met_later (loose e) = later_refl m l len
  met_later (joins e new) = record { long = length-set l len found; more = omega arith; marked = still h fl new; same = before h fl new }

  -- where the bond holds, the site is marked
  pub met_found : {m' l' : List ℕ} {len' : ℕ} → Met b found m l len m' l' len' → b ≡ true → get_or m' found 0 ≡ 1
  met_found (known e) on = e
  met_found (loose e) on = never (sym e ∙ on)
  met_found (joins e new) on = now_marked h fl new

module _ {t : Graph} {holding : ℕ → ℕ → Bool} {seed : ℕ} {b : Bool} {found : ℕ} where
  pub met_growing :
      {m l m' l' : List ℕ} {len len' : ℕ} → Growing t holding seed m l len → found < t.n → (b ≡ true → Joined t holding seed found)
      → Met b found m l len m' l' len' → Growing t holding seed m' l' len'
  met_growing g fl w (known e) = g
  met_growing g fl w (loose e) = g
  met_growing {m} {l} {m'} {l'} {len} g fl w (joins on new) = record {
    long = simp length-set g.long;
    byte = λ i il. byte i il (after_set m found 1 i inner);
    seeded = still g.listed inner new seed g.seeded;
    joined = λ i e. joined i e (after_set m found 1 i inner);
    listed = one_more g.listed inner new;
  }
    where
      inner : found < length m
      inner = rw g.long fl

      byte : (i : ℕ) → i < t.n → AfterSet m found 1 i → get_or (set m found 1) i 0 ≤ 1
      byte i il (here e v) = omega (arith, v)
      byte i il (there e v) = omega (arith, v, g.byte i il)

      joined : (i : ℕ) → get_or (set m found 1) i 0 ≡ 1 → AfterSet m found 1 i → Joined t holding seed i
      joined i e (here q v) = rw q (w on)
      joined i e (there q v) = g.joined i (sym v ∙ e)

-- ---- the seed alone
pub started :
    (t : Graph) (holding : ℕ → ℕ → Bool) (seed : ℕ) (members list : List ℕ) → Cleared t.n members → t.n ≤ length list → seed < t.n
    → Growing t holding seed (set members seed 1) (set list 0 seed) 1
started t holding seed members list h r sl = record {
  long = simp length-set h.long;
  byte = λ i il. byte i (after_set members seed 1 i inner);
  seeded = now_marked none inner new;
  joined = λ i e. joined i e (after_set members seed 1 i inner);
  listed = one_more none inner new;
}
  where
    none : Listed members list 0
    none = listed_none list h r

    inner : seed < length members
    inner = rw h.long sl

    new : get_or members seed 0 ≡ 1 → ⊥
    new e = omega (arith, cleared_all h seed)

    byte : (i : ℕ) → AfterSet members seed 1 i → get_or (set members seed 1) i 0 ≤ 1
    byte i (here e v) = omega (arith, v)
    byte i (there e v) = omega (arith, v, cleared_all h i)

    joined : (i : ℕ) → get_or (set members seed 1) i 0 ≡ 1 → AfterSet members seed 1 i → Joined t holding seed i
    joined i e (here q v) = rw q stay
    joined i e (there q v) = absurd (omega (arith, v, cleared_all h i))

-- ---- a visit of site x has gone through the directions below k
pub record Visiting (t : Graph) (holding : ℕ → ℕ → Bool) (seed x : ℕ) (m₀ l₀ : List ℕ) (len₀ k : ℕ) (m l : List ℕ) (len : ℕ) : Type 0 where
  pub reached : k ≤ t.d
  pub growing : Growing t holding seed m l len
  pub later : Later m₀ l₀ len₀ m l len
  pub marked : get_or m x 0 ≡ 1
  pub shut : Shut t holding m k x

pub visit_start :
    {t : Graph} {holding : ℕ → ℕ → Bool} {seed x : ℕ} {m l : List ℕ} {len : ℕ} → Growing t holding seed m l len → get_or m x 0 ≡ 1
    → Visiting t holding seed x m l len 0 m l len
visit_start {t} {holding} {seed} {x} {m} {l} {len} g e = record {
  reached = omega arith;
  growing = g;
  later = later_refl m l len;
  marked = e;
  shut = record { ahead = λ e el. absurd (omega arith); behind = λ y e yl el. absurd (omega arith) };
}

-- the bond ahead in direction k is met too
pub record Halfway (t : Graph) (holding : ℕ → ℕ → Bool) (seed x : ℕ) (m₀ l₀ : List ℕ) (len₀ k : ℕ) (m l : List ℕ) (len : ℕ) : Type 0 where
  pub visiting : Visiting t holding seed x m₀ l₀ len₀ k m l len
  pub ahead : holding x k ≡ true → get_or m (leads_to t x k) 0 ≡ 1

module _ {t : Graph} {holding : ℕ → ℕ → Bool} {seed x k : ℕ} {m₀ l₀ m l : List ℕ} {len₀ len : ℕ} (was : Visiting t holding seed x m₀ l₀ len₀ k m l len) where
  pub site : x < t.n
  site = rw (← was.growing.long) (inside m x was.marked)

  pub inner : {found : ℕ} → found < t.n → found < length m
  inner fl = rw was.growing.long fl

  pub from_here : {y : ℕ} → Joined t holding x y → Joined t holding seed y
  from_here w = trans (was.growing.joined x was.marked) w

  pub visiting_met :
      {b : Bool} {found : ℕ} {m' l' : List ℕ} {len' : ℕ} → found < t.n → (b ≡ true → Joined t holding x found) → Met b found m l len m' l' len'
      → Visiting t holding seed x m₀ l₀ len₀ k m' l' len'
  visiting_met fl w met =
      let after = met_later was.growing.listed (inner fl) met in
      record {
        reached = was.reached;
        growing = met_growing was.growing fl (λ on. from_here (w on)) met;
        later = later_trans was.later after;
        marked = after.marked x was.marked;
        shut = shut_later after.marked was.shut;
      }

module _ {t : Graph} {bwd : List ℕ} {holding : ℕ → ℕ → Bool} {seed x k : ℕ} {m₀ l₀ m l m' l' : List ℕ} {len₀ len len' : ℕ}
    (tables : Inverse t.n t.d t.fwd bwd) (kl : k < t.d) {b : Bool} {found : ℕ} (met : Met b found m l len m' l' len') where
  pub visit_ahead :
      Visiting t holding seed x m₀ l₀ len₀ k m l len → found ≡ leads_to t x k → b ≡ holding x k
      → Halfway t holding seed x m₀ l₀ len₀ k m' l' len'
  visit_ahead was is rule = record {
    visiting = visiting_met was fl (λ on. along (record { site = site was; dir = k; dir_lt = kl; on = sym rule ∙ on; leads = sym is }) stay) met;
    ahead = λ on. rw (← is) (met_found was.growing.listed (inner was fl) met (rule ∙ on));
  }
    where
      fl : found < t.n
      fl = rw is (tables.there x k (site was) kl).inside

  -- the bond behind leads from the site found to x, and no other in its direction does
  pub visit_behind :
      Halfway t holding seed x m₀ l₀ len₀ k m l len → found ≡ get_or bwd (x * t.d + k) 0 → b ≡ holding found k
      → Visiting t holding seed x m₀ l₀ len₀ (k + 1) m' l' len'
  visit_behind half is rule = record {
    reached = omega arith;
    growing = now.growing;
    later = now.later;
    marked = now.marked;
    shut = record { ahead = λ e el. ahead e el (ℕ_discrete e k); behind = λ y e yl el. behind y e yl el (ℕ_discrete e k) };
  }
    where
      was : Visiting t holding seed x m₀ l₀ len₀ k m l len
      was = half.visiting

      fl : found < t.n
      fl = rw is (tables.here x k (site was) kl).inside

      leads : leads_to t found k ≡ x
      leads = rw is (tables.here x k (site was) kl).home

      now : Visiting t holding seed x m₀ l₀ len₀ k m' l' len'
      now = visiting_met was fl (λ on. against (record { site = fl; dir = k; dir_lt = kl; on = sym rule ∙ on; leads = leads }) stay) met

      ahead : (e : ℕ) → e < k + 1 → Dec (e ≡ k) → holding x e ≡ true → get_or m' (leads_to t x e) 0 ≡ 1
      ahead e el (yes q) on = rw q ((met_later was.growing.listed (inner was fl) met).marked (leads_to t x k) (half.ahead (rw (← q) on)))
      ahead e el (no q) on = now.shut.ahead e (lt_of_ne el q) on

      only : (y : ℕ) → y < t.n → leads_to t y k ≡ x → y ≡ found
      only y yl e = sym (tables.there y k yl kl).home ∙ (ap (λ (z : ℕ). get_or bwd (z * t.d + k) 0) e ∙ sym is)

      behind : (y e : ℕ) → y < t.n → e < k + 1 → Dec (e ≡ k) → holding y e ≡ true → leads_to t y e ≡ x → get_or m' y 0 ≡ 1
      behind y e yl el (yes q) on to =
          let own : y ≡ found = only y yl (rw (← q) to) in
          rw own (met_found was.growing.listed (inner was fl) met (rule ∙ rw (← own, ← q) on))
      behind y e yl el (no q) on to = now.shut.behind y e yl (lt_of_ne el q) on to
