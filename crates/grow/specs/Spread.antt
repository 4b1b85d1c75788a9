-- The growth from site to site, for any rule of bonds: each listed site is visited once, and when none waits the marked sites are the cluster.
use Rattle.std.specs.Prelude.{ℕ, ◌+◌, ◌≤◌, ◌<◌, ◌≡◌, refl, Bool, List, length, get_or}
use Rattle.std.proofs.Common.{sym, ap, ◌∙◌, arith, length-set}
use Rattle.std.proofs.Math.Decide.{ℕ_discrete}
use Rattle.lemmas.specs.Counts.{count_most}
use Rattle.lemmas.specs.Places.{Placed}
use Rattle.lemmas.specs.Stores.{lt_of_ne}
use Rattle.paper.specs.Component.Links.{Linked.stay, Linked.along, Linked.against}
use Rattle.paper.specs.Component.Labels.{Joined}
use Rattle.paper.specs.Panel.Input.{Graph}
use Rattle.paper.specs.Component.Members.{Members}
use Rattle.grow.specs.Members.{inside, Implies, joined_more, members_by}
use Rattle.grow.specs.Listed.{Listed, is_in, site_at, exchanged, exchanged_at, exchanged_other, listed_exchanged, swap_a}
use Rattle.grow.specs.Growth.{Growing, Shut, shut_later, Visiting}

-- the cluster of the seed, as bytes and as a list
pub record Cluster (t : Graph) (holding : ℕ → ℕ → Bool) (seed : ℕ) (m l : List ℕ) (len : ℕ) : Type 0 where
  pub members : Members t holding seed m
  pub listed : Listed m l len

-- its list: sites, each joined to the seed, and every site that is
module _ {t : Graph} {holding : ℕ → ℕ → Bool} {seed : ℕ} {m l : List ℕ} {len : ℕ} (c : Cluster t holding seed m l len) where
  pub cluster_site : (k : ℕ) → k < len → site_at l k < t.n
  cluster_site k kl = rw (← c.members.long) (inside m (site_at l k) (c.listed.each k kl))

  pub cluster_joined : (k : ℕ) → k < len → Joined t holding seed (site_at l k)
  cluster_joined k kl = c.members.joined (site_at l k) (cluster_site k kl) (c.listed.each k kl)

  pub cluster_placed : (i : ℕ) → i < t.n → Joined t holding seed i → Placed len (site_at l) i
  cluster_placed i il j = c.listed.all i (c.members.marked i il j)

-- the site r comes next, at the place head: in the list's first part the one that stands there, and behind it the last, which changes places with it
pub data Next (start head last : ℕ) (l l' : List ℕ) (r : ℕ) : Type 0 where
  kept : head < start → l' ≡ l → r ≡ site_at l head → Next start head last l l' r
  newest : start ≤ head → l' ≡ exchanged l head last → r ≡ site_at l last → Next start head last l l' r

-- the first entries stay; those below head are visited
pub record Spreading (t : Graph) (holding : ℕ → ℕ → Bool) (seed start : ℕ) (l₀ : List ℕ) (head : ℕ) (m l : List ℕ) (len : ℕ) : Type 0 where
  pub reached : head ≤ len
  pub long : length l ≡ length l₀
  pub more : start ≤ len
  pub growing : Growing t holding seed m l len
  pub visited : (k : ℕ) → k < head → Shut t holding m t.d (site_at l k)
  pub kept : (k : ℕ) → k < start → site_at l k ≡ site_at l₀ k

-- at the end: the cluster, with the first entries where they were
pub record Spreads (t : Graph) (holding : ℕ → ℕ → Bool) (seed start : ℕ) (l₀ m l : List ℕ) (len : ℕ) : Type 0 where
  pub long : length l ≡ length l₀
  pub more : start ≤ len
  pub cluster : Cluster t holding seed m l len
  pub kept : (k : ℕ) → k < start → site_at l k ≡ site_at l₀ k

-- ---- the same by a rule that says the same of each bond
pub spreads_by :
    {t : Graph} {h g : ℕ → ℕ → Bool} {seed start : ℕ} {l₀ m l : List ℕ} {len : ℕ} → ((i e : ℕ) → i < t.n → e < t.d → h i e ≡ g i e)
    → Spreads t h seed start l₀ m l len → Spreads t g seed start l₀ m l len
spreads_by same s = record {
  long = s.long;
  more = s.more;
  cluster = record { members = members_by same s.cluster.members; listed = s.cluster.listed };
  kept = s.kept;
}

-- ---- no bond that holds leads out of the marked sites, so these are all
module _ {t : Graph} {holding : ℕ → ℕ → Bool} {seed : ℕ} {m l : List ℕ} {len : ℕ} (g : Growing t holding seed m l len)
    (done : (k : ℕ) → k < len → Shut t holding m t.d (site_at l k)) where
  shut : (x : ℕ) → get_or m x 0 ≡ 1 → Shut t holding m t.d x
  shut x e = let p = g.listed.all x e in rw p.2 (done p.0 p.1)

  reach : {a b : ℕ} → get_or m a 0 ≡ 1 → Joined t holding a b → get_or m b 0 ≡ 1
  reach e stay = e
  reach {a} {b} e (along s r) = reach (rw (← s.leads) ((shut a e).ahead s.dir s.dir_lt s.on)) r
  reach {a} {b} e (against s r) = reach ((shut a e).behind _ s.dir s.site s.dir_lt s.on s.leads) r

  pub grown : Cluster t holding seed m l len
  grown = record {
    members = record { long = g.long; byte = g.byte; joined = λ i il e. g.joined i e; marked = λ i il j. reach g.seeded j };
    listed = g.listed;
  }

-- ---- a cluster grows on by a rule that holds wherever its own does
pub again :
    {t : Graph} {h g : ℕ → ℕ → Bool} {seed : ℕ} {m l : List ℕ} {len : ℕ} → seed < t.n → Implies t h g → Cluster t h seed m l len
    → Growing t g seed m l len
again {t} {h} {g} {seed} {m} sl w c = record {
  long = c.members.long;
  byte = c.members.byte;
  seeded = c.members.marked seed sl stay;
  joined = λ i e. joined_more w (c.members.joined i (rw (← c.members.long) (inside m i e)) e);
  listed = c.listed;
}

-- ---- from one turn to the next
pub spread_start :
    {t : Graph} {holding : ℕ → ℕ → Bool} {seed start : ℕ} {m l : List ℕ} → Growing t holding seed m l start
    → Spreading t holding seed start l 0 m l start
spread_start g = record { reached = omega arith; long = refl; more = omega arith; growing = g; visited = λ k h. absurd (omega arith); kept = λ k h. refl }

module _ {t : Graph} {holding : ℕ → ℕ → Bool} {seed start head : ℕ} {l₀ m l : List ℕ} {len : ℕ} (was : Spreading t holding seed start l₀ head m l len) where
  pub spread_high : len ≤ t.n
  spread_high =
      let g = was.growing in
      omega (arith, g.listed.number, count_most (is_in m) (length m), g.long)

  pub spread_room : len ≤ length l
  spread_room = omega (arith, spread_high, was.growing.listed.room, was.growing.long)

  pub spread_end : len ≤ head → Spreads t holding seed start l₀ m l len
  spread_end h = record { long = was.long; more = was.more; cluster = grown was.growing (λ k kl. was.visited k (omega arith)); kept = was.kept }

  -- what comes next stands at head
  module _ (hl : head < len) (last : ℕ) (is_last : len ≡ last + 1) where
    relisted : Growing t holding seed m (exchanged l head last) len
    relisted =
        let g = was.growing in
        record {
          long = g.long;
          byte = g.byte;
          seeded = g.seeded;
          joined = g.joined;
          listed = listed_exchanged l head last (omega (arith, spread_room)) (omega (arith, spread_room)) hl (omega arith) g.listed;
        }

    apart : (k : ℕ) → k < head → site_at (exchanged l head last) k ≡ site_at l k
    apart k kl = exchanged_other l head last (omega (arith, spread_room)) (omega (arith, spread_room)) k (λ e. omega arith) (λ e. omega arith)

    pub next_spreading : {l' : List ℕ} {r : ℕ} → Next start head last l l' r → Spreading t holding seed start l₀ head m l' len
    next_spreading (kept h e q) = rw e was
    next_spreading (newest h e q) = rw e (record {
      reached = was.reached;
      long = simp length-set was.long;
      more = was.more;
      growing = relisted;
      visited = λ k kl. rw (apart k kl) (was.visited k kl);
      kept = λ k kl. apart k (omega arith) ∙ was.kept k kl;
    })

    pub next_at : {l' : List ℕ} {r : ℕ} → Next start head last l l' r → r ≡ site_at l' head
    next_at (kept h e q) = rw e q
    next_at (newest h e q) =
        rw e (q ∙ sym (exchanged_at l head last (omega (arith, spread_room)) (omega (arith, spread_room)) head ∙ ap (site_at l) (swap_a head last head refl)))

  pub next_marked : {r : ℕ} → head < len → r ≡ site_at l head → get_or m r 0 ≡ 1
  next_marked hl e = rw e (was.growing.listed.each head hl)

  pub spread_more :
      {r : ℕ} {m' l' : List ℕ} {len' : ℕ} → head < len → r ≡ site_at l head → Visiting t holding seed r m l len t.d m' l' len'
      → Spreading t holding seed start l₀ (head + 1) m' l' len'
  spread_more {r} {m'} {l'} {len'} hl is v = record {
    reached = omega (arith, v.later.more);
    long = v.later.long ∙ was.long;
    more = omega (arith, was.more, v.later.more);
    growing = v.growing;
    visited = λ k kl. visited k kl (ℕ_discrete k head);
    kept = λ k kl. v.later.same k (omega (arith, was.more)) ∙ was.kept k kl;
  }
    where
      visited : (k : ℕ) → k < head + 1 → Dec (k ≡ head) → Shut t holding m' t.d (site_at l' k)
      visited k kl (yes q) = rw (q, v.later.same head hl, ← is) v.shut
      visited k kl (no q) = rw (v.later.same k (omega arith)) (shut_later v.later.marked (was.visited k (lt_of_ne kl q)))
