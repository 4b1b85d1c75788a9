-- A cluster written from any columns, and the totals beside it: what the members' columns before and after give.
use Rattle.std.specs.Prelude.{ℕ, ◌*◌, ◌≤◌, ◌<◌, ◌≡◌, refl, Bool, true, false, cond, List, length, get_or, ℤ, ◌+ℤ◌, Float}
use Rattle.std.proofs.Common.{sym, ap, ◌∙◌, mul-le-mul_right, suc-mul, arith, eq-eqb, ne_eqb}
use Rattle.std.proofs.Math.Decide.{ℕ_discrete}
use Rattle.std.proofs.Math.IntN.{+ℤ_idr, +ℤ_invr}
use Rattle.lemmas.specs.Bools.{never}
use Rattle.lemmas.specs.Counts.{count_most}
use Rattle.lemmas.specs.Places.{Placed}
use Rattle.paper.specs.declared.Group.{Group}
use Rattle.paper.specs.declared.Task.{Task}
use Rattle.paper.specs.Panel.Input.{Lattice, member, spin, pattern_of}
use Rattle.paper.specs.Panel.Made.{call_of, choices_of}
use Rattle.paper.specs.Panel.Takes.{keeps_by}
use Rattle.paper.specs.Site.Energy.{energy}
use Rattle.paper.specs.Refusal.Rules.{Spin, Distinct, Grouped}
use Rattle.paper.specs.Answer.Totals.{total, TotalsReady, TotalsAfter}
use Rattle.laws.specs.Entries.{spin_of}
use Rattle.columns.specs.Column.{Spinning, shown, shown_column, shown_spin}
use Rattle.totals.specs.Contract.{lattice_for, Bringable, Spun}
use Rattle.totals.specs.Listed.{SitesIn, columns_by, Listing, Unturned, BringsListed}
use Rattle.turn.specs.Turned.{ListWritable, ListWritten}
use Rattle.grow.specs.Listed.{is_in, site_at}
use Rattle.grow.specs.Kept.{Kept}
use Rattle.grow.specs.Spread.{cluster_site}
use Rattle.grow.specs.Contract.{Grew}
use Rattle.grow.specs.Task.{GrowAsks}

-- ---- what the functions ask and promise

-- the first m of the list are the members, each once, and there is room for the columns of all sites
pub record Changed (n : ℕ) (members list : List ℕ) (m area : ℕ) : Type 0 where
  pub sites : SitesIn n list m
  pub members_long : n ≤ length members
  pub room : n ≤ area
  pub distinct : Distinct m (site_at list)
  pub marked : (a : ℕ) → a < m → get_or members (site_at list a) 0 ≡ 1
  pub listed : (i : ℕ) → i < n → get_or members i 0 ≡ 1 → Placed m (site_at list) i

-- rows, of which the group's hold spins, and the members: any columns can be written there
pub record Writable (t : Task) (xs : List ℤ) (members list : List ℕ) (m area : ℕ) : Type 0 where
  pub few : t.group.len ≤ 8
  pub grouped : Grouped t.s t.group
  pub long : length xs ≡ t.s * t.n
  pub spins : Spinning t.n t.group xs
  pub changed : Changed t.n members list m area

-- the first m sites of the list have the columns of the rows
pub record OldsRead (n : ℕ) (g : Group) (xs : List ℤ) (list : List ℕ) (m : ℕ) (olds : List ℕ) : Type 0 where
  pub room : n ≤ length olds
  pub each : (a : ℕ) → a < m → get_or olds (site_at list a) 0 ≡ columns_by n g xs (site_at list a)

-- ---- any columns, written at the members
module _ {t : Task} {xs : List ℤ} {members list : List ℕ} {m area : ℕ} (h : Writable t xs members list m area) where
  pub list_writable : {news : List ℕ} → length news ≡ area → ListWritable t.n t.group xs list m news
  list_writable e = record {
    few = h.few;
    inside = λ k l. omega (arith, h.long, suc-mul (member t.group k) t.n, mul-le-mul_right t.n (h.grouped.below k l));
    distinct = h.grouped.distinct;
    long = h.changed.sites.long;
    sites = h.changed.sites.below;
    room = omega (arith, e, h.changed.room);
  }

  module _ {news : List ℕ} {ys : List ℤ} (w : ListWritten t.n t.group list m news xs ys) where
    -- at a member's site
    pub written_in : (i k : ℕ) → i < t.n → k < t.group.len → get_or members i 0 ≡ 1 → pattern_of t.n t.group ys i k ≡ shown (get_or news i 0) k
    written_in i k il kl on = let p = h.changed.listed i il on in rw p.2 (w.listed p.0 k p.1 kl)

    -- at another
    pub written_out : (i s : ℕ) → i < t.n → (get_or members i 0 ≡ 1 → ⊥) → spin t.n ys s i ≡ spin t.n xs s i
    written_out i s il off = w.others i s il (λ x xl e. off (rw e (h.changed.marked x xl)))

    -- so at every site
    pub written_at :
        (i k : ℕ) → i < t.n → k < t.group.len
        → pattern_of t.n t.group ys i k ≡ cond (is_in members i) (shown (get_or news i 0) k) (pattern_of t.n t.group xs i k)
    written_at i k il kl = at (ℕ_discrete (get_or members i 0) 1)
      where
        at :
            Dec (get_or members i 0 ≡ 1)
            → pattern_of t.n t.group ys i k ≡ cond (is_in members i) (shown (get_or news i 0) k) (pattern_of t.n t.group xs i k)
        at (yes q) = rw (eq-eqb _ _ q) (written_in i k il kl q)
        at (no q) = rw (ne_eqb _ _ q) (written_out i (member t.group k) il q)

    -- every spin of the group is one again
    pub spun : (fwd bwd : List ℕ) (js : List ℤ) → Spun (lattice_for t fwd bwd js) t.group ys
    spun fwd bwd js = record { long = w.long ∙ h.long; spins = λ i k il kl. at i k il kl (ℕ_discrete (get_or members i 0) 1) }
      where
        at : (i k : ℕ) → i < t.n → k < t.group.len → Dec (get_or members i 0 ≡ 1) → Spin (pattern_of t.n t.group ys i k)
        at i k il kl (yes q) = rw (written_in i k il kl q) (shown_spin (get_or news i 0) k)
        at i k il kl (no q) = rw (written_out i (member t.group k) il q) (h.spins i k il kl)

    module _ {olds : List ℕ} (r : OldsRead t.n t.group xs list m olds) where
      pub listing : length news ≡ area → Listing t.n t.group ys members list m olds news
      listing e = let c = h.changed in record {
        sites = c.sites;
        areas = record { members_long = c.members_long; olds_long = r.room; news_long = omega (arith, e, c.room) };
        distinct = c.distinct;
        marked = c.marked;
        listed = c.listed;
        after = λ i k il on kl. written_in i k il kl on;
      }

      unturned : Unturned t.n t.group members olds xs ys
      unturned = record { before = λ i k il on kl. before i k il kl (h.changed.listed i il on); sites = written_out; systems = w.systems }
        where
          before : (i k : ℕ) → i < t.n → k < t.group.len → Placed m (site_at list) i → pattern_of t.n t.group xs i k ≡ shown (get_or olds i 0) k
          before i k il kl p =
              let column : get_or olds i 0 ≡ columns_by t.n t.group xs i = rw p.2 (r.each p.0 p.1) in
              sym
              (ap (λ (x : ℕ). shown x k) column
              ∙ shown_column t.group.len (pattern_of t.n t.group xs i) k kl (h.spins i k il kl))

      pub totals_kept :
          {keeping : Bool} {fwd bwd : List ℕ} {js totals totals' : List ℤ} → keeping ≡ true
          → BringsListed (lattice_for t fwd bwd js) t.group ys members olds totals totals'
          → TotalsAfter keeping (lattice_for t fwd bwd js) xs totals ys totals'
      totals_kept on b = record { brought = λ _. b.each xs unturned; left = λ off. never (sym off ∙ on) }

-- ---- one task
module _ (t : Task) (fwd bwd pins : List ℕ) (js : List ℤ) (cuts : List Float) (choices greys : List ℕ) (xs : List ℤ) (members : List ℕ)
    (asks : GrowAsks (call_of t fwd bwd pins js cuts) (choices_of choices greys) xs members) {totals : List ℤ}
    (ready : TotalsReady (keeps_by t.keeps t.form) (lattice_for t fwd bwd js) t.group totals)
  where
    abbrev keeping : Bool
    keeping = keeps_by t.keeps t.form

    abbrev g : Lattice
    g = lattice_for t fwd bwd js

    pub bringable : keeping ≡ true → Bringable g t.group totals
    bringable on = let s = asks.valid.sound in record {
      sizes = s.ranged.lattice;
      few = s.ranged.size_high;
      fwd_long = s.exact.fwd;
      bwd_long = s.exact.bwd;
      js_long = (ready.lengths on).couplings;
      totals_long = (ready.lengths on).totals;
      inverse = s.inverse;
      grouped = s.grouped;
      couplings = ready.couplings on;
      totals_small = ready.small on;
    }

    module _ {m l : List ℕ} {blue len : ℕ} (grew : Grew (call_of t fwd bwd pins js cuts) xs m l blue len) where
      pub writable : {area : ℕ} → area ≡ 4096 → Writable t xs m l len area
      writable e = let s = asks.valid.sound in let w = grew.cluster.listed in record {
        few = s.ranged.size_high;
        grouped = s.grouped;
        long = s.exact.spins;
        spins = λ i k il kl. spin_of asks.valid i il k kl;
        changed = record {
          sites = record {
            few = omega (arith, w.number, count_most (is_in m) (length m), grew.cluster.members.long, s.ranged.lattice.n_high);
            long = omega (arith, w.number, count_most (is_in m) (length m), w.room);
            below = cluster_site grew.cluster;
          };
          members_long = omega (arith, grew.cluster.members.long);
          room = omega (arith, e, s.ranged.lattice.n_high);
          distinct = w.apart;
          marked = w.each;
          listed = λ i il on. w.all i on;
        };
      }

      pub olds_read : {cols : List ℕ} → Kept t xs m cols → OldsRead t.n t.group xs l len cols
      olds_read k = record {
        room = omega (arith, k.long, asks.valid.sound.ranged.lattice.n_high);
        each = λ a al. k.at (site_at l a) (grew.cluster.listed.each a al);
      }

-- not kept, they stay
pub totals_left : {keeping : Bool} {g : Lattice} {xs ts ys : List ℤ} → keeping ≡ false → TotalsAfter keeping g xs ts ys ts
totals_left off = record { brought = λ on. never (sym off ∙ on); left = λ _. refl }

-- and so where the spins stay
pub totals_still : {keeping : Bool} {g : Lattice} {xs ts : List ℤ} → TotalsAfter keeping g xs ts xs ts
totals_still {keeping} {g} {xs} {ts} = record {
  brought = λ _. record {
    long = refl;
    each = λ t l. sym (ap (λ (z : ℤ). total ts t +ℤ z) (+ℤ_invr (energy g xs t)) ∙ +ℤ_idr (total ts t));
  };
  left = λ _. refl;
}
