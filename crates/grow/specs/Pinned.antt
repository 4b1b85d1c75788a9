-- Pins among the listed sites: the look at them, what turns then, and what of a cluster they hold.
use Rattle.std.specs.Prelude.{ℕ, ◌+◌, ◌≤◌, ◌<◌, ◌≡◌, refl, ◌⊎◌, Bool, true, false, ◌||◌, List, [], ◌∷◌, get_or, ℤ}
use Rattle.std.proofs.Common.{zero-le, sym, ap, ◌∙◌, subst, inl, inr, le_refl, le_antisymm, arith, eq-eqb, eqb-true}
use Rattle.std.proofs.Math.Decide.{ℕ_discrete}
use Rattle.lemmas.specs.Stores.{lt_of_ne}
use Rattle.lemmas.specs.Tells.{Tells, Test, same, either}
use Rattle.paper.specs.declared.Task.{Task}
use Rattle.paper.specs.Panel.Input.{Call, pinned}
use Rattle.paper.specs.Move.Moving.{has_one}
use Rattle.laws.specs.Holding.{one_is, one_has}
use Rattle.totals.specs.Listed.{SitesIn}
use Rattle.judge.specs.Judged.{gauge_for}
use Rattle.turn.specs.Turned.{Turnable, ColumnsTurned, ListWritten, Turned}
use Rattle.turn.specs.Laws.{written_turned}
use Rattle.grow.specs.Members.{inside}
use Rattle.grow.specs.Listed.{site_at, Listed}

-- ---- what the functions ask and promise

-- the list has a pinned site at a place from `from` to below `to`
pub record PinAmong (pins list : List ℕ) (from to : ℕ) : Type 0 where
  pub place : ℕ
  pub low : from ≤ place
  pub high : place < to
  pub pin : get_or pins (site_at list place) 0 ≡ 1

pub record Lookable (pins : ℕ) (list : List ℕ) (from to : ℕ) : Type 0 where
  pub order : from ≤ to
  pub sites : SitesIn pins list to

-- where no blue site is pinned: with another member pinned the grey number is 0
pub data GreyBy (pins greys list : List ℕ) (blue len : ℕ) (grey : List ℕ) : Type 0 where
  free : (PinAmong pins list blue len → ⊥) → grey ≡ greys → GreyBy pins greys list blue len grey
  held : PinAmong pins list blue len → grey ≡ 0 ∷ [] → GreyBy pins greys list blue len grey

-- the columns that are chosen with it, from the rows xs
pub record ChosenFree (t : Task) (pins choices greys list cols : List ℕ) (blue len : ℕ) (xs : List ℤ) (news news' : List ℕ) : Type 0 where
  pub grey : List ℕ
  pub which : GreyBy pins greys list blue len grey
  pub chosen : ColumnsTurned t (gauge_for t xs) choices grey list cols blue len news news'

-- and what turns
pub record TurnedFree (t : Task) (pins choices greys list : List ℕ) (blue len : ℕ) (xs ys : List ℤ) : Type 0 where
  pub grey : List ℕ
  pub kept : (PinAmong pins list blue len → ⊥) → grey ≡ greys
  pub none : PinAmong pins list blue len → grey ≡ 0 ∷ []
  pub turned : Turned t choices grey list blue len xs ys

-- the grey number 0 can be turned by
pub none_turnable :
    {t : Task} {xs : List ℤ} {choices greys list cols : List ℕ} {len : ℕ} → Turnable t xs choices greys list cols len
    → Turnable t xs choices (0 ∷ []) list cols len
none_turnable h = record {
  panel = h.panel;
  distinct = h.distinct;
  chooses = h.chooses;
  two = h.two;
  lent = λ q. le_refl 1;
  small = λ q. zero-le;
  long = h.long;
  sites = h.sites;
  apart = h.apart;
  room = h.room;
  kept = h.kept;
}

-- the columns, chosen with the gauge of the rows
pub chosen_with :
    {t : Task} {pins choices greys list cols grey : List ℕ} {blue len gauge : ℕ} {xs : List ℤ} {news news' : List ℕ} → gauge ≡ gauge_for t xs
    → GreyBy pins greys list blue len grey → ColumnsTurned t gauge choices grey list cols blue len news news'
    → ChosenFree t pins choices greys list cols blue len xs news news'
chosen_with {t} {pins} {choices} {greys} {list} {cols} {grey} {blue} {len} {gauge} {xs} {news} {news'} e w c = record {
  grey = grey;
  which = w;
  chosen = subst (λ (z : ℕ). ColumnsTurned t z choices grey list cols blue len news news') e c;
}

-- what is chosen and written is turned
module _ {t : Task} {pins choices greys list cols : List ℕ} {blue len : ℕ} {xs ys : List ℤ} {news news' : List ℕ}
    (h : Turnable t xs choices greys list cols len) (w : ListWritten t.n t.group list len news' xs ys) where
  turned_by :
      {grey : List ℕ} → GreyBy pins greys list blue len grey → ColumnsTurned t (gauge_for t xs) choices grey list cols blue len news news'
      → TurnedFree t pins choices greys list blue len xs ys
  turned_by {grey} (free f e) c = record {
    grey = grey;
    kept = λ _. e;
    none = λ pin. absurd (f pin);
    turned = written_turned (subst (λ (z : List ℕ). Turnable t xs choices z list cols len) (sym e) h) refl c w;
  }
  turned_by {grey} (held p e) c = record {
    grey = grey;
    kept = λ f. absurd (f p);
    none = λ _. e;
    turned = written_turned (subst (λ (z : List ℕ). Turnable t xs choices z list cols len) (sym e) (none_turnable h)) refl c w;
  }

  pub turned_free : ChosenFree t pins choices greys list cols blue len xs news news' → TurnedFree t pins choices greys list blue len xs ys
  turned_free c = turned_by c.which c.chosen

-- ---- the look: found tells of the places below a
pub record Looking (pins list : List ℕ) (from to a : ℕ) (found : Bool) : Type 0 where
  pub low : from ≤ a
  pub high : a ≤ to
  pub tells : Test found (PinAmong pins list from a)

pub look_start : (pins list : List ℕ) {from to : ℕ} → from ≤ to → Looking pins list from to from false
look_start pins list {from} h = record { low = le_refl from; high = h; tells = record { says = λ p. omega (arith, p.low, p.high) } }

pub look_more :
    {pins list : List ℕ} {from to a i : ℕ} {found b : Bool} → Looking pins list from to a found → a < to → i ≡ site_at list a
    → Test b (get_or pins i 0 ≡ 1) → Looking pins list from to (a + 1) (found || b)
look_more {pins} {list} {from} {to} {a} {i} w l is t = record {
  low = omega (arith, w.low);
  high = omega arith;
  tells = same (PinAmong pins list from (a + 1)) there (λ p. home p (ℕ_discrete p.place a)) (either w.tells t);
}
  where
    there : PinAmong pins list from a ⊎ (get_or pins i 0 ≡ 1) → PinAmong pins list from (a + 1)
    there (inl p) = record { place = p.place; low = p.low; high = omega (arith, p.high); pin = p.pin }
    there (inr e) = record { place = a; low = w.low; high = omega arith; pin = ap (λ (x : ℕ). get_or pins x 0) (sym is) ∙ e }

    home : (p : PinAmong pins list from (a + 1)) → Dec (p.place ≡ a) → PinAmong pins list from a ⊎ (get_or pins i 0 ≡ 1)
    home p (yes q) = inr (ap (λ (x : ℕ). get_or pins x 0) (is ∙ ap (site_at list) (sym q)) ∙ p.pin)
    home p (no q) = inl (record { place = p.place; low = p.low; high = lt_of_ne p.high q; pin = p.pin })

pub look_end : {pins list : List ℕ} {from to a : ℕ} {found : Bool} → Looking pins list from to a found → to ≤ a → Tells found (PinAmong pins list from to)
look_end {pins} {list} {from} {to} {a} {found} w h =
    subst (λ (x : ℕ). Tells found (PinAmong pins list from x)) (le_antisymm w.high h) w.tells.says

-- ---- a cluster that is listed is held exactly where one of its places has a pinned site
module _ (c : Call) {m l : List ℕ} {len : ℕ} (w : Listed m l len) where
  pub among_held : {from : ℕ} → PinAmong c.pins l from len → has_one (pinned c) m 1 ≡ true
  among_held p = let on = w.each p.place p.high in one_has (pinned c) m 1 (record {
    site = site_at l p.place;
    below = inside m (site_at l p.place) on;
    label = on;
    marked = eq-eqb _ _ p.pin;
  })

  pub held_among : has_one (pinned c) m 1 ≡ true → PinAmong c.pins l 0 len
  held_among e =
      let o = one_is (pinned c) m 1 e in
      let q = w.all o.site o.label in
      record { place = q.0; low = zero-le; high = q.1; pin = ap (λ (x : ℕ). get_or c.pins x 0) (sym q.2) ∙ eqb-true _ _ o.marked }
