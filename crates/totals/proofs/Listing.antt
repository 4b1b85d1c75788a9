-- The changes looked at from the members are all that there are.
use Prim.Native.Nat.{ℕ, ◌+◌, ◌*◌, ◌<◌}
use mathlib.Core.Path.{◌≡◌, refl, sym, ◌∙◌, ap}
use mathlib.Core.Logic.{◌≢◌}
use mathlib.Core.Bool.{cond}
use mathlib.Core.List.{List}
use native.Mathlib.Decide.{ℕ_discrete}
use borrow.Author.Tests.{eq-eqb, ne_eqb}
use lib.Dec.{eqb}
use lib.ListN.{get_or}
use lib.IntN.{ℤ, pos, ◌+ℤ◌}
use Rattle.lemmas.specs.Sums.{sum, sum_ext}
use Rattle.paper.specs.declared.Group.{Group}
use Rattle.paper.specs.Panel.Input.{Lattice, member, spin, pattern_of}
use Rattle.laws.specs.Permuted.{sum_listed}
use Rattle.columns.specs.Column.{shown, shown_column}
use Rattle.totals.specs.Gain.{Change, change_of, at_site, bond_gain, gain, back_gain, site_gain, Sums}
use Rattle.totals.specs.Law.{Shows, change_in}
use Rattle.totals.specs.Contract.{Bringable, Spun}
use Rattle.totals.specs.Listed.{columns_by, Right, Source, Near, to, from, NearSome, Gathered, Listing, Unturned}
use Rattle.totals.proofs.Brings.{spin_of}

-- the columns that are right at a site and next to it make the same changes there
site_agrees :
    (g : Lattice) (old new : ℕ → ℕ) (olds news : List ℕ) (k i : ℕ) → Right old new olds news i
    → ((x : ℕ) → Near g.d g.fwd g.bwd i g.d x → Right old new olds news x)
    → site_gain (change_of g.d g.fwd g.bwd g.couplings olds news) k i ≡ site_gain (change_in g old new) k i
site_agrees g old new olds news k i r near =
    λ x. cond (eqb (r.before x) (r.after x)) (pos 0)
    (sum_ext g.d (λ e. gain w k i e +ℤ back_gain w k i e) (λ e. gain v k i e +ℤ back_gain v k i e) turn x)
  where
    w : Change
    w = change_of g.d g.fwd g.bwd g.couplings olds news

    v : Change
    v = change_in g old new

    turn : (e : ℕ) → e < g.d → gain w k i e +ℤ back_gain w k i e ≡ gain v k i e +ℤ back_gain v k i e
    turn e l =
        let j = get_or g.fwd (i * g.d + e) 0 in
        let h = get_or g.bwd (i * g.d + e) 0 in
        let a = near j (to e l refl) in
        let b = near h (from e l refl) in
        λ x. bond_gain (get_or g.couplings (i * g.d + e) (pos 0)) (r.before x) (r.after x) (a.before x) (a.after x) k
        +ℤ cond (eqb (b.before x) (b.after x))
        (bond_gain (get_or g.couplings (h * g.d + e) (pos 0)) (b.before x) (b.after x) (r.before x) (r.after x) k) (pos 0)

-- a member's column from an area, another site's from the rows
abbrev pub seen : List ℕ → (ℕ → ℕ) → List ℕ → ℕ → ℕ
seen members rows cols i = cond (eqb (get_or members i 0) 1) (get_or cols i 0) (rows i)

module _ (members : List ℕ) (rows : ℕ → ℕ) where
  seen_member : (cols : List ℕ) (i : ℕ) → get_or members i 0 ≡ 1 → seen members rows cols i ≡ get_or cols i 0
  seen_member cols i e = rw (eq-eqb (get_or members i 0) 1 e)

  seen_row : (cols : List ℕ) (i : ℕ) → get_or members i 0 ≢ 1 → seen members rows cols i ≡ rows i
  seen_row cols i o = rw (ne_eqb (get_or members i 0) 1 o)

  source : (n : ℕ) (olds news : List ℕ) → Source n members rows (seen members rows olds) (seen members rows news) olds news
  source n olds news = record {
    outside = λ x l o. (sym (seen_row olds x o), sym (seen_row news x o));
    within = λ x l e. record { before = sym (seen_member olds x e); after = sym (seen_member news x e) };
  }

module _ {g : Lattice} {group : Group} {ys totals : List ℤ} (h : Bringable g group totals) (r : Spun g group ys)
    {members list : List ℕ} {m : ℕ} {olds news : List ℕ} (t : Listing g.n group ys members list m olds news) where
  abbrev rows : ℕ → ℕ
  rows = columns_by g.n group ys

  abbrev pub old_of : ℕ → ℕ
  old_of = seen members rows olds

  abbrev pub new_of : ℕ → ℕ
  new_of = seen members rows news

  -- what is looked at from a site that is no member is nothing
  still : (k i : ℕ) → get_or members i 0 ≢ 1 → site_gain (change_in g old_of new_of) k i ≡ pos 0
  still k i o = rw (eq-eqb (old_of i) (new_of i) (seen_row members rows olds i o ∙ sym (seen_row members rows news i o)))

  pub listed_sums :
      {olds' news' : List ℕ} {sums : List ℤ}
      → Gathered g.n members rows (NearSome g.d g.fwd g.bwd list m) olds news olds' news'
      → Sums group.len (λ k. sum m (λ a. site_gain (change_of g.d g.fwd g.bwd g.couplings olds' news') k (at_site list a))) sums
      → Sums group.len (λ k. sum g.n (site_gain (change_in g old_of new_of) k)) sums
  listed_sums {olds'} {news'} got s = record { long = s.long; each = λ k l. s.each k l ∙ (sum_ext m _ _ (agrees k) ∙ all k) }
    where
      src : Source g.n members rows old_of new_of olds news
      src = source members rows g.n olds news

      agrees : (k a : ℕ) → a < m
          → site_gain (change_of g.d g.fwd g.bwd g.couplings olds' news') k (at_site list a) ≡ site_gain (change_in g old_of new_of) k (at_site list a)
      agrees k a l =
          site_agrees g old_of new_of olds' news' k (at_site list a)
          (got.kept old_of new_of src (at_site list a) (src.within (at_site list a) (t.sites.below a l) (t.marked a l)))
          (λ x d. got.done old_of new_of src x (a, l, d))

      all : (k : ℕ) → sum m (λ a. site_gain (change_in g old_of new_of) k (at_site list a)) ≡ sum g.n (site_gain (change_in g old_of new_of) k)
      all k =
          sum_listed m g.n (at_site list) (site_gain (change_in g old_of new_of) k) t.sites.below t.distinct
          (λ v l u. still k v (λ e. let r = t.listed v l e in u r.0 r.1 r.2))

  -- a column of the rows shows them
  row_shows : (k i : ℕ) → k < group.len → i < g.n → spin g.n ys (member group k) i ≡ shown (rows i) k
  row_shows k i lk li = sym (shown_column group.len (pattern_of g.n group ys i) k lk (spin_of h r i k li lk))

  pub new_shows : (k : ℕ) → k < group.len → Shows g.n new_of k ys (member group k)
  new_shows k lk = record { at = λ i li. go i li (ℕ_discrete (get_or members i 0) 1) }
    where
      go : (i : ℕ) → i < g.n → Dec (get_or members i 0 ≡ 1) → spin g.n ys (member group k) i ≡ shown (new_of i) k
      go i li (yes e) = t.after i k li e lk ∙ ap (λ (x : ℕ). shown x k) (sym (seen_member members rows news i e))
      go i li (no o) = row_shows k i lk li ∙ ap (λ (x : ℕ). shown x k) (sym (seen_row members rows news i o))

  pub old_shows : {xs : List ℤ} → Unturned g.n group members olds xs ys → (k : ℕ) → k < group.len → Shows g.n old_of k xs (member group k)
  old_shows {xs} u k lk = record { at = λ i li. go i li (ℕ_discrete (get_or members i 0) 1) }
    where
      go : (i : ℕ) → i < g.n → Dec (get_or members i 0 ≡ 1) → spin g.n xs (member group k) i ≡ shown (old_of i) k
      go i li (yes e) = u.before i k li e lk ∙ ap (λ (x : ℕ). shown x k) (sym (seen_member members rows olds i e))
      go i li (no o) =
          sym (u.sites i (member group k) li o) ∙ (row_shows k i lk li ∙ ap (λ (x : ℕ). shown x k) (sym (seen_row members rows olds i o)))
