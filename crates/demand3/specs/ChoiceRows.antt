-- Permutations as buffers: composites, inverses and the identity are permutations, and do what they say.
use Rattle.std.specs.Prelude.{ℕ, zero, suc, ◌+◌, ◌*◌, ◌/◌, ◌%◌, ◌<◌, ◌≡◌, refl, ◌≢◌, true, false, eqb, length, get_or}
use Rattle.std.proofs.Common.{sym, ◌∙◌, ap, arith, eq-eqb, ne_eqb}
use Rattle.std.proofs.Math.Decide.{ℕ_discrete}
use Rattle.lemmas.specs.Bools.{never}
use Rattle.lemmas.specs.Places.{Placed}
use Rattle.lemmas.specs.Cells.{row_of, column_of_lem, cell_lt, table_at, length_table}
use Rattle.paper.specs.declared.Mode.{Mode}
use Rattle.paper.specs.declared.Mode.TheVariants.{Houd, Pair, Perm, Gperm, Jorg, Cmr}
use Rattle.paper.specs.Panel.Input.{Call, Choices, size}
use Rattle.paper.specs.Panel.Takes.{is_perm, moves, entry, entries}
use Rattle.paper.specs.Move.Moving.{chosen, chosen_by}
use Rattle.paper.specs.Refusal.Rules.{Permutes, NotIdentity, perm_row}
use Rattle.laws.specs.Permuted.{onto}
use Rattle.laws.specs.Entries.{perm_of, entry_lt}
use Rattle.demand3.specs.Statement.{perms_of, composite, place_of, inverse, identity}
use Rattle.demand3.specs.ChoicesAdd.{ComposedAll, CancelsAll}

-- ---- functions
pub twice : (m : ℕ) (f g : ℕ → ℕ) → Permutes m f → Permutes m g → Permutes m (λ k. f (g k))
twice m f g pf pg = record {
  within = λ k l. pf.within (g k) (pg.within k l);
  distinct = λ a b ha hb q. pg.distinct a b ha hb (pf.distinct (g a) (g b) (pg.within a ha) (pg.within b hb) q);
}

pub permutes_ext : (m : ℕ) (f g : ℕ → ℕ) → ((k : ℕ) → k < m → g k ≡ f k) → Permutes m f → Permutes m g
permutes_ext m f g e h = record {
  within = λ k l. rw (e k l) (h.within k l);
  distinct = λ a b ha hb q. h.distinct a b ha hb (sym (e a ha) ∙ (q ∙ e b hb));
}

-- `place_of` finds a place that is there
record Found (m : ℕ) (f : ℕ → ℕ) (v : ℕ) : Type 0 where
  below : place_of m f v < m
  is : f (place_of m f v) ≡ v

found : (m : ℕ) (f : ℕ → ℕ) (v : ℕ) → Placed m f v → Found m f v
unfolding place_of
found zero f v r = absurd (omega (arith, r.1))
found (suc m) f v r = go (ℕ_discrete (f m) v) (found m f v)
  where
    apart : f m ≢ v → Dec (r.0 ≡ m) → r.0 < m
    apart ne (yes e) = absurd (ne (sym (r.2 ∙ ap f e)))
    apart ne (no e) = omega (arith, r.1)

    go : Dec (f m ≡ v) → (Placed m f v → Found m f v) → Found (suc m) f v
    go (yes e) ih = here (eq-eqb (f m) v e)
      where
        here : eqb (f m) v ≡ true → Found (suc m) f v
        here t = record { below = rw t (omega arith); is = rw t e }
    go (no e) ih = there (ne_eqb (f m) v e) (ih (r.0, apart e (ℕ_discrete r.0 m), r.2))
      where
        there : eqb (f m) v ≡ false → Found m f v → Found (suc m) f v
        there t q = record { below = rw t (omega (arith, q.below)); is = rw t q.is }

module _ (m : ℕ) (f : ℕ → ℕ) (h : Permutes m f) where
  there : (v : ℕ) → v < m → Found m f v
  there v l = found m f v (onto m f h v l)

  back_permutes : Permutes m (place_of m f)
  back_permutes = record {
    within = λ k l. (there k l).below;
    distinct = λ a b ha hb q. sym (there a ha).is ∙ (ap f q ∙ (there b hb).is);
  }

  -- the inverse of what moves a place moves that place
  back_moves : NotIdentity m f → NotIdentity m (place_of m f)
  back_moves w = record { place = w.place; below = w.below; moved = λ e. w.moved (sym (ap f e) ∙ (there w.place w.below).is) }

pub moves_ext : (m : ℕ) (f g : ℕ → ℕ) → ((k : ℕ) → k < m → g k ≡ f k) → NotIdentity m f → NotIdentity m g
moves_ext m f g e w = record { place = w.place; below = w.below; moved = λ q. w.moved (sym (e w.place w.below) ∙ q) }

-- ---- buffers
module _ (c : Call) (f : ℕ → ℕ → ℕ) where
  pub rows_at : (r k : ℕ) → r < entries c.form c.lattice.n → k < size c → get_or (perms_of c f) (r * size c + k) 0 ≡ f r k
  rows_at r k hr hk =
      table_at (entries c.form c.lattice.n * size c) (λ x. f (x / size c) (x % size c)) (r * size c + k)
      (cell_lt (entries c.form c.lattice.n) (size c) r k hr hk)
      ∙ cc (row_of (size c) r k hk, column_of_lem (size c) r k hk)

  pub rows_long : length (perms_of c f) ≡ entries c.form c.lattice.n * size c
  rows_long = length_table (entries c.form c.lattice.n * size c) (λ x. f (x / size c) (x % size c))

perm_in : (m : Mode) → is_perm m ≡ true → (c : Call) (p : Choices) (l k : ℕ) → chosen_by m c p l k ≡ perm_of c p l k
perm_in Houd e c p l k = never e
perm_in Pair e c p l k = never e
perm_in Perm e c p l k = refl
perm_in Gperm e c p l k = refl
perm_in Jorg e c p l k = never e
perm_in Cmr e c p l k = never e

module _ (c : Call) (e : is_perm c.mode ≡ true) (f : moves c.form ≡ true) where
  pub perm_is : (p : Choices) (l k : ℕ) → chosen c p l k ≡ perm_of c p l k
  perm_is p l k = perm_in c.mode e c p l k

  here : (l : ℕ) → l < c.lattice.n → entry c.form l < entries c.form c.lattice.n
  here l h = entry_lt c.form c.lattice.n l f h

  pub perm_composes : (p q : Choices) → ComposedAll c p q (composite c p q)
  perm_composes p q l hl k hk =
      rw (perm_is (composite c p q) l k, perm_is p l (chosen c q l k), perm_is q l k, e)
      (rows_at c (λ r k. perm_row c p r (perm_row c q r k)) (entry c.form l) k (here l hl) hk)

  pub perm_cancels : (p : Choices) → ((r : ℕ) → r < entries c.form c.lattice.n → Permutes (size c) (perm_row c p r)) → CancelsAll c p (inverse c p)
  perm_cancels p h l hl k hk =
      let r = entry c.form l in
      let at = rows_at c (λ r. place_of (size c) (perm_row c p r)) r k (here l hl) hk in
      rw (perm_is p l (chosen c (inverse c p) l k), perm_is (inverse c p) l k, e, at) (there (size c) (perm_row c p r) (h r (here l hl)) k hk).is

  pub perm_stays : (l k : ℕ) → l < c.lattice.n → k < size c → chosen c (identity c) l k ≡ k
  perm_stays l k hl hk = perm_is (identity c) l k ∙ rw e (rows_at c (λ r k. k) (entry c.form l) k (here l hl) hk)

-- the rows as tests see them
module _ (c : Call) (e : is_perm c.mode ≡ true) (r : ℕ) (hr : r < entries c.form c.lattice.n) where
  pub composite_row :
      (p q : Choices)
      → Permutes (size c) (perm_row c p r)
      → Permutes (size c) (perm_row c q r)
      → Permutes (size c) (perm_row c (composite c p q) r)
  composite_row p q hp hq =
      permutes_ext (size c) (λ k. perm_row c p r (perm_row c q r k)) (perm_row c (composite c p q) r)
      (λ k hk. rw e (rows_at c (λ r k. perm_row c p r (perm_row c q r k)) r k hr hk))
      (twice (size c) (perm_row c p r) (perm_row c q r) hp hq)

  pub composite_moves : (p q : Choices) → NotIdentity (size c) (λ k. perm_row c p r (perm_row c q r k)) → NotIdentity (size c) (perm_row c (composite c p q) r)
  composite_moves p q w =
      moves_ext (size c) (λ k. perm_row c p r (perm_row c q r k)) (perm_row c (composite c p q) r)
      (λ k hk. rw e (rows_at c (λ r k. perm_row c p r (perm_row c q r k)) r k hr hk)) w

  pub inverse_row : (p : Choices) → Permutes (size c) (perm_row c p r) → Permutes (size c) (perm_row c (inverse c p) r)
  inverse_row p hp =
      permutes_ext (size c) (place_of (size c) (perm_row c p r)) (perm_row c (inverse c p) r)
      (λ k hk. rw e (rows_at c (λ r. place_of (size c) (perm_row c p r)) r k hr hk))
      (back_permutes (size c) (perm_row c p r) hp)

  pub inverse_moves :
      (p : Choices)
      → Permutes (size c) (perm_row c p r)
      → NotIdentity (size c) (perm_row c p r)
      → NotIdentity (size c) (perm_row c (inverse c p) r)
  inverse_moves p hp w =
      moves_ext (size c) (place_of (size c) (perm_row c p r)) (perm_row c (inverse c p) r)
      (λ k hk. rw e (rows_at c (λ r. place_of (size c) (perm_row c p r)) r k hr hk))
      (back_moves (size c) (perm_row c p r) hp w)

  pub identity_row : Permutes (size c) (perm_row c (identity c) r)
  identity_row =
      permutes_ext (size c) (λ k. k) (perm_row c (identity c) r) (λ k hk. rw e (rows_at c (λ r k. k) r k hr hk))
      (record { within = λ k h. h; distinct = λ a b _ _ e. e })
