-- The pass that numbers the components and tallies the sites of each.
use Prim.Native.Nat.{ℕ, ◌+◌, ◌≤◌, ◌<◌, zero-le}
use mathlib.Core.Path.{◌≡◌, refl, sym, ap, ◌∙◌}
use mathlib.Core.Logic.{◌⊎◌, inl, inr}
use mathlib.Core.Bool.{Bool, true, false, cond}
use mathlib.Core.List.{List}
use native.Mathlib.Nat.{le_refl, le_trans, lt_of_le_of_lt, lt_irrefl, eq-or-lt_of_le, not-suc-le-zero, le_antisymm, le_of_eq}
use native.Mathlib.Numerals.{lt_of_le_of_ne}
use native.Mathlib.Decide.{ℕ_discrete}
use native.Mathlib.Omega.{arith}
use borrow.Author.Tests.{eq-eqb, ne_eqb}
use lib.Dec.{eqb}
use lib.ListN.{length, get_or, set, length-set}
use lib.Seq.{get_or-set_same, get_or-set_other}
use Rattle.lemmas.specs.Counts.{bit, count_where, count_none, count_suc, count_yes, count_no, count_zero, count_ext, count_most}
use Rattle.lemmas.specs.Stores.{AfterSet, AfterSet.here, AfterSet.there, after_set, lt_of_ne}
use Rattle.paper.specs.Component.Links.{Linked, Linked.stay, Linked.along, Linked.against}
use Rattle.paper.specs.Component.Sizes.{label_of, size_of}
use Rattle.laws.specs.Numbering.{own}
use Rattle.forest.specs.Closure.{one, same_refl, same_trans, reroute}
use Rattle.forest.specs.Forest.{Edge, Down, Keeps, Flat}
use Rattle.forest.specs.Steps.{Flattening, Flattened}
use Rattle.forest.proofs.Forest.{set_down, edge_kept, set_edge, edge_new, edge_old}

-- of the entries below m, entry r counts the first i that F r takes
abbrev pub Tallied : (ℕ → ℕ → Bool) → List ℕ → ℕ → ℕ → Type 0
Tallied F out m i = (r : ℕ) → r < m → get_or out r 0 ≡ count_where (F r) i

-- i is taken by k alone
tally_hit : (F : ℕ → ℕ → Bool) (out : List ℕ) (m i k : ℕ) → k < length out → F k i ≡ true → ((r : ℕ) → (r ≡ k → ⊥) → F r i ≡ false) → Tallied F out m i
    → Tallied F (set out k (get_or out k 0 + 1)) m (i + 1)
tally_hit F out m i k kl yes-k no-r t r rl = go (after_set out k (get_or out k 0 + 1) r kl)
  where
    go : AfterSet out k (get_or out k 0 + 1) r → get_or (set out k (get_or out k 0 + 1)) r 0 ≡ count_where (F r) (i + 1)
    go (here e g) = g ∙ rw e (omega (arith, t k (rw e at rl), count_yes (F k) i yes-k))
    go (there ne g) = omega (arith, g, t r rl, count_no (F r) i (no-r r ne))

-- a site gets its grandparent for its parent
module _ (p : List ℕ) (x : ℕ) (d : Down p) (xl : x < length p) where
  abbrev u : ℕ
  u = get_or p x 0

  abbrev v : ℕ
  v = get_or p u 0

  abbrev q : List ℕ
  q = set p x v

  ul : u < length p
  ul = lt_of_le_of_lt (d x xl) xl

  uv : Edge p u v
  uv = record { site = ul; parent = refl }

  up : Linked (Edge q) x u
  up = go (eq-or-lt_of_le (d x xl))
    where
      go : (u ≡ x) ⊎ (u < x) → Linked (Edge q) x u
      go (inl e) = rw e stay
      go (inr l) = along (set_edge p x v xl) (against (edge_kept p x v xl u v (λ e. lt_irrefl x (rw e at l)) uv) stay)

  pub halve : Keeps p (Edge p) q
  halve = record {
    long = length-set p x v;
    down = set_down p x v xl d (le_trans (d u ul) (d x xl));
    same = reroute x u v (edge_new p x v xl) (edge_old p x v xl) (along {b = u} (record { site = xl; parent = refl }) (one uv)) up;
  }

  -- and with it a root, where the sites before it have theirs
  other : (y : ℕ) → y < x → get_or q y 0 ≡ get_or p y 0
  other y l = get_or-set_other p x y v 0 (λ e. lt_irrefl x (rw e at l))

  pub flat_more : Flat p x → Flat q (x + 1)
  flat_more f y yl = go (after_set p x v y xl)
    where
      top : (u ≡ x) ⊎ (u < x) → get_or q v 0 ≡ v
      top (inl e) = ap (λ (y : ℕ). get_or q y 0) (ap (λ (y : ℕ). get_or p y 0) e ∙ e) ∙ get_or-set_same p x v 0 xl
      top (inr l) = other v (lt_of_le_of_lt (d u ul) l) ∙ f u l

      go : AfterSet p x v y → get_or q (get_or q y 0) 0 ≡ get_or q y 0
      go (here e g) = rw g (top (eq-or-lt_of_le (d x xl)))
      go (there ne g) =
          let l : y < x = lt_of_ne yl ne in
          rw g (other (get_or p y 0) (lt_of_le_of_lt (d y (omega arith)) l) ∙ f y l)

-- the site j has the label r
abbrev pub labelled : List ℕ → ℕ → ℕ → Bool
labelled l r j = eqb (label_of l j) r

-- the first i sites of l, which was p, have their numbers, and are tallied; the others have their parents still. q links what p does, and there the
-- first i sites have their roots
pub record Flatten (p l tally : List ℕ) (next i : ℕ) : Type 0 where
  pub q : List ℕ
  pub reached : i ≤ length l
  pub long : length l ≡ length q
  pub tally_long : length tally ≡ length l
  pub keeps : Keeps p (Edge p) q
  pub flat : Flat q i
  pub number : (x : ℕ) → x < i → get_or l x 0 ≡ count_where (own q) (get_or q x 0)
  pub parent : (x : ℕ) → i ≤ x → get_or l x 0 ≡ get_or q x 0
  pub roots : next ≡ count_where (own q) i
  pub counts : Tallied (labelled l) tally i i

pub flatten_start : (p tally : List ℕ) → Flattening p (length tally) → Flatten p p tally 0 0
flatten_start p tally h = record {
  q = p;
  reached = zero-le;
  long = refl;
  tally_long = h.tally_long;
  keeps = record { long = refl; down = h.down; same = same_refl };
  flat = λ x l. absurd (not-suc-le-zero l);
  number = λ x l. absurd (not-suc-le-zero l);
  parent = λ x _. refl;
  roots = sym (count_none (own p));
  counts = λ r l. absurd (not-suc-le-zero l);
}

module _ {p l tally : List ℕ} {next i : ℕ} (h : Flatten p l tally next i) (il : i < length l) (a : ℕ) (ea : a ≡ get_or l i 0) where
  abbrev q₁ : List ℕ
  q₁ = h.q

  iq : i < length q₁
  iq = rw (← h.long) il

  parent_is : a ≡ get_or q₁ i 0
  parent_is = ea ∙ h.parent i (le_refl i)

  pub parent_le : a ≤ i
  parent_le = rw parent_is (h.keeps.down i iq)

  pub next_le : next ≤ i
  next_le = rw h.roots (count_most (own q₁) i)

  -- the root of i, and the forest where i has it
  abbrev root : ℕ
  root = get_or q₁ (get_or q₁ i 0) 0

  abbrev q₂ : List ℕ
  q₂ = set q₁ i root

  root_of : root ≡ get_or q₁ a 0
  root_of = rw parent_is refl

  root_le : root ≤ a
  root_le = rw root_of (h.keeps.down a (lt_of_le_of_lt parent_le iq))

  -- i is its own root if it is its own parent
  root_own : eqb a i ≡ own q₂ i
  root_own = rw (get_or-set_same q₁ i root 0 iq) (go (ℕ_discrete a i))
    where
      go : Dec (a ≡ i) → eqb a i ≡ eqb root i
      go (yes e) = eq-eqb a i e ∙ sym (eq-eqb root i (root_of ∙ (ap (λ (y : ℕ). get_or q₁ y 0) e ∙ (sym parent_is ∙ e))))
      go (no ne) = ne_eqb a i ne ∙ sym (ne_eqb root i (λ e. ne (le_antisymm parent_le (rw e at root_le))))

  -- the roots before i stay
  roots_kept : (m : ℕ) → m ≤ i → count_where (own q₂) m ≡ count_where (own q₁) m
  roots_kept m ml = count_ext (own q₂) (own q₁) m (λ j jl. ap (λ (y : ℕ). eqb y j) (get_or-set_other q₁ i j root 0 (λ e. omega arith)))

  -- the number that i takes: the next one if it is a root, or else its parent's
  module _ (r : ℕ) (er : r ≡ cond (eqb a i) next (get_or l a 0)) where
    number_is : r ≡ count_where (own q₁) root
    number_is = go (ℕ_discrete a i)
      where
        go : Dec (a ≡ i) → r ≡ count_where (own q₁) root
        go (yes e) =
            er ∙ (rw (eq-eqb a i e) h.roots ∙ ap (count_where (own q₁)) (sym (root_of ∙ (ap (λ (y : ℕ). get_or q₁ y 0) e ∙ (sym parent_is ∙ e)))))
        go (no ne) = er ∙ (rw (ne_eqb a i ne) (h.number a (lt_of_le_of_ne parent_le ne)) ∙ ap (count_where (own q₁)) (sym root_of))

    pub number_le : r ≤ i
    number_le = omega (arith, number_is, count_most (own q₁) root, root_le, parent_le)

    -- no site before i has the number i, so its entry starts at 0
    opened : Tallied (labelled l) (set tally i 0) (i + 1) i
    opened s sl = go (after_set tally i 0 s (rw h.tally_long il))
      where
        low : (j : ℕ) → j < i → label_of l j < i
        low j jl = omega (arith, h.number j jl, count_most (own q₁) (get_or q₁ j 0), h.keeps.down j (omega (arith, iq)))

        go : AfterSet tally i 0 s → get_or (set tally i 0) s 0 ≡ count_where (labelled l s) i
        go (here e g) = g ∙ sym (rw e (count_zero (labelled l i) i (λ j jl. ne_eqb (label_of l j) i (λ e. lt_irrefl i (rw e at (low j jl))))))
        go (there ne g) = g ∙ h.counts s (lt_of_ne sl ne)

    -- and no number before i changes
    stands : (j : ℕ) → j < i → get_or (set l i r) j 0 ≡ get_or l j 0
    stands j jl = get_or-set_other l i j r 0 (λ e. lt_irrefl i (rw e at jl))

    opened' : Tallied (labelled (set l i r)) (set tally i 0) (i + 1) i
    opened' s sl = opened s sl ∙ count_ext (labelled l s) (labelled (set l i r) s) i (λ j jl. ap (λ (y : ℕ). eqb y s) (sym (stands j jl)))

    at_i : get_or (set l i r) i 0 ≡ r
    at_i = get_or-set_same l i r 0 il

    numbers : (x : ℕ) → x < i + 1 → AfterSet l i r x → get_or (set l i r) x 0 ≡ count_where (own q₂) (get_or q₂ x 0)
    numbers x xl (here e g) =
        g ∙ (number_is ∙ (sym (roots_kept root (omega (arith, root_le, parent_le)))
        ∙ ap (count_where (own q₂)) (sym (ap (λ (y : ℕ). get_or q₂ y 0) e ∙ get_or-set_same q₁ i root 0 iq))))
    numbers x xl (there ne g) =
        let xi : x < i = lt_of_ne xl ne in
        g ∙ (h.number x xi ∙ (sym (roots_kept (get_or q₁ x 0) (omega (arith, h.keeps.down x (omega (arith, iq)))))
        ∙ ap (count_where (own q₂)) (sym (get_or-set_other q₁ i x root 0 ne))))

    module _ (k : ℕ) (ek : k ≡ r) where
      pub tally_fits : get_or (set tally i 0) k 0 ≤ i
      tally_fits = le_trans (le_of_eq (opened k (omega (arith, number_le)))) (count_most (labelled l k) i)

      pub flatten_more : Flatten p (set l i r) (set (set tally i 0) k (get_or (set tally i 0) k 0 + 1)) (next + bit (eqb a i)) (i + 1)
      flatten_more = record {
        q = q₂;
        reached = simp length-set (omega arith);
        long = simp length-set h.long;
        tally_long = simp length-set h.tally_long;
        keeps = record { long = step.long ∙ h.keeps.long; down = step.down; same = same_trans step.same h.keeps.same };
        flat = flat_more q₁ i h.keeps.down iq h.flat;
        number = λ x xl. numbers x xl (after_set l i r x il);
        parent = λ x xl.
            get_or-set_other l i x r 0 (λ e. omega arith) ∙ (h.parent x (omega arith) ∙ sym (get_or-set_other q₁ i x root 0 (λ e. omega arith)));
        roots = ap (λ (x : ℕ). x + bit (eqb a i)) (h.roots ∙ sym (roots_kept i (le_refl i)))
            ∙ (ap (λ (b : Bool). count_where (own q₂) i + bit b) root_own ∙ sym (count_suc (own q₂) i));
        counts = tally_hit (labelled (set l i r)) (set tally i 0) (i + 1) i k (simp length-set (omega (arith, number_le, h.tally_long)))
            (eq-eqb _ _ (at_i ∙ sym ek)) (λ s ne. ne_eqb _ _ (λ e. ne (sym e ∙ (at_i ∙ sym ek)))) opened';
      }
        where
          step : Keeps q₁ (Edge q₁) q₂
          step = halve q₁ i h.keeps.down iq

pub flatten_end : {p l tally : List ℕ} {next i : ℕ} → Flatten p l tally next i → length l ≤ i → Flattened p l tally next
unfolding size_of
flatten_end {p} {l} {tally} {next} {i} h le = record {
  q = h.q;
  kept = h.keeps;
  flat = rw (← whole) h.flat;
  long = h.long;
  number = rw (← whole) h.number;
  all = h.roots ∙ ap (count_where (own h.q)) whole;
  sized = record { long = h.tally_long; each = λ r rl. size r (omega arith) };
}
  where
    whole : i ≡ length h.q
    whole = le_antisymm h.reached le ∙ h.long

    size : (r : ℕ) → r < i → get_or tally r 0 ≡ size_of l r
    size r rl = h.counts r rl ∙ ap (count_where (labelled l r)) (le_antisymm h.reached le)
