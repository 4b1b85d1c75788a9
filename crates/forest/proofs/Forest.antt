-- Laws of the forest in `labels`: a climb from two sites, and the pass that makes every parent a root.
use Prim.Native.Nat.{ℕ, ◌+◌, ◌≤◌, ◌<◌}
use mathlib.Core.Path.{◌≡◌, refl, sym, ap, ◌∙◌}
use mathlib.Core.Logic.{◌⊎◌, inl, inr}
use mathlib.Core.List.{List}
use native.Mathlib.Nat.{lt_of_le_of_lt, lt_irrefl, eq-or-lt_of_le}
use native.Mathlib.Omega.{arith}
use lib.ListN.{length, get_or, set, length-set}
use lib.Seq.{get_or-set_same, get_or-set_other}
use Rattle.lemmas.specs.Stores.{AfterSet, AfterSet.here, AfterSet.there, after_set}
use Rattle.paper.specs.Component.Links.{Linked.stay, Linked.along, Linked.against}
use Rattle.forest.specs.Closure.{SameLinks, Or, Only, same_refl, same_trans, flip, settled, splice}
use Rattle.forest.specs.Forest.{Adds, Edge, Down}
use Rattle.forest.specs.Steps.{Climbing}

-- ---- a new parent v for the site x
module _ (p : List ℕ) (x v : ℕ) (xl : x < length p) where
  pub set_down : Down p → v ≤ x → Down (set p x v)
  set_down d vx y yl = go (after_set p x v y xl)
    where
      go : AfterSet p x v y → get_or (set p x v) y 0 ≤ y
      go (here e g) = omega arith
      go (there ne g) = omega (arith, d y (simp length-set at yl))

  -- an edge elsewhere is kept
  pub edge_kept : (a b : ℕ) → (a ≡ x → ⊥) → Edge p a b → Edge (set p x v) a b
  edge_kept a b ne e = record { site = simp length-set e.site; parent = get_or-set_other p x a v 0 ne ∙ e.parent }

  pub set_edge : Edge (set p x v) x v
  set_edge = record { site = simp length-set xl; parent = get_or-set_same p x v 0 xl }

  pub edge_new : (a b : ℕ) → Edge (set p x v) a b → Edge p a b ⊎ Only x v a b
  edge_new a b e = go (after_set p x v a xl)
    where
      go : AfterSet p x v a → Edge p a b ⊎ Only x v a b
      go (here q g) = inr (q, sym e.parent ∙ g)
      go (there ne g) = inl (record { site = simp length-set at e.site; parent = sym g ∙ e.parent })

  pub edge_old : (a b : ℕ) → Edge p a b → Edge (set p x v) a b ⊎ Only x (get_or p x 0) a b
  edge_old a b e = go (after_set p x v a xl)
    where
      go : AfterSet p x v a → Edge (set p x v) a b ⊎ Only x (get_or p x 0) a b
      go (here q g) = inr (q, sym e.parent ∙ ap (λ (y : ℕ). get_or p y 0) q)
      go (there ne g) = inl (edge_kept a b ne e)

-- ---- `union` has come from a and b to x and y, whose parents are u and v, and has made q of p
pub record Climb (p : List ℕ) (a b : ℕ) (q : List ℕ) (x y u v : ℕ) : Type 0 where
  pub long : length q ≡ length p
  pub down : Down q
  pub x_lt : x < length q
  pub y_lt : y < length q
  pub x_parent : u ≡ get_or q x 0
  pub y_parent : v ≡ get_or q y 0
  pub same : SameLinks (Or (Edge q) (Only x y)) (Or (Edge p) (Only a b))

pub climb_start : (p : List ℕ) (a b : ℕ) → Climbing p a b → Climb p a b p a b (get_or p a 0) (get_or p b 0)
climb_start p a b c = record {
  long = refl;
  down = c.down;
  x_lt = c.a_lt;
  y_lt = c.b_lt;
  x_parent = refl;
  y_parent = refl;
  same = same_refl;
}

pub climb_turn : {p : List ℕ} {a b : ℕ} {q : List ℕ} {x y u v : ℕ} → Climb p a b q x y u v → Climb p a b q y x v u
climb_turn {p} {a} {b} {q} {x} {y} c = record {
  long = c.long;
  down = c.down;
  x_lt = c.y_lt;
  y_lt = c.x_lt;
  x_parent = c.y_parent;
  y_parent = c.x_parent;
  same = same_trans (flip x y) c.same;
}

pub parent_y : {p : List ℕ} {a b : ℕ} {q : List ℕ} {x y u v : ℕ} → Climb p a b q x y u v → v ≤ y
parent_y {y = y} c = rw c.y_parent (c.down y c.y_lt)

-- y, whose parent is the larger, gets the other parent
climb : {p : List ℕ} {a b : ℕ} {q : List ℕ} {x y u v : ℕ} → Climb p a b q x y u v → u < v → Climb p a b (set q y u) x v u (get_or (set q y u) v 0)
climb {p} {a} {b} {q} {x} {y} {u} {v} c l = record {
  long = simp length-set c.long;
  down = set_down q y u c.y_lt c.down (omega (arith, parent_y c));
  x_lt = simp length-set c.x_lt;
  y_lt = simp length-set (lt_of_le_of_lt (parent_y c) c.y_lt);
  x_parent = c.x_parent ∙ sym (get_or-set_other q y x u 0 apart);
  y_parent = refl;
  same = same_trans (splice x y u v (edge_new q y u c.y_lt) old xu (edge_kept q y u c.y_lt x u apart xu) yv (set_edge q y u c.y_lt)) c.same;
}
  where
    apart : x ≡ y → ⊥
    apart e = lt_irrefl u (rw (← (c.x_parent ∙ ap (λ (z : ℕ). get_or q z 0) e ∙ sym c.y_parent)) at l)

    xu : Edge q x u
    xu = record { site = c.x_lt; parent = sym c.x_parent }

    yv : Edge q y v
    yv = record { site = c.y_lt; parent = sym c.y_parent }

    old : (g h : ℕ) → Edge q g h → Edge (set q y u) g h ⊎ Only y v g h
    old g h e = rw c.y_parent (edge_old q y u c.y_lt g h e)

-- and the climb goes on from y', its old one
module _ {p : List ℕ} {a b : ℕ} {q : List ℕ} {x y u v : ℕ} (c : Climb p a b q x y u v) (y' : ℕ) (e : y' ≡ v) (l : u < v) where
  pub climb_y : Climb p a b (set q y u) x y' u (get_or (set q y u) y' 0)
  climb_y = rw e (climb c l)

  -- the climb comes to an end
  pub climb_falls : y' + get_or (set q y u) y' 0 < y + v
  climb_falls = go (eq-or-lt_of_le (parent_y c))
    where
      go : (v ≡ y) ⊎ (v < y) → y' + get_or (set q y u) y' 0 < y + v
      go (inl h) = omega (arith, ap (λ (z : ℕ). get_or (set q y u) z 0) (e ∙ h) ∙ get_or-set_same q y u 0 c.y_lt)
      go (inr h) = omega (arith, climb_y.down y' climb_y.y_lt)

pub climb_end : {p : List ℕ} {a b : ℕ} {q : List ℕ} {x y u v : ℕ} → Climb p a b q x y u v → u ≡ v → Adds p (Only a b) q
climb_end {q = q} {x = x} {y = y} {u = u} c e = record {
  long = c.long;
  down = c.down;
  same = same_trans (settled x y (along {b = u} (record { site = c.x_lt; parent = sym c.x_parent })
      (against (record { site = c.y_lt; parent = sym (e ∙ c.y_parent) }) stay))) c.same;
}
