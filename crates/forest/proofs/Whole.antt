-- What the steps of `label` come to.
use Prim.Native.Nat.{ℕ, zero-le}
use mathlib.Core.Path.{◌≡◌, refl, sym, ap, ◌∙◌}
use mathlib.Core.Logic.{inr, ⊎_elim}
use mathlib.Core.Bool.{Bool}
use mathlib.Core.List.{List}
use native.Mathlib.Nat.{le_trans, le_of_eq}
use lib.ListN.{length, get_or}
use Rattle.lemmas.specs.Counts.{count_where}
use Rattle.paper.specs.Component.Links.{Linked, Linked.stay, bind}
use Rattle.paper.specs.Component.Labels.{Bond, Joined, Labels}
use Rattle.laws.specs.Numbering.{Smallest, own, carried}
use Rattle.forest.specs.Closure.{one, alike}
use Rattle.forest.specs.Contract.{graph_of, Given}
use Rattle.forest.specs.Forest.{Adds, Edge, Keeps}
use Rattle.forest.specs.Steps.{Own, Part, Bonding, Flattened}

-- the first forest
pub bonding_start : {n d m room : ℕ} {fwd holds p : List ℕ} → Given n d fwd holds m room → Own m p → Bonding d fwd holds p room
bonding_start {n} {d} {m} {room} {fwd} {holds} {p} g o = record {
  ahead = rw same (record { n_high = g.n_high; d_high = g.d_high; fwd_long = g.fwd_long; ahead_lt = g.ahead_lt });
  holds_long = rw same g.holds_long;
  list_long = g.tally_long ∙ sym same;
  down = λ x h. le_of_eq (o.own x (rw o.long at h));
}
  where
    same : length p ≡ n
    same = o.long ∙ g.labels_long

module _ {n d : ℕ} {fwd : List ℕ} {f : ℕ → ℕ → Bool} where
  to_bond : {x y : ℕ} → Part d fwd f 0 n d x y → Bond (graph_of n d fwd) f x y
  to_bond b = record { site = b.below; dir = b.dir; dir_lt = b.dir_lt; on = b.on; leads = b.leads }

  of_bond : {x y : ℕ} → Bond (graph_of n d fwd) f x y → Part d fwd f 0 n d x y
  of_bond b = record { from = zero-le; below = b.site; dir = b.dir; dir_lt = b.dir_lt; on = b.on; leads = b.leads }

  -- p is the first forest, q has every bond, and l has the numbers of the roots of q made flat
  pub labelled : {p q l tally : List ℕ} {found : ℕ} → Own n p → Adds p (Part d fwd f 0 (length p) d) q → Flattened q l tally found
      → Labels (graph_of n d fwd) f l found
  labelled {p} {q} {l} {tally} {found} o kq h = rw all (carried smallest l (h.long ∙ long) (λ i il. h.number i (rw long il)))
    where
      s : List ℕ
      s = h.q

      kl : Keeps q (Edge q) s
      kl = h.kept

      long : length s ≡ n
      long = kl.long ∙ (kq.long ∙ o.long)

      all : found ≡ count_where (own s) n
      all = rw (← long) h.all

      self : (a b : ℕ) → Edge p a b → Joined (graph_of n d fwd) f a b
      self a b e = rw (sym (o.own a (rw o.long at e.site)) ∙ e.parent) stay

      up : (a b : ℕ) → Bond (graph_of n d fwd) f a b → Linked (Edge s) a b
      up a b e = bind kl.same.from (kq.same.from a b (inr (rw o.long (of_bond e))))

      root : (a b : ℕ) → Edge s a b → get_or s a 0 ≡ get_or s b 0
      root a b e = sym (h.flat a e.site) ∙ ap (λ (x : ℕ). get_or s x 0) e.parent

      smallest : Smallest (graph_of n d fwd) f s
      smallest = record {
        long = long;
        joined = λ i il. bind (λ a b. ⊎_elim (self a b) (λ e. one (to_bond (rw o.long at e))))
            (bind kq.same.to (kl.same.to i (get_or s i 0) (record { site = rw long il; parent = refl })));
        least = λ i j il jl w. le_trans (le_of_eq (alike (λ (x : ℕ). get_or s x 0) root (bind up w))) (kl.down j (rw long jl));
      }
