-- A site's bonds: where they end, and how large their changes are.
use Prim.Native.Nat.{ℕ, ◌+◌, ◌*◌, ◌≤◌, ◌<◌}
use mathlib.Core.Path.{◌≡◌}
use mathlib.Core.Bool.{Bool, true, false, cond}
use mathlib.Core.List.{List}
use native.Mathlib.Omega.{arith}
use lib.Dec.{eqb}
use lib.ListN.{length, get_or}
use lib.IntN.{ℤ, pos, nat_abs, ◌+ℤ◌}
use Rattle.lemmas.specs.Cells.{cell_lt}
use Rattle.lemmas.specs.Ints.{abs_add}
use Rattle.lemmas.specs.Sums.{sum, sum_bound}
use Rattle.totals.specs.Gain.{Change, change_of, ahead, behind, gain_at, still_at, gain, back_gain, site_gain, Ground, Ends, Room}
use Rattle.totals.specs.Listed.{SitesIn}
use Rattle.totals.proofs.Digits.{bond_small}

-- both bonds of one direction
abbrev pub turn_gain : Change → ℕ → ℕ → ℕ → ℤ
turn_gain w i k e = gain w k i e +ℤ back_gain w k i e

-- a number or nothing
either_small : (t : Bool) (z : ℤ) (b : ℕ) → nat_abs z ≤ b → nat_abs (cond t z (pos 0)) ≤ b
either_small true z b h = h
either_small false z b h = omega arith

or_small : (t : Bool) (z : ℤ) (b : ℕ) → nat_abs z ≤ b → nat_abs (cond t (pos 0) z) ≤ b
or_small true z b h = omega arith
or_small false z b h = h

module _ {n d : ℕ} {fwd bwd : List ℕ} {js : List ℤ} {olds news : List ℕ} (g : Ground n d fwd bwd js olds news) where
  abbrev w : Change
  w = change_of d fwd bwd js olds news

  pub at_small : (b i j k : ℕ) → b < length js → nat_abs (gain_at js w.old w.new b i j k) ≤ 2000000
  at_small b i j k l = bond_small (get_or js b (pos 0)) (w.old i) (w.new i) (w.old j) (w.new j) k (g.small b l)

  module _ (i e : ℕ) (li : i < n) (le : e < d) where
    pub cell : i * d + e < n * d
    cell = cell_lt n d i e li le

    pub behind_below : behind w i e < n
    behind_below = (g.inverse.here i e li le).inside

    pub to_ends : {m to : ℕ} {xs : List ℤ} → to ≡ ahead w i e → Room 90000000000 m xs → Ends n m js olds news (i * d + e) i to xs
    to_ends q r = record {
      bond = omega (arith, cell, g.js_long);
      start = li;
      end = omega (arith, q, (g.inverse.there i e li le).inside);
      olds_long = g.olds_long;
      news_long = g.news_long;
      small = g.small;
      room = r;
    }

    pub far_cell : {from : ℕ} → from ≡ behind w i e → from * d + e < n * d
    far_cell {from} q = cell_lt n d from e (omega (arith, q, behind_below)) le

    pub from_ends : {m from : ℕ} {xs : List ℤ} → from ≡ behind w i e → Room 90000000000 m xs → Ends n m js olds news (from * d + e) from i xs
    from_ends q r = record {
      bond = omega (arith, far_cell q, g.js_long);
      start = omega (arith, q, behind_below);
      end = li;
      olds_long = g.olds_long;
      news_long = g.news_long;
      small = g.small;
      room = r;
    }

    pub turn_by :
        (k : ℕ) {to from : ℕ} → to ≡ ahead w i e → from ≡ behind w i e
        → gain_at js w.old w.new (i * d + e) i to k +ℤ still_at js w.old w.new (from * d + e) from i k ≡ turn_gain w i k e
    turn_by k p q = λ x. gain_at js w.old w.new (i * d + e) i (p x) k +ℤ still_at js w.old w.new (q x * d + e) (q x) i k

    gain_small : (k : ℕ) → nat_abs (gain w k i e) ≤ 2000000
    gain_small k = at_small (i * d + e) i (ahead w i e) k (omega (arith, cell, g.js_long))

    back_small : (k : ℕ) → nat_abs (back_gain w k i e) ≤ 2000000
    back_small k =
        let b = cell_lt n d (behind w i e) e behind_below le in
        either_small (eqb (w.old (behind w i e)) (w.new (behind w i e))) (gain_at js w.old w.new (behind w i e * d + e) (behind w i e) i k) 2000000
        (at_small (behind w i e * d + e) (behind w i e) i k (omega (arith, b, g.js_long)))

    pub turn_small : (k : ℕ) → nat_abs (turn_gain w i k e) ≤ 4000000
    turn_small k = omega (arith, abs_add (gain w k i e) (back_gain w k i e), gain_small k, back_small k)

  module _ (i : ℕ) (li : i < n) where
    -- after e directions
    pub turns_small : (e k : ℕ) → e ≤ d → nat_abs (sum e (turn_gain w i k)) ≤ 16000000
    turns_small e k h =
        omega (arith, sum_bound (turn_gain w i k) 4000000 e (λ f l. turn_small i f li (omega arith) k), g.d_high)

    pub site_small : (k : ℕ) → nat_abs (site_gain w k i) ≤ 16000000
    site_small k = or_small (eqb (w.old i) (w.new i)) (sum d (turn_gain w i k)) 16000000 (turns_small d k (omega arith))

  -- after i sites
  pub sites_small : (i k : ℕ) → i ≤ n → nat_abs (sum i (site_gain w k)) ≤ 65536000000
  sites_small i k h = omega (arith, g.n_high, sum_bound (site_gain w k) 16000000 i (λ j l. site_small j (omega arith) k))

  -- after a sites of a list
  pub listed_small : {list : List ℕ} {m : ℕ} → SitesIn n list m → (a k : ℕ) → a ≤ m → nat_abs (sum a (λ b. site_gain w k (get_or list b 0))) ≤ 65536000000
  listed_small {list} t a k h =
      omega (arith, t.few, sum_bound (λ b. site_gain w k (get_or list b 0)) 16000000 a (λ b l. site_small (get_or list b 0) (t.below b (omega arith)) k))
