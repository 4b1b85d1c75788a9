-- From the table's rule alone: row r has the rank r, so each permutation of five stands there exactly once.
use Rattle.std.specs.Prelude.{ℕ, zero, suc, ◌+◌, ◌-◌, ◌/◌, ◌%◌, ◌≤◌, ◌<◌, ◌≡◌, List, get_or}
use Rattle.std.proofs.Common.{sym, ◌∙◌, add-suc, add-zero, zero-add, div-add-mod', arith, ext_get_or}
use Rattle.paper.specs.Refusal.Rules.{Permutes}
use Rattle.orders.specs.Table.{row_in, Ruled}
use Rattle.orders.specs.Words.{Agree}
use Rattle.orders.specs.Rank.{rank, rank_most, rank_same, rank_rises, rank_tells}

-- one number, and no other, whose row is p
pub record Once (t : List ℕ) (p : ℕ → ℕ) : Type 0 where
  pub number : ℕ
  pub below : number < 120
  pub is : Agree 5 (row_in t number) p
  pub only : (r : ℕ) → r < 120 → Agree 5 (row_in t r) p → r ≡ number

module _ (t : List ℕ) (h : Ruled t) where
  climbs : (r k : ℕ) → r + k < 120 → rank (row_in t r) + k ≤ rank (row_in t (r + k))
  climbs r zero l = rw (add-zero r) (omega arith)
  climbs r (suc k) l = rw (add-suc r k) (omega (arith, climbs r k (omega arith), step))
    where
      step : rank (row_in t (r + k)) < rank (row_in t (suc (r + k)))
      step = rank_rises _ _ (h.permutes (r + k) (omega arith)) (h.permutes (suc (r + k)) (omega arith)) (h.rises (r + k) (omega arith))

  pub rank_of_row : (r : ℕ) → r < 120 → rank (row_in t r) ≡ r
  rank_of_row r l =
      let top : r + (119 - r) ≡ 119 = omega arith in
      omega (arith, rw zero-add at (climbs 0 r (omega arith)), rw top at (climbs r (119 - r) (omega arith)), rank_most (row_in t 119))

  pub each_once : (p : ℕ → ℕ) → Permutes 5 p → Once t p
  each_once p hp = record {
    number = rank p;
    below = omega (arith, rank_most p);
    is = rank_tells _ _ (h.permutes (rank p) (omega (arith, rank_most p))) hp (rank_of_row (rank p) (omega (arith, rank_most p)));
    only = λ r l a. sym (rank_of_row r l) ∙ rank_same _ _ (h.permutes r l) hp a;
  }

-- so the rule allows one table
pub one_table : (t u : List ℕ) → Ruled t → Ruled u → t ≡ u
one_table t u h g = ext_get_or 0 t u (h.long ∙ sym g.long) (λ m l. at m (omega (arith, h.long)))
  where
    at : (m : ℕ) → m < 600 → get_or t m 0 ≡ get_or u m 0
    at m l =
        let r : m / 5 < 120 = omega arith in
        rw (div-add-mod' m 5) at
        (rank_tells _ _ (h.permutes (m / 5) r) (g.permutes (m / 5) r) (rank_of_row t h (m / 5) r ∙ sym (rank_of_row u g (m / 5) r)) (m % 5) (omega arith))
