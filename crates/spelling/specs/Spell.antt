-- What the functions that spell rows ask and promise.
use Rattle.std.specs.Prelude.{ℕ, ◌*◌, ◌≤◌, ◌<◌, ◌≡◌, List, ◌++◌, length, drop}
use Rattle.orders.specs.Table.{orders}
use Rattle.spelling.specs.Rows.{rows_of}

-- the table, and a place in its rows
pub record SpellsIn (t : List ℕ) (k : ℕ) : Type 0 where
  pub is : t ≡ orders
  pub inside : k < 5

-- the table, so many numbers, and room for their rows
pub record SpellAsks (t : List ℕ) (count room : ℕ) : Type 0 where
  pub table : t ≡ orders
  pub few : count * 5 ≤ 245760
  pub exact : room ≡ count * 5

-- room for one byte, and no more than a sweep needs
pub record AreaAsks (room : ℕ) : Type 0 where
  pub some : 1 ≤ room
  pub most : room ≤ 245760

-- of an area there are now r bytes to lend: the rows of the numbers, written over its front; where they do not fit in it is as it was, and r is 1
pub record SpeltInto (vs area area' : List ℕ) (r : ℕ) : Type 0 where
  pub long : length area' ≡ length area
  pub inside : r ≤ length area
  pub count : length vs * 5 ≤ length area → r ≡ length vs * 5
  pub written : length vs * 5 ≤ length area → area' ≡ rows_of vs ++ drop (length vs * 5) area
  pub less : length area < length vs * 5 → r ≡ 1
  pub left : length area < length vs * 5 → area' ≡ area
