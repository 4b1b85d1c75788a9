-- What `explain` tells and writes.
use Rattle.std.specs.Prelude.{ℕ, ◌≤◌, ◌<◌, ◌≡◌, List, length}
use Rattle.orders.specs.Words.{word_at}
use Rattle.matching.specs.Fitting.{Test, Fitted, Least}
use Rattle.matching.specs.Sources.{at_each}

-- which places the component r allows
abbrev pub allowed : ℕ → List ℕ → List ℕ → List ℕ → List ℕ → ℕ → Test
allowed gauge olds news labels pins r k j = at_each (length olds) gauge olds news labels pins r k j

-- each word before r is the least of its component, and r, if there is such a component, has none
pub record Settles (size gauge : ℕ) (olds news labels pins rows : List ℕ) (r : ℕ) (rows' : List ℕ) : Type 0 where
  pub most : r ≤ length olds
  pub long : length rows' ≡ length rows
  pub least : (s : ℕ) → s < r → Least size (allowed gauge olds news labels pins s) (word_at size rows' s)
  pub none : r < length olds → Fitted size (allowed gauge olds news labels pins r) → ⊥

-- r is the first component for which no permutation fits, and nothing is written; or there is none, r is the number of sites, and each word is the least
pub record Explains (size gauge : ℕ) (olds news labels pins rows : List ℕ) (r : ℕ) (rows' : List ℕ) : Type 0 where
  pub most : r ≤ length olds
  pub fitted : (s : ℕ) → s < r → Fitted size (allowed gauge olds news labels pins s)
  pub none : r < length olds → Fitted size (allowed gauge olds news labels pins r) → ⊥
  pub kept : r < length olds → rows' ≡ rows
  pub long : length rows' ≡ length rows
  pub least : r ≡ length olds → (s : ℕ) → s < length olds → Least size (allowed gauge olds news labels pins s) (word_at size rows' s)
