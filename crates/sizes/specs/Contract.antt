-- What `count` asks and promises.
use Rattle.std.specs.Prelude.{ℕ, ◌+◌, ◌≤◌, ◌≡◌, Bool, List, eqb, length, get_or}
use Rattle.lemmas.specs.Counts.{count_where}
use Rattle.paper.specs.Component.Sizes.{is_first, Sized, Counted, Largest}
use Rattle.laws.specs.Numbering.{Ranked}

-- the byte at r is 1
abbrev pub is_one : List ℕ → ℕ → Bool
is_one marks r = eqb (get_or marks r 0) 1

-- numbers, how many there are, their tally, a byte for each site, and places for the counts and the four sizes
pub record Countable (labels : List ℕ) (found : ℕ) (tally marks : List ℕ) (counts sizes : ℕ) : Type 0 where
  pub n_high : length labels ≤ 4096
  pub ranked : Ranked labels
  pub firsts : found ≡ count_where (is_first labels) (length labels)
  pub sized : Sized labels tally
  pub marked : length marks ≡ length labels
  pub counts_long : counts ≡ length labels + 1
  pub sizes_long : sizes ≡ 4

-- the number of counted components of each size, and the four largest sizes of these
pub record Reported (mark : ℕ → Bool) (labels counts sizes : List ℕ) : Type 0 where
  pub counted : Counted mark labels counts
  pub largest : Largest mark labels sizes
