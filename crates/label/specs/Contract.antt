-- What `label` and `count` ask and promise, which is said where each is worked out, and what both do together.
use Rattle.std.specs.Prelude.{ℕ, ◌+◌, ◌≤◌, ◌≡◌, List, length}
use Rattle.paper.specs.Component.Labels.{Labels}
use Rattle.paper.specs.Component.Marks.{marked}
pub use Rattle.forest.specs.Contract.{graph_of, Given, Labelled}
pub use Rattle.sizes.specs.Contract.{is_one, Countable, Reported}

-- both steps: a byte for each site, places for all that is written, and for a tally of all sites
pub record LabelLent (n d : ℕ) (fwd holds marks : List ℕ) (labels counts sizes tally : ℕ) : Type 0 where
  pub given : Given n d fwd holds labels n
  pub marks_long : length marks ≡ n
  pub counts_long : counts ≡ n + 1
  pub sizes_long : sizes ≡ 4
  pub tally_fits : n ≤ tally

-- the labels, how many there are, and of the components whose smallest site has the byte 1 the counts and sizes
pub record Seen (n d : ℕ) (fwd holds marks l counts sizes : List ℕ) (found : ℕ) : Type 0 where
  pub labels : Labels (graph_of n d fwd) (marked d holds) l found
  pub reported : Reported (is_one marks) l counts sizes
