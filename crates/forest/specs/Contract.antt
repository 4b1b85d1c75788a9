-- What `label` asks and promises.
use Rattle.std.specs.Prelude.{ℕ, ◌+◌, ◌*◌, ◌≤◌, ◌<◌, ◌≡◌, List, length, get_or}
use Rattle.paper.specs.Panel.Input.{Graph}
use Rattle.paper.specs.Component.Labels.{Labels}
use Rattle.paper.specs.Component.Marks.{marked}
use Rattle.paper.specs.Component.Sizes.{Sized}

abbrev pub graph_of : ℕ → ℕ → List ℕ → Graph
graph_of n d fwd = record { n = n; d = d; fwd = fwd }

-- tables of n sites with d bonds each, and as many places for labels and tally as there are sites
pub record Given (n d : ℕ) (fwd holds : List ℕ) (labels tally : ℕ) : Type 0 where
  pub n_high : n ≤ 4096
  pub d_high : d ≤ 4
  pub fwd_long : length fwd ≡ n * d
  pub holds_long : length holds ≡ n * d
  pub ahead_lt : (i e : ℕ) → i < n → e < d → get_or fwd (i * d + e) 0 < n
  pub labels_long : labels ≡ n
  pub tally_long : tally ≡ n

-- the labels of the bonds whose byte is 1, how many there are, and at each label the number of its sites
pub record Labelled (n d : ℕ) (fwd holds l tally : List ℕ) (found : ℕ) : Type 0 where
  pub labels : Labels (graph_of n d fwd) (marked d holds) l found
  pub sized : Sized l tally
