-- The forest that stands in the lent labels: a site's parent is its entry, and is at most the site.
use Rattle.std.specs.Prelude.{ℕ, ◌≤◌, ◌<◌, ◌≡◌, List, length, get_or}
use Rattle.forest.specs.Closure.{SameLinks, Or}

-- the step from a site to its parent
pub record Edge (p : List ℕ) (x y : ℕ) : Type 0 where
  pub site : x < length p
  pub parent : get_or p x 0 ≡ y

-- no parent is above its site
abbrev pub Down : List ℕ → Type 0
Down p = (x : ℕ) → x < length p → get_or p x 0 ≤ x

-- q is a forest as long as p that links what E links
pub record Keeps (p : List ℕ) (E : ℕ → ℕ → Type 0) (q : List ℕ) : Type 0 where
  pub long : length q ≡ length p
  pub down : Down q
  pub same : SameLinks (Edge q) E

-- q links what p does and the steps of B besides
abbrev pub Adds : List ℕ → (ℕ → ℕ → Type 0) → List ℕ → Type 0
Adds p B q = Keeps p (Or (Edge p) B) q

-- the parent of each of the first i sites is a root
abbrev pub Flat : List ℕ → ℕ → Type 0
Flat p i = (x : ℕ) → x < i → get_or p (get_or p x 0) 0 ≡ get_or p x 0
