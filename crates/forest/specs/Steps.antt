-- What the steps of `label` ask and promise.
use Rattle.std.specs.Prelude.{ℕ, ◌+◌, ◌*◌, ◌≤◌, ◌<◌, ◌≡◌, Bool, true, List, length, get_or}
use Rattle.lemmas.specs.Counts.{count_where}
use Rattle.paper.specs.Component.Sizes.{Sized}
use Rattle.laws.specs.Numbering.{own}
use Rattle.forest.specs.Forest.{Edge, Down, Keeps, Flat}

-- each site is its own parent
pub record Own (n : ℕ) (p : List ℕ) : Type 0 where
  pub long : length p ≡ n
  pub own : (x : ℕ) → x < n → get_or p x 0 ≡ x

pub record Climbing (p : List ℕ) (a b : ℕ) : Type 0 where
  pub a_lt : a < length p
  pub b_lt : b < length p
  pub down : Down p

-- the sites from lo below hi have bonds, and a list of them has room
pub record Gathering (d k lo hi : ℕ) (holds : List ℕ) (room : ℕ) : Type 0 where
  pub d_high : d ≤ 4
  pub way : k < d
  pub ordered : lo ≤ hi
  pub n_high : hi ≤ 4096
  pub within : hi * d ≤ length holds
  pub fits : hi ≤ lo + room

-- x is a site from lo below hi that passes
pub record Passes (f : ℕ → Bool) (lo hi x : ℕ) : Type 0 where
  pub from : lo ≤ x
  pub below : x < hi
  pub on : f x ≡ true

-- x is among the first m of a list
pub record Among (xs : List ℕ) (m x : ℕ) : Type 0 where
  pub place : ℕ
  pub within : place < m
  pub is : get_or xs place 0 ≡ x

-- the first m of the list are the sites from lo below hi that pass
pub record Gathered (f : ℕ → Bool) (lo hi : ℕ) (list : List ℕ) (m : ℕ) : Type 0 where
  pub short : lo + m ≤ hi
  pub each : (t : ℕ) → t < m → Passes f lo hi (get_or list t 0)
  pub all : (x : ℕ) → Passes f lo hi x → Among list m x

-- the forward neighbours of n sites
pub record Ahead (n d : ℕ) (fwd : List ℕ) : Type 0 where
  pub n_high : n ≤ 4096
  pub d_high : d ≤ 4
  pub fwd_long : length fwd ≡ n * d
  pub ahead_lt : (i e : ℕ) → i < n → e < d → get_or fwd (i * d + e) 0 < n

pub record Listing (d k m : ℕ) (fwd list p : List ℕ) : Type 0 where
  pub ahead : Ahead (length p) d fwd
  pub way : k < d
  pub short : m ≤ length list
  pub sites : (t : ℕ) → t < m → get_or list t 0 < length p
  pub down : Down p

-- the step along the bond k of one of the first m sites of the list
pub record Listed (d k : ℕ) (fwd list : List ℕ) (m x y : ℕ) : Type 0 where
  pub among : Among list m x
  pub leads : get_or fwd (x * d + k) 0 ≡ y

-- the step along a bond that holds, of a site from lo below hi, in a direction below k
pub record Part (d : ℕ) (fwd : List ℕ) (holding : ℕ → ℕ → Bool) (lo hi k x y : ℕ) : Type 0 where
  pub from : lo ≤ x
  pub below : x < hi
  pub dir : ℕ
  pub dir_lt : dir < k
  pub on : holding x dir ≡ true
  pub leads : get_or fwd (x * d + dir) 0 ≡ y

-- both tables, a forest, and a list with room for all sites
pub record Bonding (d : ℕ) (fwd holds p : List ℕ) (room : ℕ) : Type 0 where
  pub ahead : Ahead (length p) d fwd
  pub holds_long : length holds ≡ length p * d
  pub list_long : room ≡ length p
  pub down : Down p

pub record Block (d lo hi : ℕ) (fwd holds p : List ℕ) (room : ℕ) : Type 0 where
  pub bonding : Bonding d fwd holds p room
  pub ordered : lo ≤ hi
  pub inside : hi ≤ length p

-- a block goes from lo to r, which is at most n
pub record Ends (lo n r : ℕ) : Type 0 where
  pub some : lo < r
  pub inside : r ≤ n

pub record Flattening (p : List ℕ) (room : ℕ) : Type 0 where
  pub n_high : length p ≤ 4096
  pub tally_long : room ≡ length p
  pub down : Down p

-- a site's number is how many roots stand before its own, in a flat forest q that links what p does; all roots are counted
pub record Flattened (p l tally : List ℕ) (found : ℕ) : Type 0 where
  pub q : List ℕ
  pub kept : Keeps p (Edge p) q
  pub flat : Flat q (length q)
  pub long : length l ≡ length q
  pub number : (x : ℕ) → x < length q → get_or l x 0 ≡ count_where (own q) (get_or q x 0)
  pub all : found ≡ count_where (own q) (length q)
  pub sized : Sized l tally
