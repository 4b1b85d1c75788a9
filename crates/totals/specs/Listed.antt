-- What is asked and promised of the sites in a list, and of the columns of their neighbours.
use Rattle.std.specs.Prelude.{ℕ, ◌+◌, ◌*◌, ◌≤◌, ◌<◌, ◌≡◌, ◌≢◌, List, length, get_or, ℤ}
use Rattle.paper.specs.declared.Group.{Group}
use Rattle.lemmas.specs.Places.{Placed, Unplaced}
use Rattle.paper.specs.Panel.Input.{Lattice, member, spin, pattern_of}
use Rattle.paper.specs.Refusal.Rules.{Inverse, Distinct}
use Rattle.columns.specs.Column.{column_of, shown, Inside}
use Rattle.paper.specs.Answer.Totals.{Brought}

-- the first m entries of a list are sites
pub record SitesIn (n : ℕ) (list : List ℕ) (m : ℕ) : Type 0 where
  pub few : m ≤ 4096
  pub long : m ≤ length list
  pub below : (a : ℕ) → a < m → get_or list a 0 < n

-- the tables at a site, and the rows of the group
pub record NearIn (n d : ℕ) (g : Group) (xs : List ℤ) (fwd bwd : List ℕ) (i : ℕ) : Type 0 where
  pub few : g.len ≤ 8
  pub inside : Inside n g xs
  pub below : i < n
  pub fwd_long : length fwd ≡ n * d
  pub bwd_long : length bwd ≡ n * d
  pub inverse : Inverse n d fwd bwd

-- x is next to the site i, in one of the first m directions
pub data Near (d : ℕ) (fwd bwd : List ℕ) (i m x : ℕ) : Type 0 where
  to : (e : ℕ) → e < m → x ≡ get_or fwd (i * d + e) 0 → Near d fwd bwd i m x
  from : (e : ℕ) → e < m → x ≡ get_or bwd (i * d + e) 0 → Near d fwd bwd i m x

-- or to one of the first m of a list
abbrev pub NearSome : ℕ → List ℕ → List ℕ → List ℕ → ℕ → ℕ → Type 0
NearSome d fwd bwd list m x = (a : ℕ) × (a < m) × Near d fwd bwd (get_or list a 0) d x

pub record GatherIn (n d : ℕ) (g : Group) (xs : List ℤ) (fwd bwd list : List ℕ) (m : ℕ) : Type 0 where
  pub few : g.len ≤ 8
  pub inside : Inside n g xs
  pub fwd_long : length fwd ≡ n * d
  pub bwd_long : length bwd ≡ n * d
  pub inverse : Inverse n d fwd bwd
  pub sites : SitesIn n list m

-- areas for the columns of n sites
pub record Areas (n members olds news : ℕ) : Type 0 where
  pub members_long : n ≤ members
  pub olds_long : n ≤ olds
  pub news_long : n ≤ news

-- the column that the rows have at a site
abbrev pub columns_by : ℕ → Group → List ℤ → ℕ → ℕ
columns_by n g xs i = column_of g.len (pattern_of n g xs i)

-- the areas have the columns of the site x
pub record Right (old new : ℕ → ℕ) (olds news : List ℕ) (x : ℕ) : Type 0 where
  pub before : get_or olds x 0 ≡ old x
  pub after : get_or news x 0 ≡ new x

-- the columns before and after, where the rows have those of a site that is no member, and the areas those of the members
pub record Source (n : ℕ) (members : List ℕ) (rows : ℕ → ℕ) (old new : ℕ → ℕ) (olds news : List ℕ) : Type 0 where
  pub outside : (x : ℕ) → x < n → get_or members x 0 ≢ 1 → (rows x ≡ old x) × (rows x ≡ new x)
  pub within : (x : ℕ) → x < n → get_or members x 0 ≡ 1 → Right old new olds news x

-- what was right is so still, and the sites that are done are right
pub record Gathered (n : ℕ) (members : List ℕ) (rows : ℕ → ℕ) (Done : ℕ → Type 0) (olds news olds' news' : List ℕ) : Type 0 where
  pub olds_long : length olds' ≡ length olds
  pub news_long : length news' ≡ length news
  pub kept : (old new : ℕ → ℕ) → Source n members rows old new olds news → (x : ℕ) → Right old new olds news x → Right old new olds' news' x
  pub done : (old new : ℕ → ℕ) → Source n members rows old new olds news → (x : ℕ) → Done x → Right old new olds' news' x

-- the first m of the list are the members, each once; the areas have their columns, those after the move as the rows have them
pub record Listing (n : ℕ) (g : Group) (ys : List ℤ) (members list : List ℕ) (m : ℕ) (olds news : List ℕ) : Type 0 where
  pub sites : SitesIn n list m
  pub areas : Areas n (length members) (length olds) (length news)
  pub distinct : Distinct m (λ a. get_or list a 0)
  pub marked : (a : ℕ) → a < m → get_or members (get_or list a 0) 0 ≡ 1
  pub listed : (i : ℕ) → i < n → get_or members i 0 ≡ 1 → Placed m (λ a. get_or list a 0) i
  pub after : (i k : ℕ) → i < n → get_or members i 0 ≡ 1 → k < g.len → pattern_of n g ys i k ≡ shown (get_or news i 0) k

-- xs are the spins before: at the members the group has the old columns, and all else is as in ys
pub record Unturned (n : ℕ) (g : Group) (members olds : List ℕ) (xs ys : List ℤ) : Type 0 where
  pub before : (i k : ℕ) → i < n → get_or members i 0 ≡ 1 → k < g.len → pattern_of n g xs i k ≡ shown (get_or olds i 0) k
  pub sites : (i t : ℕ) → i < n → get_or members i 0 ≢ 1 → spin n ys t i ≡ spin n xs t i
  pub systems : (i t : ℕ) → i < n → Unplaced g.len (member g) t → spin n ys t i ≡ spin n xs t i

-- from any such spins
pub record BringsListed (g : Lattice) (group : Group) (ys : List ℤ) (members olds : List ℕ) (totals totals' : List ℤ) : Type 0 where
  pub long : length totals' ≡ length totals
  pub each : (xs : List ℤ) → Unturned g.n group members olds xs ys → Brought g xs totals ys totals'
