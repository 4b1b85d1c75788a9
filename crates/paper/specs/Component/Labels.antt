-- Components and their labels, which are numbers: 0, 1, 2 and so on, in the order of the components' smallest sites.
use Rattle.std.specs.Prelude.{ℕ, ◌<◌, ◌≡◌, Bool, true, List, length, get_or}
use Rattle.lemmas.specs.Places.{Placed}
use Rattle.paper.specs.Component.Links.{Linked}
use Rattle.paper.specs.Component.Sizes.{label_of, is_first}
use Rattle.paper.specs.Panel.Input.{Graph, leads_to}

-- a bond that holds leads from the site x to y
pub record Bond (t : Graph) (holding : ℕ → ℕ → Bool) (x y : ℕ) : Type 0 where
  pub site : x < t.n
  pub dir : ℕ
  pub dir_lt : dir < t.d
  pub on : holding x dir ≡ true
  pub leads : leads_to t x dir ≡ y

-- a chain of bonds that hold, each taken in either sense
abbrev pub Joined : Graph → (ℕ → ℕ → Bool) → ℕ → ℕ → Type 0
Joined t holding = Linked (Bond t holding)

-- each site's label is its component's number, and `found` is how many there are. Of this the moves know `long`, `joined`, `same` and that a label is
-- below n: a key per site, equal exactly on one component
pub record Labels (t : Graph) (holding : ℕ → ℕ → Bool) (labels : List ℕ) (found : ℕ) : Type 0 where
  pub long : length labels ≡ t.n
  pub joined : (i j : ℕ) → i < t.n → j < t.n → label_of labels i ≡ label_of labels j → Joined t holding i j
  pub same : (i j : ℕ) → i < t.n → j < t.n → Joined t holding i j → label_of labels i ≡ label_of labels j
  pub below : (i : ℕ) → i < t.n → label_of labels i < found
  pub used : (r : ℕ) → r < found → Placed t.n (label_of labels) r
  pub rising : (i j : ℕ) → i < j → j < t.n → is_first labels i ≡ true → is_first labels j ≡ true → label_of labels i < label_of labels j

-- and how many there are as a list of that one number
pub record Numbered (t : Graph) (holding : ℕ → ℕ → Bool) (l found : List ℕ) : Type 0 where
  pub labels : Labels t holding l (get_or found 0 0)
  pub one : length found ≡ 1
