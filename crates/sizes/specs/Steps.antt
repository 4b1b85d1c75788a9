-- What the steps of `count` ask and promise.
use Rattle.std.specs.Prelude.{ℕ, ◌+◌, ◌≤◌, ◌<◌, ◌≡◌, ◌⊎◌, Bool, true, not, cond, ◌&&◌, List, eqb, leb, length, get_or}
use Rattle.lemmas.specs.Counts.{bit, count_where}
use Rattle.paper.specs.Component.Sizes.{label_of, is_first}
use Rattle.sizes.specs.Contract.{is_one}

-- a byte for each site, and a place for each number; there are not more numbers than sites
pub record Marking (l marks : List ℕ) (room : ℕ) : Type 0 where
  pub marked : length marks ≡ length l
  pub low : (i : ℕ) → i < length l → label_of l i < length l
  pub fits : length l ≤ room

-- at each number stands the byte of its first site
abbrev pub Marked : List ℕ → List ℕ → List ℕ → Type 0
Marked l marks bytes = (i : ℕ) → i < length l → is_first l i ≡ true → get_or bytes (label_of l i) 0 ≡ get_or marks i 0

pub record Picking (found : ℕ) (tally bytes : List ℕ) (room : ℕ) : Type 0 where
  pub high : found ≤ 4096
  pub tallied : found ≤ length tally
  pub decided : found ≤ length bytes
  pub fits : found ≤ room

-- the component k is counted and has one site; and has another size
abbrev pub single : List ℕ → List ℕ → ℕ → Bool
single tally bytes k = is_one bytes k && eqb (get_or tally k 0) 1

abbrev pub several : List ℕ → List ℕ → ℕ → Bool
several tally bytes k = is_one bytes k && not (eqb (get_or tally k 0) 1)

-- so many counted components have one site, and the first m of the list are the tallies of the others: as many pass each test
pub record Picked (found : ℕ) (tally bytes list : List ℕ) (ones m : ℕ) : Type 0 where
  pub singles : ones ≡ count_where (single tally bytes) found
  pub short : m ≤ found
  pub same : (f : ℕ → Bool) → count_where (λ t. f (get_or list t 0)) m ≡ count_where (λ k. several tally bytes k && f (get_or tally k 0)) found

-- how many of so many sizes 1 pass a test
abbrev pub ones_pass : ℕ → (ℕ → Bool) → ℕ
ones_pass ones f = cond (f 1) ones 0

-- entry s is the number of sizes s, of so many sizes 1; n entries
pub record Started (ones n : ℕ) (counts : List ℕ) : Type 0 where
  pub long : length counts ≡ n
  pub each : (s : ℕ) → s < n → get_or counts s 0 ≡ ones_pass ones (λ x. eqb x s)

pub record Histogramming (sizes : List ℕ) (ones n : ℕ) : Type 0 where
  pub few : length sizes ≤ 4096
  pub low : (t : ℕ) → t < length sizes → get_or sizes t 0 < n
  pub few_ones : ones ≤ 4096
  pub ones_low : ones < n

-- entry s is the number of sizes s, of those in the list and of so many sizes 1
pub record Histogram (sizes : List ℕ) (ones : ℕ) (counts : List ℕ) (n : ℕ) : Type 0 where
  pub long : length counts ≡ n
  pub each : (s : ℕ) → s < n → get_or counts s 0 ≡ ones_pass ones (λ x. eqb x s) + count_where (λ t. eqb (get_or sizes t 0) s) (length sizes)

-- how many of the first m sizes are v or more
abbrev pub or_more : List ℕ → ℕ → ℕ → ℕ
or_more sizes m v = count_where (λ t. leb v (get_or sizes t 0)) m

-- how many of so many sizes 1; of both
abbrev pub ones_or_more : ℕ → ℕ → ℕ
ones_or_more ones v = ones_pass ones (leb v)

abbrev pub all_or_more : ℕ → List ℕ → ℕ → ℕ → ℕ
all_or_more ones sizes m v = ones_or_more ones v + or_more sizes m v

-- G v counts the sizes of v or more. a is the size at place t, from 0, of all in falling order, or 0 where there are not so many
pub record Place (G : ℕ → ℕ) (t a : ℕ) : Type 0 where
  pub larger : G (a + 1) ≤ t
  pub reached : (a ≡ 0) ⊎ (t < G a)

-- the four largest, falling
pub record Top4 (G : ℕ → ℕ) (a b c d : ℕ) : Type 0 where
  pub first : Place G 0 a
  pub second : Place G 1 b
  pub third : Place G 2 c
  pub fourth : Place G 3 d
  pub ba : b ≤ a
  pub cb : c ≤ b
  pub dc : d ≤ c

-- x joins the sizes that G counts
abbrev pub with : (ℕ → ℕ) → ℕ → ℕ → ℕ
with G x v = G v + bit (leb v x)

abbrev pub Falling : (ℕ → ℕ) → Type 0
Falling G = (v w : ℕ) → v ≤ w → G w ≤ G v
