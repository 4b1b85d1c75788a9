-- Which places before a place after may have come from: at one site, and at all sites of a component.
use Rattle.std.specs.Prelude.{ℕ, ◌*◌, ◌≤◌, ◌<◌, ◌≡◌, Bool, not, ◌&&◌, ◌||◌, List, eqb, length, get_or}
use Rattle.std.specs.Int.Bits.{bit_xor}
use Rattle.lemmas.specs.Bools.{every}
use Rattle.paper.specs.Component.Sizes.{label_of}
use Rattle.columns.specs.Column.{bit_of}
use Rattle.packing.specs.Answer.{Members}
use Rattle.matching.specs.Bits.{alike, bit_in}

-- with the bytes old and new at a site: the place j showed before what the place k shows after, and where the site is pinned j is k
abbrev pub may_come : ℕ → ℕ → ℕ → ℕ → ℕ → Bool
may_come old new pin k j = alike (bit_of old j) (bit_of new k) && (not (eqb pin 1) || eqb j k)

-- bit j of byte k of the set r tells it
pub record MayCome (old new pin r : ℕ) : Type 0 where
  pub at : (k j : ℕ) → k < 8 → j < 8 → bit_in r k j ≡ may_come old new pin k j

-- ---- bytes before and after, a label and a pin for each site, and a set for each label
pub record Sites (olds news labels pins sets : List ℕ) : Type 0 where
  pub news_long : length news ≡ length olds
  pub labels_long : length labels ≡ length olds
  pub pins_long : length pins ≡ length olds
  pub sets_long : length sets ≡ length olds
  pub below : (i : ℕ) → i < length olds → get_or labels i 0 < length olds

-- a panel's bytes before and after, as the mode sees them through the gauge, with a label and a pin for each site, and a word for each label
pub record Panel (size : ℕ) (olds news labels pins rows : List ℕ) : Type 0 where
  pub members : Members size
  pub sites : length olds ≤ 4096
  pub news_long : length news ≡ length olds
  pub labels_long : length labels ≡ length olds
  pub pins_long : length pins ≡ length olds
  pub rows_long : length rows ≡ length olds * size
  pub below : (i : ℕ) → i < length olds → get_or labels i 0 < length olds

-- at the site i, if it has the label r
abbrev pub at_site : ℕ → List ℕ → List ℕ → List ℕ → List ℕ → ℕ → ℕ → ℕ → ℕ → Bool
at_site gauge olds news labels pins r k j i =
    not (eqb (label_of labels i) r) || may_come (bit_xor (get_or olds i 0) gauge) (bit_xor (get_or news i 0) gauge) (get_or pins i 0) k j

-- at each of the first n sites that have it
abbrev pub at_each : ℕ → ℕ → List ℕ → List ℕ → List ℕ → List ℕ → ℕ → ℕ → ℕ → Bool
at_each n gauge olds news labels pins r k j = every n (at_site gauge olds news labels pins r k j)

-- the sets after the first n sites
pub record NarrowedBy (n gauge : ℕ) (olds news labels pins xs ys : List ℕ) : Type 0 where
  pub long : length ys ≡ length xs
  pub at : (r k j : ℕ) → r < length olds → k < 8 → j < 8
      → bit_in (get_or ys r 0) k j ≡ (bit_in (get_or xs r 0) k j && at_each n gauge olds news labels pins r k j)

abbrev pub NarrowedAll : ℕ → List ℕ → List ℕ → List ℕ → List ℕ → List ℕ → List ℕ → Type 0
NarrowedAll gauge olds news labels pins xs ys = NarrowedBy (length olds) gauge olds news labels pins xs ys
