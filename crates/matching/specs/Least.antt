-- Sets of the places that each place may have come from, and the least permutation that each allows.
use Rattle.std.specs.Prelude.{ℕ, ◌+◌, ◌*◌, ◌≤◌, ◌<◌, ◌≡◌, ◌⊎◌, Bool, true, ◌&&◌, List, eqb, ltb, length, get_or}
use Rattle.lemmas.specs.Tells.{Tells}
use Rattle.columns.specs.Column.{bit_of}
use Rattle.orders.specs.Words.{word_at}
use Rattle.packing.specs.Answer.{Members}
use Rattle.matching.specs.Bits.{bit_in}
use Rattle.matching.specs.Fitting.{Test, Fitted, Square, Least}

-- of m places it tells of these alone, and which may have come from one it tells alike
pub record Sound (m : ℕ) (may : Test) : Type 0 where
  pub within : (k j : ℕ) → k < m → j < 8 → may k j ≡ true → j < m
  pub square : Square m may

-- ---- as a byte for each place
abbrev pub bits_of : List ℕ → Test
bits_of xs k j = bit_of (get_or xs k 0) j

pub record Row (xs : List ℕ) : Type 0 where
  pub few : length xs ≤ 8
  pub sound : Sound (length xs) (bits_of xs)

-- the test tells whether a permutation fits, and if so ys is the least
pub record LeastBy (m : ℕ) (may : Test) (r : Bool) (ys : List ℕ) : Type 0 where
  pub long : length ys ≡ m
  pub told : Tells r (Fitted m may)
  pub least : r ≡ true → Least m may (λ k. get_or ys k 0)

abbrev pub LeastRow : List ℕ → Bool → List ℕ → Type 0
LeastRow xs r ys = LeastBy (length xs) (bits_of xs) r ys

-- ---- as one number
abbrev pub LeastWord : ℕ → List ℕ → Bool → List ℕ → Type 0
LeastWord set xs r ys = LeastBy (length xs) (bit_in set) r ys

-- each of m places may have come from itself
pub record Own (m r : ℕ) : Type 0 where
  pub at : (k j : ℕ) → k < 8 → j < 8 → bit_in r k j ≡ (eqb j k && ltb k m)

-- a set, and a row that has the identity
pub record Word (own set : ℕ) (xs : List ℕ) : Type 0 where
  pub few : length xs ≤ 8
  pub own_is : Own (length xs) own
  pub sound : Sound (length xs) (bit_in set)
  pub identity : (k : ℕ) → k < length xs → get_or xs k 0 ≡ k

-- ---- a set and a row for each component
pub record Words (m : ℕ) (sets xs : List ℕ) : Type 0 where
  pub members : Members m
  pub long : length xs ≡ length sets * m
  pub sound : (r : ℕ) → r < length sets → Sound m (bit_in (get_or sets r 0))
  pub identity : (r k : ℕ) → r < length sets → k < m → word_at m xs r k ≡ k

-- the first r of them have their least, and the next has none
pub record Settled (m : ℕ) (sets xs : List ℕ) (r : ℕ) (ys : List ℕ) : Type 0 where
  pub long : length ys ≡ length xs
  pub most : r ≤ length sets
  pub least : (s : ℕ) → s < r → Least m (bit_in (get_or sets s 0)) (word_at m ys s)
  pub none : r < length sets → Fitted m (bit_in (get_or sets r 0)) → ⊥

-- the number behind k of m, or 0 behind the last
abbrev pub Follows : ℕ → ℕ → ℕ → Type 0
Follows m k r = ((r ≡ k + 1) × (r < m)) ⊎ ((r ≡ 0) × (k + 1 ≡ m))
