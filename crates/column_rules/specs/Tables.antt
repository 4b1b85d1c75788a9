-- What the rules are worked out on: tables over all columns, and the bytes that a look-up leaves.
use Rattle.std.specs.Prelude.{ℕ, ◌^◌, ◌≤◌, ◌<◌, ◌≡◌, Bool, List, length, get_or}
use Rattle.std.specs.Int.Bits.{bit_xor}
use Rattle.lemmas.specs.Counts.{bit}
use Rattle.lemmas.specs.Tells.{Tells}
use Rattle.paper.specs.declared.Group.{Group}
use Rattle.paper.specs.declared.Mode.{Mode}
use Rattle.paper.specs.Site.Acting.{test_by}
use Rattle.columns.specs.Column.{shown, column_of, flipped}

-- a group of one to eight systems
pub record Sized (g : Group) : Type 0 where
  pub some : 1 ≤ g.len
  pub few : g.len ≤ 8

-- a byte for each of the 256 columns: f x at a column x of m systems, and else 0
pub record Table (m : ℕ) (f : ℕ → ℕ) (table : List ℕ) : Type 0 where
  pub long : length table ≡ 256
  pub at : (x : ℕ) → x < 2 ^ m → get_or table x 0 ≡ f x
  pub beyond : (x : ℕ) → 2 ^ m ≤ x → x < 256 → get_or table x 0 ≡ 0

-- the same for a relation of a column and its entry
pub record TableBy (m : ℕ) (P : ℕ → ℕ → Type 0) (table : List ℕ) : Type 0 where
  pub long : length table ≡ 256
  pub at : (x : ℕ) → x < 2 ^ m → P x (get_or table x 0)
  pub beyond : (x : ℕ) → 2 ^ m ≤ x → x < 256 → get_or table x 0 ≡ 0

-- the entry of a column x of m systems: 1 where it acts; and the column that a flip makes of it
abbrev pub acts_entry : Mode → ℕ → ℕ → ℕ
acts_entry mode m x = bit (test_by mode m (shown x))

abbrev pub flip_entry : Mode → ℕ → ℕ → ℕ
flip_entry mode m x = column_of m (flipped mode m (shown x))

-- some of the first n bytes is 1
pub record SomeMarked (n : ℕ) (xs : List ℕ) : Type 0 where
  pub site : ℕ
  pub below : site < n
  pub is : get_or xs site 0 ≡ 1

-- acts has at each site the table's entry for the site's column as the gauge shows it, and r tells whether one of them is 1
pub record Looked (table : List ℕ) (gauge : ℕ) (cols acts : List ℕ) (r : Bool) : Type 0 where
  pub long : length acts ≡ length cols
  pub at : (i : ℕ) → i < length cols → get_or acts i 0 ≡ get_or table (bit_xor (get_or cols i 0) gauge) 0
  pub tells : Tells r (SomeMarked (length cols) acts)
