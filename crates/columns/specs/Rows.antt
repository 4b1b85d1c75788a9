-- What the functions on columns ask and promise.
use Rattle.std.specs.Prelude.{ℕ, ◌+◌, ◌*◌, ◌^◌, ◌≤◌, ◌<◌, ◌≡◌, ◌≢◌, Bool, true, cond, List, ltb, length, get_or, ℤ, pos}
use Rattle.lemmas.specs.Counts.{bit}
use Rattle.paper.specs.declared.Group.{Group}
use Rattle.paper.specs.declared.Mode.{Mode}
use Rattle.paper.specs.Panel.Input.{member, spin, pattern_of}
use Rattle.paper.specs.Panel.Takes.{is_gperm}
use Rattle.paper.specs.Refusal.Rules.{Distinct}
use Rattle.columns.specs.Column.{shown, is_up, Inside}

-- what permute_group_site asks: perm has a byte for each of the m places of a group, and each names a place
pub record Places (m : ℕ) (perm : List ℕ) : Type 0 where
  pub few : m ≤ 8
  pub long : length perm ≡ m
  pub below : (k : ℕ) → k < m → get_or perm k 0 < m

-- what gauge_at asks
pub record Signable (mode : Mode) (n : ℕ) (g : Group) (xs : List ℤ) (reference : ℕ) : Type 0 where
  pub few : g.len ≤ 8
  pub inside : Inside n g xs
  pub site : is_gperm mode ≡ true → reference < n

-- what pack asks
pub record Packable (n : ℕ) (g : Group) (xs : List ℤ) (cols : List ℕ) : Type 0 where
  pub sites : n ≤ 4096
  pub few : g.len ≤ 8
  pub inside : Inside n g xs
  pub long : length cols ≡ n

-- what write_rows asks
pub record Writable (n : ℕ) (g : Group) (xs : List ℤ) (cols : List ℕ) : Type 0 where
  pub sites : n ≤ 4096
  pub few : g.len ≤ 8
  pub inside : Inside n g xs
  pub distinct : Distinct g.len (member g)
  pub long : length cols ≡ n

-- ys is xs with the rows of the first m members written from the columns
pub record Written (n m : ℕ) (g : Group) (cols : List ℕ) (xs ys : List ℤ) : Type 0 where
  pub long : length ys ≡ length xs
  pub group : (i k : ℕ) → i < n → k < m → pattern_of n g ys i k ≡ shown (get_or cols i 0) k
  pub others : (i t : ℕ) → i < n → ((k : ℕ) → k < m → t ≢ member g k) → spin n ys t i ≡ spin n xs t i
  -- with no sites there are no rows
  pub empty : n ≡ 0 → ys ≡ xs

-- ---- one site

-- what column_at asks: the group's rows, and a site
pub record SiteIn (n : ℕ) (g : Group) (xs : List ℤ) (i : ℕ) : Type 0 where
  pub few : g.len ≤ 8
  pub inside : Inside n g xs
  pub below : i < n

-- what the bit of one member asks: of the group's, the spin is there
pub record MemberIn (n m k s : ℕ) (xs : List ℤ) (i : ℕ) : Type 0 where
  pub place : k < 8
  pub inside : k < m → s * n + i < length xs

-- the bit k of a column of m members, where b tells whether it is set
abbrev pub bit_in : ℕ → ℕ → Bool → ℕ
bit_in m k b = cond (ltb k m) (bit b * 2 ^ k) 0

-- the group of the first len systems of a list
abbrev pub group_of : ℕ → List ℕ → Group
group_of len systems = record { len = len; systems = systems }

-- what write_site asks
pub record SiteOut (n : ℕ) (g : Group) (xs : List ℤ) (i : ℕ) : Type 0 where
  pub site : SiteIn n g xs i
  pub listed : g.len ≤ length g.systems
  pub distinct : Distinct g.len (member g)

-- ys is xs with the spins of the first m members at the site i written from the column
pub record SiteWritten (n m : ℕ) (g : Group) (i column : ℕ) (xs ys : List ℤ) : Type 0 where
  pub long : length ys ≡ length xs
  pub group : (k : ℕ) → k < m → pattern_of n g ys i k ≡ shown column k
  pub others : (x : ℕ) → ((k : ℕ) → k < m → x ≢ member g k * n + i) → get_or ys x (pos 0) ≡ get_or xs x (pos 0)

-- ---- what the functions on one row ask and promise

-- the column of the site i once the weight is added where the row has +1
abbrev pub added : List ℕ → List ℤ → ℕ → ℕ → ℕ
added cols row weight i = get_or cols i 0 + bit (is_up (get_or row i (pos 0))) * weight

-- a row as long as the columns, and room in each of them for a weight
pub record Adds (row : List ℤ) (weight : ℕ) (cols : List ℕ) : Type 0 where
  pub long : length row ≡ length cols
  pub fits : (i : ℕ) → i < length cols → get_or cols i 0 + weight < 256

-- a place k of a column, and a row as long as the columns
pub record Fills (k : ℕ) (row : List ℤ) (cols : List ℕ) : Type 0 where
  pub place : k < 8
  pub long : length row ≡ length cols
