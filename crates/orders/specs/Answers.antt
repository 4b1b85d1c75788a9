-- What `row_of` and `number_of` answer, for every input.
use Rattle.std.specs.Prelude.{ℕ, zero, suc, ◌-◌, ◌≤◌, ◌<◌, ◌≡◌, List, [], ◌∷◌, length, get_or}
use Rattle.paper.specs.Refusal.Rule.{Rule, rule, Kept, Broken}
use Rattle.paper.specs.Refusal.Rules.{Permutes}
use Rattle.paper.specs.Refusal.Verdict.{Verdict}
use Rattle.orders.specs.declared.Numbered.{Numbered}
use Rattle.orders.specs.declared.Numbered.TheVariants.{Refused, Number}
use Rattle.orders.specs.Table.{orders, row}
use Rattle.orders.specs.Words.{Agree}
use Rattle.orders.specs.Rank.{later}

-- ---- the row of a number

-- the five entries of row r
abbrev pub row_of : ℕ → List ℕ
row_of r = row r 0 ∷ row r 1 ∷ row r 2 ∷ row r 3 ∷ row r 4 ∷ []

abbrev pub row_rules : ℕ → List ℕ → List Rule
row_rules r xs = rule 2 (length xs ≡ 5) ∷ rule 9 (r < 120) ∷ []

pub record RowGiven (r : ℕ) (xs ys : List ℕ) : Type 0 where
  pub valid : Kept (row_rules r xs)
  pub is : ys ≡ row_of r

-- nothing is written
pub record RowRefused (r : ℕ) (xs : List ℕ) (c : ℕ) (ys : List ℕ) : Type 0 where
  pub broken : Broken (row_rules r xs) c
  pub same : ys ≡ xs

-- the refusal's number or 0, and the slice after the call
abbrev pub RowAnswers : ℕ → List ℕ → ℕ → List ℕ → Type 0
RowAnswers r xs zero ys = RowGiven r xs ys
RowAnswers r xs (suc c) ys = RowRefused r xs (suc c) ys

-- ---- the number of a row

-- the paper's number of an answer, and its values
abbrev pub number : Numbered → ℕ
number (Refused c) = c
number (Number r) = 0

abbrev pub values : Numbered → List ℕ
values (Refused c) = []
values (Number r) = r ∷ []

abbrev pub word : List ℕ → ℕ → ℕ
word xs k = get_or xs k 0

abbrev pub number_rules : List ℕ → List Rule
number_rules xs = rule 2 (length xs ≡ 5) ∷ rule 9 (Permutes 5 (word xs)) ∷ []

-- row r of the table is xs
pub record Stands (xs : List ℕ) (r : ℕ) : Type 0 where
  pub below : r < 120
  pub is : Agree 5 (row r) (word xs)

pub record Numbers (xs : List ℕ) (r : ℕ) : Type 0 where
  pub valid : Verdict (number_rules xs) (number (Number r))
  pub stands : Stands xs (get_or (values (Number r)) 0 0)

-- nothing is lent to write to
abbrev pub NumberAnswers : List ℕ → Numbered → Type 0
NumberAnswers xs (Refused c) = Broken (number_rules xs) (number (Refused c))
NumberAnswers xs (Number r) = Numbers xs r

-- ---- what is asked inside

pub record Place (r k : ℕ) : Type 0 where
  pub below : r < 120
  pub inside : k < 5

pub record PlaceIn (t : List ℕ) (r k : ℕ) : Type 0 where
  pub table : t ≡ orders
  pub place : Place r k

pub record Five (xs : List ℕ) : Type 0 where
  pub long : length xs ≡ 5

pub record Behind (xs : List ℕ) (i : ℕ) : Type 0 where
  pub long : length xs ≡ 5
  pub inside : i < 5

-- the count is small, so the rank fits a byte
pub record Later (xs : List ℕ) (i c : ℕ) : Type 0 where
  pub is : c ≡ later (word xs) i
  pub most : c ≤ 4 - i
