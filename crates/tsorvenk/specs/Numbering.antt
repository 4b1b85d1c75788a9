-- What `tsorvenk_number_of` answers; `tsorvenk_row_of` answers as `row_of` does.
use Rattle.std.specs.Prelude.{ℕ, ◌≡◌, List, length}
use Rattle.orders.specs.declared.Numbered.{Numbered}
use Rattle.orders.specs.Answers.{number, values, NumberAnswers}
use Rattle.tsorvenk.specs.Number.{Returned, values_to}

-- the answer a to the row, whose number goes to a buffer of one
pub record Ranked (row vs : List ℕ) (a : Numbered) (vs' : List ℕ) : Type 0 where
  pub answers : NumberAnswers row a
  pub written : vs' ≡ values_to (values a) vs

-- there is no place for the number
pub record Unranked (vs : List ℕ) (r : ℕ) (vs' : List ℕ) : Type 0 where
  pub number : r ≡ 2
  pub kept : vs' ≡ vs

pub record RowNumbers (row vs : List ℕ) (r : ℕ) (vs' : List ℕ) : Type 0 where
  pub roomed : length vs ≡ 1 → Returned number (λ a. Ranked row vs a vs') r
  pub roomless : (length vs ≡ 1 → ⊥) → Unranked vs r vs'
