-- The answer to a pair that is checked: a refusal with its number, the number of the first component at fault, or accepted. `check_vendor` returns it as a
-- `Result` whose value is that component, if there is one; no two results are one answer.
use Rattle.std.specs.Prelude.{ℕ, ◌≡◌, refl, Result, Ok, Err, Option, None, Some}
use Rattle.std.proofs.Common.{sym, ◌∙◌, ap}
use Rattle.paper.specs.declared.Refusal.{Refusal}
use Rattle.paper.specs.Refusal.Numbers.{number_of, refusal_of, refusal_of_number}

pub data Checked : Type 0 where
  Refused : ℕ → Checked
  No : ℕ → Checked
  Yes : Checked

abbrev pub checked_of : Result (Option ℕ) Refusal → Checked
checked_of (Ok None) = Checked.Yes
checked_of (Ok (Some r)) = Checked.No r
checked_of (Err e) = Checked.Refused (number_of e)

abbrev result_of : Checked → Result (Option ℕ) Refusal
result_of (Checked.Refused r) = Err (refusal_of r)
result_of (Checked.No r) = Ok (Some r)
result_of Checked.Yes = Ok None

result_again : (a : Result (Option ℕ) Refusal) → result_of (checked_of a) ≡ a
result_again (Ok None) = refl
result_again (Ok (Some r)) = refl
result_again (Err e) = ap Err (refusal_of_number e)

pub checked_of_injective : (a b : Result (Option ℕ) Refusal) → checked_of a ≡ checked_of b → a ≡ b
checked_of_injective a b e = sym (result_again a) ∙ (ap result_of e ∙ result_again b)
