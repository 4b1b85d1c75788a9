-- What becomes of a list that is written: refused with a number, or so many bytes. `write_edges` returns it as a `Result`; no two results are one answer.
use Rattle.std.specs.Prelude.{ℕ, ◌≡◌, refl, Result, Ok, Err}
use Rattle.std.proofs.Common.{sym, ◌∙◌, ap}
use Rattle.paper.specs.declared.Refusal.{Refusal}
use Rattle.paper.specs.Refusal.Numbers.{number_of, refusal_of, refusal_of_number}

pub data Listing : Type 0 where
  Unlisted : ℕ → Listing
  Wrote : ℕ → Listing

abbrev pub listing_of : Result ℕ Refusal → Listing
listing_of (Ok m) = Listing.Wrote m
listing_of (Err e) = Listing.Unlisted (number_of e)

-- ---- each answer is of one result
abbrev result_of : Listing → Result ℕ Refusal
result_of (Listing.Unlisted r) = Err (refusal_of r)
result_of (Listing.Wrote m) = Ok m

result_again : (a : Result ℕ Refusal) → result_of (listing_of a) ≡ a
result_again (Ok m) = refl
result_again (Err e) = ap Err (refusal_of_number e)

pub listing_of_injective : (a b : Result ℕ Refusal) → listing_of a ≡ listing_of b → a ≡ b
listing_of_injective a b e = sym (result_again a) ∙ (ap result_of e ∙ result_again b)
