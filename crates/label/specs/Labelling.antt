-- The answer to a labelling: a refusal with its number, or all is written. `components` returns it as a `Result`; no two results are one answer.
use Rattle.std.specs.Prelude.{ℕ, ◌≡◌, Result, Ok, Err}
use Rattle.std.proofs.Common.{ap}
use Rattle.paper.specs.declared.Refusal.{Refusal}
use Rattle.paper.specs.Refusal.Numbers.{number_of, verdict_of, verdict_of_injective}

pub data Labelling : Type 0 where
  Unlabelled : ℕ → Labelling
  Written : Labelling

abbrev pub labelling_of : Result (Unit {0}) Refusal → Labelling
labelling_of (Ok u) = Labelling.Written
labelling_of (Err e) = Labelling.Unlabelled (number_of e)

abbrev told : Labelling → ℕ
told (Labelling.Unlabelled r) = r
told Labelling.Written = 0

pub labelling_of_injective : (a b : Result (Unit {0}) Refusal) → labelling_of a ≡ labelling_of b → a ≡ b
labelling_of_injective (Ok u) (Ok v) e = verdict_of_injective (Ok u) (Ok v) (ap told e)
labelling_of_injective (Ok u) (Err f) e = verdict_of_injective (Ok u) (Err f) (ap told e)
labelling_of_injective (Err d) (Ok v) e = verdict_of_injective (Err d) (Ok v) (ap told e)
labelling_of_injective (Err d) (Err f) e = verdict_of_injective (Err d) (Err f) (ap told e)
