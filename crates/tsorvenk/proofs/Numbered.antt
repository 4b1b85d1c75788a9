-- The returned number stands for the answer to a row.
use Prim.Native.Nat.{ℕ}
use mathlib.Core.Path.{◌≡◌, refl}
use mathlib.Core.List.{List}
use lib.ListN.{length, set}
use Rattle.orders.specs.declared.Numbered.TheVariants.{Refused, Number}
use Rattle.orders.specs.Answers.{NumberAnswers}
use Rattle.tsorvenk.specs.Numbering.{RowNumbers}
use Rattle.tsorvenk.proofs.Told.{one_set}

module _ (row vs : List ℕ) where
  pub no_number_place : (length vs ≡ 1 → ⊥) → RowNumbers row vs 2 vs
  no_number_place n = record { roomed = λ l. absurd (n l); roomless = λ _. record { number = refl; kept = refl } }

  pub not_numbered : (c : ℕ) → length vs ≡ 1 → NumberAnswers row (Refused c) → RowNumbers row vs c vs
  not_numbered c l h = record {
    roomed = λ _. record { answer = Refused c; allowed = record { answers = h; written = refl }; number = refl };
    roomless = λ n. absurd (n l);
  }

  pub numbered : (v : ℕ) → length vs ≡ 1 → NumberAnswers row (Number v) → RowNumbers row vs 0 (set vs 0 v)
  numbered v l h = record {
    roomed = λ _. record { answer = Number v; allowed = record { answers = h; written = one_set vs v l }; number = refl };
    roomless = λ n. absurd (n l);
  }
