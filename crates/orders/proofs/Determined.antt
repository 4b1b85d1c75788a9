-- Each promise allows one result, and one content of the slice that is lent.
use Rattle.std.specs.Prelude.{ℕ, zero, suc, ◌≡◌, refl, List}
use Rattle.std.proofs.Common.{sym, ◌∙◌, ap}
use Rattle.paper.specs.Refusal.Rule.{broken_unique, broken_not_kept}
use Rattle.orders.specs.declared.Numbered.{Numbered}
use Rattle.orders.specs.declared.Numbered.TheVariants.{Refused, Number}
use Rattle.orders.specs.Table.{orders, row}
use Rattle.orders.specs.Answers.{row_rules, RowAnswers, number_rules, NumberAnswers}
use Rattle.orders.proofs.Laws.{rows_differ}

pub table_determined : (t t' : List ℕ) → t ≡ orders → t' ≡ orders → t ≡ t'
table_determined t t' f g = f ∙ sym g

pub entry_determined : (r k e e' : ℕ) → e ≡ row r k → e' ≡ row r k → e ≡ e'
entry_determined r k e e' f g = f ∙ sym g

pub entry_in_determined : (r k e e' : ℕ) → e ≡ row r k → e' ≡ row r k → e ≡ e'
entry_in_determined = entry_determined

pub row_of_determined :
    (r : ℕ) (xs : List ℕ) (c c' : ℕ) (ys ys' : List ℕ) → RowAnswers r xs c ys → RowAnswers r xs c' ys' → (c ≡ c') × (ys ≡ ys')
row_of_determined r xs zero zero ys ys' f g = (refl, f.is ∙ sym g.is)
row_of_determined r xs zero (suc c') ys ys' f g = absurd (broken_not_kept (row_rules r xs) (suc c') g.broken f.valid)
row_of_determined r xs (suc c) zero ys ys' f g = absurd (broken_not_kept (row_rules r xs) (suc c) f.broken g.valid)
row_of_determined r xs (suc c) (suc c') ys ys' f g =
    (broken_unique (row_rules r xs) (suc c) (suc c') f.broken g.broken, f.same ∙ sym g.same)

pub number_of_determined : (xs : List ℕ) (a a' : Numbered) → NumberAnswers xs a → NumberAnswers xs a' → a ≡ a'
number_of_determined xs (Refused c) (Refused c') f g = ap Refused (broken_unique (number_rules xs) c c' f g)
number_of_determined xs (Refused c) (Number r) f g = absurd (broken_not_kept (number_rules xs) c f g.valid)
number_of_determined xs (Number r) (Refused c') f g = absurd (broken_not_kept (number_rules xs) c' g f.valid)
number_of_determined xs (Number r) (Number r') f g =
    ap Number
    (rows_differ r r' f.stands.below g.stands.below (λ k l. f.stands.is k l ∙ sym (g.stands.is k l)))
