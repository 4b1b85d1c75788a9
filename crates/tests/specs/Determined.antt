-- Each test's verdict is the only one.
use Rattle.std.specs.Prelude.{ℕ, ◌≡◌, Bool, List, [], ℤ, Float, Result}
use Rattle.paper.specs.declared.Refusal.{Refusal}
use Rattle.paper.specs.Refusal.Numbers.{verdict_of, verdict_of_injective}
use Rattle.lemmas.specs.Tells.{Tells, tells_determined}
use Rattle.paper.specs.declared.Mode.{Mode}
use Rattle.paper.specs.declared.Form.{Form}
use Rattle.paper.specs.declared.Task.{Task}
use Rattle.paper.specs.declared.Lengths.{Lengths}
use Rattle.paper.specs.Panel.Input.{pattern_of}
use Rattle.paper.specs.Panel.Made.{call_of, choices_of}
use Rattle.paper.specs.Refusal.Rules.{Chosen, Seeded, choice_rules}
use Rattle.paper.specs.Refusal.Verdict.{Verdict, verdict_unique}
use Rattle.columns.specs.Column.{Columns}
use Rattle.tests.specs.Lengths.{FitsEach}
use Rattle.tests.specs.Panel.{TotalsFit, shape_rules, table_rules, panel_rules}
use Rattle.tests.specs.Choices.{EveryCall, EveryCut, chosen_rules, Seeing, EveryRows}

pub lengths_ok_determined : (mode : Mode) (form : Form) (n d s m count : ℕ) (l : Lengths) (a b : Bool)
    → Tells a (FitsEach mode form n d s m count l) → Tells b (FitsEach mode form n d s m count l) → a ≡ b
lengths_ok_determined mode form n d s m count l = tells_determined (FitsEach mode form n d s m count l)

pub totals_lengths_ok_determined : (keeping : Bool) (n d s couplings totals : ℕ) (a b : Bool)
    → Tells a (TotalsFit keeping n d s couplings totals) → Tells b (TotalsFit keeping n d s couplings totals) → a ≡ b
totals_lengths_ok_determined keeping n d s couplings totals = tells_determined (TotalsFit keeping n d s couplings totals)

pub test_shape_determined : (t : Task) (totals : ℕ) (l : Lengths) (a b : ℕ) → Verdict (shape_rules t totals l) a → Verdict (shape_rules t totals l) b → a ≡ b
test_shape_determined t totals l = verdict_unique (shape_rules t totals l)

pub test_tables_determined : (t : Task) (fwd bwd pins : List ℕ) (couplings : List ℤ) (a b : ℕ)
    → Verdict (table_rules t fwd bwd pins couplings) a → Verdict (table_rules t fwd bwd pins couplings) b → a ≡ b
test_tables_determined t fwd bwd pins couplings = verdict_unique (table_rules t fwd bwd pins couplings)

pub test_panel_determined : (t : Task) (spins totals : List ℤ) (fwd bwd pins : List ℕ) (couplings : List ℤ) (l : Lengths) (a b : ℕ)
    → Verdict (panel_rules t spins totals fwd bwd pins couplings l) a → Verdict (panel_rules t spins totals fwd bwd pins couplings l) b → a ≡ b
test_panel_determined t spins totals fwd bwd pins couplings l = verdict_unique (panel_rules t spins totals fwd bwd pins couplings l)

-- at any one choice of what the tests do not look at
pub chosen_ok_determined : (t : Task) (choices greys : List ℕ) (a b : Bool)
    → EveryCut t (λ c. Tells a (Chosen c (choices_of choices greys)))
    → EveryCut t (λ c. Tells b (Chosen c (choices_of choices greys)))
    → a ≡ b
chosen_ok_determined t choices greys a b p q =
    tells_determined (Chosen (call_of t [] [] [] [] []) (choices_of choices greys)) a b
    (p [] t.d t.s t.temperature [] [] [] []) (q [] t.d t.s t.temperature [] [] [] [])

pub test_chosen_determined : (t : Task) (cuts : List Float) (choices greys : List ℕ) (a b : ℕ)
    → EveryCall t cuts (λ c. Verdict (chosen_rules c (choices_of choices greys)) a)
    → EveryCall t cuts (λ c. Verdict (chosen_rules c (choices_of choices greys)) b)
    → a ≡ b
test_chosen_determined t cuts choices greys a b p q =
    verdict_unique (chosen_rules (call_of t [] [] [] [] cuts) (choices_of choices greys)) a b
    (p t.d t.s t.temperature [] [] [] []) (q t.d t.s t.temperature [] [] [] [])

pub test_choices_determined : (t : Task) (spins : List ℤ) (cuts : List Float) (choices greys : List ℕ) (a b : ℕ)
    → EveryCall t cuts (λ c. Verdict (choice_rules c (choices_of choices greys) spins) a)
    → EveryCall t cuts (λ c. Verdict (choice_rules c (choices_of choices greys) spins) b)
    → a ≡ b
test_choices_determined t spins cuts choices greys a b p q =
    verdict_unique (choice_rules (call_of t [] [] [] [] cuts) (choices_of choices greys) spins) a b
    (p t.d t.s t.temperature [] [] [] []) (q t.d t.s t.temperature [] [] [] [])

-- for columns of the rows xs
pub seed_column_ok_determined : (t : Task) (cols : List ℕ) (xs : List ℤ) → Seeing t xs
    → Columns t.n t.group.len (pattern_of t.n t.group xs) cols
    → (a b : Bool)
    → EveryCut t (λ c. EveryRows t cols (λ xs. Tells a (Seeded c xs)))
    → EveryCut t (λ c. EveryRows t cols (λ xs. Tells b (Seeded c xs)))
    → a ≡ b
seed_column_ok_determined t cols xs s w a b p q =
    tells_determined (Seeded (call_of t [] [] [] [] []) xs) a b (p [] t.d t.s t.temperature [] [] [] [] xs s w)
    (q [] t.d t.s t.temperature [] [] [] [] xs s w)

-- ---- each test returns one result
pub test_shape_result_determined : (t : Task) (totals : ℕ) (l : Lengths) (a b : Result (Unit {0}) Refusal)
    → Verdict (shape_rules t totals l) (verdict_of a) → Verdict (shape_rules t totals l) (verdict_of b) → a ≡ b
test_shape_result_determined t totals l a b p q = verdict_of_injective a b (test_shape_determined t totals l _ _ p q)

pub test_tables_result_determined : (t : Task) (fwd bwd pins : List ℕ) (couplings : List ℤ) (a b : Result (Unit {0}) Refusal)
    → Verdict (table_rules t fwd bwd pins couplings) (verdict_of a) → Verdict (table_rules t fwd bwd pins couplings) (verdict_of b) → a ≡ b
test_tables_result_determined t fwd bwd pins couplings a b p q =
    verdict_of_injective a b (test_tables_determined t fwd bwd pins couplings _ _ p q)

pub test_panel_result_determined : (t : Task) (spins totals : List ℤ) (fwd bwd pins : List ℕ) (couplings : List ℤ) (l : Lengths) (a b : Result (Unit {0}) Refusal)
    → Verdict (panel_rules t spins totals fwd bwd pins couplings l) (verdict_of a)
    → Verdict (panel_rules t spins totals fwd bwd pins couplings l) (verdict_of b)
    → a ≡ b
test_panel_result_determined t spins totals fwd bwd pins couplings l a b p q =
    verdict_of_injective a b (test_panel_determined t spins totals fwd bwd pins couplings l _ _ p q)

pub test_chosen_result_determined : (t : Task) (cuts : List Float) (choices greys : List ℕ) (a b : Result (Unit {0}) Refusal)
    → EveryCall t cuts (λ c. Verdict (chosen_rules c (choices_of choices greys)) (verdict_of a))
    → EveryCall t cuts (λ c. Verdict (chosen_rules c (choices_of choices greys)) (verdict_of b))
    → a ≡ b
test_chosen_result_determined t cuts choices greys a b p q =
    verdict_of_injective a b (test_chosen_determined t cuts choices greys (verdict_of a) (verdict_of b) p q)

pub test_choices_result_determined : (t : Task) (spins : List ℤ) (cuts : List Float) (choices greys : List ℕ) (a b : Result (Unit {0}) Refusal)
    → EveryCall t cuts (λ c. Verdict (choice_rules c (choices_of choices greys) spins) (verdict_of a))
    → EveryCall t cuts (λ c. Verdict (choice_rules c (choices_of choices greys) spins) (verdict_of b))
    → a ≡ b
test_choices_result_determined t spins cuts choices greys a b p q =
    verdict_of_injective a b (test_choices_determined t spins cuts choices greys (verdict_of a) (verdict_of b) p q)
