-- Each promise allows one answer.
use Rattle.std.specs.Prelude.{ℕ, ◌≡◌, Bool, List, ℤ, length, get_or, Result}
use Rattle.paper.specs.declared.Refusal.{Refusal}
use Rattle.paper.specs.Refusal.Numbers.{verdict_of, verdict_of_injective}
use Rattle.std.proofs.Common.{sym, ◌∙◌, subst}
use Rattle.lemmas.specs.Stores.{Filled, filled_unique}
use Rattle.lemmas.specs.Tells.{tells_determined}
use Rattle.paper.specs.declared.Group.{Group}
use Rattle.paper.specs.Refusal.Rules.{When, group_names, order_names, Named, Spins}
use Rattle.paper.specs.Refusal.Verdict.{Verdict, verdict_unique}
use Rattle.paper.specs.Answer.Totals.{SmallTotals}
use Rattle.paper.specs.Answer.Team.{own, Ours, own_count, owner_rules, read, read_group}
use Rattle.lattice.specs.Determined.{OneAnswer}
use Rattle.systems.specs.Rows.{RowSpins}
use Rattle.systems.specs.Owners.{team_of, OrderRead}

pub row_ok_determined : (n s : ℕ) (spins : List ℤ) (t : ℕ) → OneAnswer (RowSpins n s spins t)
row_ok_determined n s spins t = tells_determined _

pub group_rows_ok_determined : (n s : ℕ) (spins : List ℤ) (group : Group) → OneAnswer (Spins n (Named s (group_names group)) spins)
group_rows_ok_determined n s spins group = tells_determined _

pub order_rows_ok_determined : (n s : ℕ) (spins : List ℤ) (order : List ℕ) → OneAnswer (Spins n (Named s (order_names order)) spins)
order_rows_ok_determined n s spins order = tells_determined _

pub group_totals_fit_determined :
    (keeping : Bool) (totals : List ℤ) (group : Group) → OneAnswer (When keeping (SmallTotals (Named (length totals) (group_names group)) totals))
group_totals_fit_determined keeping totals group = tells_determined _

pub order_totals_fit_determined :
    (keeping : Bool) (totals : List ℤ) (order : List ℕ) → OneAnswer (When keeping (SmallTotals (Named (length totals) (order_names order)) totals))
order_totals_fit_determined keeping totals order = tells_determined _

-- any two results that are this one are equal
abbrev OneResult : {A : Type 0} → A → Type 0
OneResult {A} x = (r r' : A) → r ≡ x → r' ≡ x → r ≡ r'

module _ (team : ℕ) (owners : List ℕ) where
  pub test_owners_determined : (s r r' : ℕ) → Verdict (owner_rules (team_of team owners) s) r → Verdict (owner_rules (team_of team owners) s) r' → r ≡ r'
  test_owners_determined s = verdict_unique (owner_rules (team_of team owners) s)

  pub test_owners_result_determined : (s : ℕ) (a b : Result (Unit {0}) Refusal)
      → Verdict (owner_rules (team_of team owners) s) (verdict_of a) → Verdict (owner_rules (team_of team owners) s) (verdict_of b) → a ≡ b
  test_owners_result_determined s a b p q = verdict_of_injective a b (test_owners_determined s (verdict_of a) (verdict_of b) p q)

  pub own_determined : (t : ℕ) → OneResult (own (team_of team owners) t)
  own_determined t r r' p q = p ∙ sym q

  pub read_determined : (s t : ℕ) → OneResult (read (team_of team owners) s t)
  read_determined s t r r' p q = p ∙ sym q

  pub read_group_determined : (s : ℕ) (group : Group) → OneResult (read_group (team_of team owners) s group)
  read_group_determined s group r r' p q = p ∙ sym q

  pub read_order_determined :
      (s : ℕ) (order named : List ℕ) (r r' : ℕ) (y z : List ℕ)
      → OrderRead (team_of team owners) s order named r y
      → OrderRead (team_of team owners) s order named r' z
      → (r ≡ r') × (y ≡ z)
  read_order_determined s order named r r' y z f g = (
    same,
    filled_unique 0 entry r named y z f.written (subst (λ (m : ℕ). Filled 0 entry m named z) (sym same) g.written),
  )
    where
      entry : ℕ → ℕ
      entry j = read (team_of team owners) s (get_or order j 0)

      same : r ≡ r'
      same = f.count ∙ sym g.count

  pub own_count_determined : OneResult (own_count (team_of team owners) (length owners))
  own_count_determined r r' p q = p ∙ sym q

  pub own_rows_ok_determined : (n s : ℕ) (spins : List ℤ) → OneAnswer (Spins n (Ours (team_of team owners) s) spins)
  own_rows_ok_determined n s spins = tells_determined _
