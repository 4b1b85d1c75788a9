-- Tests 1 to 7 of a move, as the function is handed them.
use Rattle.std.specs.Prelude.{◌≡◌, refl, List, [], ◌∷◌, ◌++◌, Bool, true, false, ◌||◌, ℕ, ◌*◌, ◌≤◌, length, ℤ}
use Rattle.std.proofs.Common.{inl, inr}
use Rattle.lemmas.specs.Bools.{never}
use Rattle.paper.specs.declared.Task.{Task}
use Rattle.paper.specs.declared.Lengths.{Lengths}
use Rattle.paper.specs.Panel.Input.{Lattice}
use Rattle.paper.specs.Panel.Made.{lattice_of}
use Rattle.paper.specs.Panel.Takes.{draws_bonds, keeps_by}
use Rattle.paper.specs.Refusal.Rule.{Rule, rule, Broken}
use Rattle.paper.specs.Refusal.Rules.{When, Ranged, HoudOfTwo, Fits, group_names, Named, Spins, Inverse, Pins, Grouped, SmallCouplings, Warm}
use Rattle.paper.specs.Answer.Totals.{TotalLengths}
use Rattle.neighbours.specs.Tables.{Tabled}

-- l has the lengths of these buffers
pub record Measures (spins : List ℤ) (fwd bwd : List ℕ) (couplings : List ℤ) (l : Lengths) : Type 0 where
  pub spins_is : l.spins ≡ length spins
  pub fwd_is : l.fwd ≡ length fwd
  pub bwd_is : l.bwd ≡ length bwd
  pub couplings_is : l.couplings ≡ length couplings

-- what 4 to 7 lean on: a table entry for each bond, and a group that its eight places hold
pub record TablesLong (t : Task) (fwd bwd : List ℕ) : Type 0 where
  pub tables : Tabled t.n t.d fwd bwd
  pub size_high : t.group.len ≤ 8

-- where totals are kept, so many couplings and totals are lent
pub record TotalsFit (keeping : Bool) (n d s couplings totals : ℕ) : Type 0 where
  pub couplings_is : When keeping (couplings ≡ n * d)
  pub totals_is : When keeping (totals ≡ s)

module _ (keeping : Bool) (g : Lattice) (ts : List ℤ) where
  abbrev pub Fit : Type 0
  Fit = TotalsFit keeping g.n g.d g.s (length g.couplings) (length ts)

  pub fit_lengths : Fit → When keeping (TotalLengths g ts)
  fit_lengths f e = record { couplings = f.couplings_is e; totals = f.totals_is e }

  pub lengths_fit : When keeping (TotalLengths g ts) → Fit
  lengths_fit h = record { couplings_is = λ e. (h e).couplings; totals_is = λ e. (h e).totals }

-- 1, 15 and 2, by the numbers alone
abbrev pub shape_rules : Task → ℕ → Lengths → List Rule
shape_rules t totals l =
    rule 1 (Ranged t.n t.d t.s t.mode t.group.len)
    ∷ rule 15 (HoudOfTwo t.mode t.form t.group.len)
    ∷ rule 2 (Fits t.mode t.form t.n t.d t.s t.group.len l)
    ∷ rule 2 (TotalsFit (keeps_by t.keeps t.form) t.n t.d t.s l.couplings totals)
    ∷ []

-- 4 to 7, which look at no spin
abbrev pub table_rules : Task → List ℕ → List ℕ → List ℕ → List ℤ → List Rule
table_rules t fwd bwd pins couplings =
    rule 4 (Inverse t.n t.d fwd bwd)
    ∷ rule 4 (Pins pins)
    ∷ rule 5 (Grouped t.s t.group)
    ∷ rule 6 (When (draws_bonds t.mode) (SmallCouplings couplings))
    ∷ rule 6 (When (keeps_by t.keeps t.form) (SmallCouplings couplings))
    ∷ rule 7 (When (draws_bonds t.mode) (Warm t.temperature))
    ∷ []

-- 3 to 7
abbrev pub content_rules : Task → List ℤ → List ℕ → List ℕ → List ℕ → List ℤ → List Rule
content_rules t spins fwd bwd pins couplings = rule 3 (Spins t.n (Named t.s (group_names t.group)) spins) ∷ table_rules t fwd bwd pins couplings

-- 1, 15 and 2, by the buffers
abbrev pub length_rules : Task → List ℤ → List ℕ → List ℕ → List ℤ → Lengths → List Rule
length_rules t totals fwd bwd couplings l =
    rule 1 (Ranged t.n t.d t.s t.mode t.group.len)
    ∷ rule 15 (HoudOfTwo t.mode t.form t.group.len)
    ∷ rule 2 (Fits t.mode t.form t.n t.d t.s t.group.len l)
    ∷ rule 2 (When (keeps_by t.keeps t.form) (TotalLengths (lattice_of t.n t.d t.s fwd bwd couplings) totals))
    ∷ []

-- all that is asked before the task's own choices
abbrev pub panel_rules : Task → List ℤ → List ℤ → List ℕ → List ℕ → List ℕ → List ℤ → Lengths → List Rule
panel_rules t spins totals fwd bwd pins couplings l = length_rules t totals fwd bwd couplings l ++ content_rules t spins fwd bwd pins couplings

-- ---- one test for two rules of one number: of what is taken for either reason
pub either_first : (a b : Bool) (P : Type 0) → When (a || b) P → When a P
either_first true b P h = h
either_first false b P h = λ e. never e

pub either_second : (a b : Bool) (P : Type 0) → When (a || b) P → When b P
either_second true b P h = λ e. h refl
either_second false b P h = h

pub either_broken : (a b : Bool) (P : Type 0) (m : ℕ) (rs : List Rule) → (When (a || b) P → ⊥) → Broken (rule m (When a P) ∷ rule m (When b P) ∷ rs) m
either_broken true b P m rs n = inl (n, refl)
either_broken false b P m rs n = inr ((λ e. never e), inl (n, refl))
