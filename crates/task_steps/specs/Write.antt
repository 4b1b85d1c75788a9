-- The third step of a task: its rows become what the columns of the area show, and its totals are brought current (14/14).
use Rattle.std.specs.Prelude.{ℕ, zero, suc, ◌*◌, ◌^◌, ◌≤◌, ◌<◌, ◌≡◌, Bool, true, cond, List, [], ◌∷◌, length, get_or, ℤ}
use Rattle.paper.specs.declared.Group.{Group}
use Rattle.paper.specs.declared.Mode.{Mode}
use Rattle.paper.specs.declared.Form.{Form}
use Rattle.paper.specs.Panel.Input.{Lattice, Call, pattern_of}
use Rattle.paper.specs.Panel.Takes.{grows_by}
use Rattle.paper.specs.Refusal.Rule.{Rule, rule, Kept, Broken}
use Rattle.paper.specs.Refusal.Rules.{When, Ranged, HoudOfTwo, group_names, Named, Spins, Inverse, SmallCouplings}
use Rattle.paper.specs.Answer.Totals.{SmallTotals, TotalLengths, TotalsAfter}
use Rattle.columns.specs.Column.{shown}
use Rattle.task_steps.specs.Choose.{has_column}

-- what the step looks at of a call: no choices, cuts, labels or pins. Neighbours and couplings are taken for the totals alone
pub record Shape : Type 0 where
  pub mode : Mode
  pub form : Form
  pub lattice : Lattice
  pub group : Group

abbrev pub shape_of : Call → Shape
shape_of c = record { mode = c.mode; form = c.form; lattice = c.lattice; group = c.group }

-- what it is lent: the rows, of the form that grows the members, the area of columns, and the totals
pub record Writing : Type 0 where
  pub rows : List ℤ
  pub members : List ℕ
  pub area : List ℕ
  pub totals : List ℤ

abbrev pub writing_of : List ℤ → List ℕ → List ℕ → List ℤ → Writing
writing_of rows members area totals = record { rows = rows; members = members; area = area; totals = totals }

pub record WriteExact (keeping : Bool) (h : Shape) (l : Writing) : Type 0 where
  pub rows : length l.rows ≡ h.lattice.s * h.lattice.n
  pub members : When (grows_by h.form) (length l.members ≡ h.lattice.n)
  pub area : length l.area ≡ h.lattice.n
  pub fwd : When keeping (length h.lattice.fwd ≡ h.lattice.n * h.lattice.d)
  pub bwd : When keeping (length h.lattice.bwd ≡ h.lattice.n * h.lattice.d)
  pub totals : When keeping (TotalLengths h.lattice l.totals)

-- a column of m systems has no bit from m upwards
abbrev pub Columned : Shape → Writing → Type 0
Columned h l = (i : ℕ) → i < h.lattice.n → has_column h.form l.members i ≡ true → get_or l.area i 0 < 2 ^ h.group.len

abbrev pub write_rules : Bool → Shape → Writing → List Rule
write_rules keeping h l =
    rule 1 (Ranged h.lattice.n h.lattice.d h.lattice.s h.mode h.group.len)
    ∷ rule 15 (HoudOfTwo h.mode h.form h.group.len)
    ∷ rule 2 (WriteExact keeping h l)
    ∷ rule 3 (Spins h.lattice.n (Named h.lattice.s (group_names h.group)) l.rows)
    ∷ rule 3 (Columned h l)
    ∷ rule 4 (When keeping (Inverse h.lattice.n h.lattice.d h.lattice.fwd h.lattice.bwd))
    ∷ rule 6 (When keeping (SmallCouplings h.lattice.couplings))
    ∷ rule 9 (When (grows_by h.form) ((i : ℕ) → i < h.lattice.n → get_or l.members i 0 ≤ 1))
    ∷ rule 14 (When keeping (SmallTotals (Named h.lattice.s (group_names h.group)) l.totals))
    ∷ []

-- the rows are what the columns show, where there are columns, and each total changes by its row's energy
pub record WriteAccepts (keeping : Bool) (h : Shape) (l : Writing) (ys us : List ℤ) : Type 0 where
  pub valid : Kept (write_rules keeping h l)
  pub long : length ys ≡ length l.rows
  pub written : (i k : ℕ) → i < h.lattice.n → k < h.group.len
      → pattern_of h.lattice.n h.group ys i k
      ≡ cond (has_column h.form l.members i) (shown (get_or l.area i 0) k) (pattern_of h.lattice.n h.group l.rows i k)
  pub totals : TotalsAfter keeping h.lattice l.rows l.totals ys us

pub record WriteRefuses (keeping : Bool) (h : Shape) (l : Writing) (r : ℕ) (ys us : List ℤ) : Type 0 where
  pub why : Broken (write_rules keeping h l) r
  pub kept : ys ≡ l.rows
  pub totals_kept : us ≡ l.totals

-- the number r may be answered, 0 or a refusal; the rows and totals are then ys and us
abbrev pub WriteAnswers : Bool → Shape → Writing → ℕ → List ℤ → List ℤ → Type 0
WriteAnswers keeping h l zero ys us = WriteAccepts keeping h l ys us
WriteAnswers keeping h l (suc r) ys us = WriteRefuses keeping h l (suc r) ys us
