-- What `tsorvenk_check_vendor` answers.
use Rattle.std.specs.Prelude.{ℕ, ◌+◌, ◌≡◌, true, List, [], ◌∷◌, length, ℤ}
use Rattle.paper.specs.declared.Mode.{Mode}
use Rattle.paper.specs.Panel.Input.{Call, size}
use Rattle.paper.specs.Panel.Takes.{is_perm}
use Rattle.paper.specs.Refusal.Rule.{Rule, rule, Broken}
use Rattle.paper.specs.Refusal.Rules.{Ranged}
use Rattle.vendor.specs.Checked.{Checked, Checked.Refused, Checked.No, Checked.Yes}
use Rattle.vendor.specs.Vendor.{number, values, vendor_rules, VendorAnswers}
use Rattle.tsorvenk.specs.Number.{Returned, values_to}

-- the paper's number, and for no a mark of this interface on it
abbrev pub checked_number : Checked → ℕ
checked_number (Refused k) = number (Refused k)
checked_number (No r) = 67 + number (No r)
checked_number Yes = number Yes

-- where there is no place for a fault
abbrev pub roomless_rules : Mode → ℕ → ℕ → ℕ → List Rule
roomless_rules mode n d m = rule 1 (Ranged n d m mode m) ∷ rule 1 (is_perm mode ≡ true) ∷ rule 2 ⊥ ∷ []

-- the check's rules, with the buffer of one number that a fault goes to as one more of test 2
abbrev pub check_rules : Call → List ℤ → List ℤ → List ℕ → List ℕ → List Rule
check_rules c xs ys rows fault =
    rule 1 (Ranged c.lattice.n c.lattice.d c.lattice.s c.mode (size c))
    ∷ rule 1 (is_perm c.mode ≡ true)
    ∷ rule 2 (length fault ≡ 1)
    ∷ vendor_rules c xs ys rows

-- refused with the number k: nothing is written
pub record CheckRefuses (c : Call) (xs ys : List ℤ) (rows fault : List ℕ) (k : ℕ) (rows' fault' : List ℕ) : Type 0 where
  pub why : Broken (check_rules c xs ys rows fault) k
  pub kept : rows' ≡ rows
  pub fault_kept : fault' ≡ values_to (values (Refused k)) fault

-- the rows are those of the check's answer, and a fault is written where it is no
pub record Checks (c : Call) (xs ys : List ℤ) (rows fault : List ℕ) (a : Checked) (rows' fault' : List ℕ) : Type 0 where
  pub room : length fault ≡ 1
  pub answers : VendorAnswers c xs ys rows a rows'
  pub written : fault' ≡ values_to (values a) fault

abbrev pub CheckedAs : Call → List ℤ → List ℤ → List ℕ → List ℕ → Checked → List ℕ → List ℕ → Type 0
CheckedAs c xs ys rows fault (Refused k) rows' fault' = CheckRefuses c xs ys rows fault (number (Refused k)) rows' fault'
CheckedAs c xs ys rows fault (No r) rows' fault' = Checks c xs ys rows fault (No r) rows' fault'
CheckedAs c xs ys rows fault Yes rows' fault' = Checks c xs ys rows fault Yes rows' fault'

abbrev pub CheckAnswers : Call → List ℤ → List ℤ → List ℕ → List ℕ → ℕ → List ℕ → List ℕ → Type 0
CheckAnswers c xs ys rows fault r rows' fault' = Returned checked_number (λ a. CheckedAs c xs ys rows fault a rows' fault') r
