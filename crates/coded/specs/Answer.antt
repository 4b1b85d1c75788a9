-- What a move answers whose permutations may be numbers: what it answers by their rows.
use Rattle.std.specs.Prelude.{ℕ, ◌≡◌, Bool, List, ℤ}
use Rattle.paper.specs.Answer.Cases.{Answer, Answer.Refused}
use Rattle.paper.specs.Panel.Input.{Call, Choices, Buffers, size}
use Rattle.paper.specs.Refusal.Rules.{When}
use Rattle.paper.specs.Answer.Totals.{KeepAnswers}
use Rattle.coded.specs.Takes.{spelled_choices}

-- numbers are of five places: a group of m has none unless it is five
abbrev pub Five : Bool → ℕ → Type 0
Five coded m = When coded (m ≡ 5)

-- refused with 1, and nothing is written
pub record Unfit (b : Buffers) (ts : List ℤ) (a : Answer) (b' : Buffers) (ts' : List ℤ) : Type 0 where
  pub number : a ≡ Refused 1
  pub kept : b' ≡ b
  pub totals_kept : ts' ≡ ts

-- the answer a may be given to the call c, whose choices are numbers or not, and which keeps totals or not
pub record CodedAnswers (coded keeping : Bool) (c : Call) (p : Choices) (b : Buffers) (ts : List ℤ) (a : Answer) (b' : Buffers) (ts' : List ℤ)
    : Type 0 where
  pub five : Five coded (size c) → KeepAnswers keeping c (spelled_choices coded p) b ts a b' ts'
  pub other : (Five coded (size c) → ⊥) → Unfit b ts a b' ts'
