-- What `tsorvenk_step` answers.
use Rattle.std.specs.Prelude.{ℕ, ◌≡◌, List, ℤ}
use Rattle.paper.specs.Answer.Cases.{Answer.Refused}
use Rattle.paper.specs.Panel.Input.{Call, Choices, Buffers}
use Rattle.paper.specs.Panel.Takes.{keeps_by}
use Rattle.coded.specs.Takes.{numbers_by}
use Rattle.coded.specs.Answer.{CodedAnswers}
use Rattle.tsorvenk.specs.Number.{Coded, coding_of, keeps_of, number_of, Returned}

-- what a move is lent to write to: the paper's buffers, and the totals
pub record WithTotals : Type 0 where
  pub buffers : Buffers
  pub totals : List ℤ

abbrev pub with_totals : Buffers → List ℤ → WithTotals
with_totals b ts = record { buffers = b; totals = ts }

-- a code that is none is refused with 1
pub record Uncoded (r : ℕ) (l l' : WithTotals) : Type 0 where
  pub number : r ≡ number_of (Refused 1)
  pub kept : l' ≡ l

-- the number r is that of the answer to the call c, which has the mode and form of these codes, spells permutations as the third says and keeps
-- what the fourth says
pub record StepAnswers (mode form coding keeps : ℕ) (c : Call) (p : Choices) (l : WithTotals) (r : ℕ) (l' : WithTotals) : Type 0 where
  pub known : Coded mode form coding keeps → Returned number_of
      (λ a. CodedAnswers (numbers_by (coding_of coding) c.mode c.form) (keeps_by (keeps_of keeps) c.form) c p l.buffers l.totals a
      l'.buffers l'.totals) r
  pub unknown : (Coded mode form coding keeps → ⊥) → Uncoded r l l'
