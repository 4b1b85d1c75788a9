-- What `tsorvenk_packed_step` answers.
use Rattle.std.specs.Prelude.{ℕ, ◌≡◌, List, ℤ}
use Rattle.paper.specs.Answer.Cases.{Answer.Refused}
use Rattle.paper.specs.Panel.Input.{Call, Choices, Buffers}
use Rattle.paper.specs.Panel.Takes.{keeps_by}
use Rattle.coded.specs.Takes.{numbers_by}
use Rattle.coded.specs.Packed.{PackedCoded}
use Rattle.tsorvenk.specs.Number.{Coded, coding_of, keeps_of, number_of, Returned}

-- a code that is none is refused with 1
pub record PackedUncoded (r : ℕ) (xs : List ℕ) (b : List ℤ → Buffers) (ts : List ℤ) (ys : List ℕ) (b' : List ℤ → Buffers) (ts' : List ℤ) : Type 0 where
  pub number : r ≡ number_of (Refused 1)
  pub bytes_kept : ys ≡ xs
  pub kept : b' ≡ b
  pub totals_kept : ts' ≡ ts

-- the number r is that of the answer to the call c on the bytes xs, as in `StepAnswers`
pub record PackedStepAnswers
    (mode form coding keeps : ℕ) (c : Call) (p : Choices) (xs : List ℕ) (b : List ℤ → Buffers) (ts : List ℤ) (r : ℕ) (ys : List ℕ) (b' : List ℤ → Buffers)
    (ts' : List ℤ) : Type 0 where
  pub known : Coded mode form coding keeps → Returned number_of
      (λ a. PackedCoded (numbers_by (coding_of coding) c.mode c.form) (keeps_by (keeps_of keeps) c.form) c p xs b ts a ys b' ts') r
  pub unknown : (Coded mode form coding keeps → ⊥) → PackedUncoded r xs b ts ys b' ts'
