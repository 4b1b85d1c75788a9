-- What the calls answer by which a sweep's tasks are run apart (14/14): the sweep's tests, and the three steps of a task.
use Rattle.std.specs.Prelude.{ℕ, ◌≡◌, List, ℤ}
use Rattle.paper.specs.Panel.Input.{Call, Choices, Buffers}
use Rattle.paper.specs.Panel.Takes.{keeps_by}
use Rattle.paper.specs.Refusal.Verdict.{Verdict}
use Rattle.paper.specs.Answer.Task.{Sweep}
use Rattle.paper.specs.Answer.Totals.{swept_rules}
use Rattle.task_steps.specs.Label as steps
use Rattle.task_steps.specs.Choose.{Found, ChooseAnswers}
use Rattle.task_steps.specs.Write.{Shape, Writing, WriteAnswers}
use Rattle.tsorvenk.specs.Number.{Coded, keeps_of, number_of, Returned}

-- permutations are rows here: the coding 0
abbrev pub ByRows : ℕ → ℕ → ℕ → Type 0
ByRows mode form keeps = Coded mode form 0 keeps

-- the number r is the verdict on the sweep w; a code that is none is refused with 1
pub record TestNumbers (mode form keeps : ℕ) (w : Sweep) (b : Buffers) (ts : List ℤ) (r : ℕ) : Type 0 where
  pub known : ByRows mode form keeps → Verdict (swept_rules (keeps_by (keeps_of keeps) w.form) w b ts) r
  pub unknown : (ByRows mode form keeps → ⊥) → r ≡ 1

pub record Unlabelled (r : ℕ) (b : Buffers) (blue : List ℕ) (b' : Buffers) (blue' : List ℕ) : Type 0 where
  pub number : r ≡ 1
  pub kept : b' ≡ b
  pub blue_kept : blue' ≡ blue

pub record LabelNumbers (mode form : ℕ) (c : Call) (p : Choices) (b : Buffers) (blue : List ℕ) (r : ℕ) (b' : Buffers) (blue' : List ℕ) : Type 0 where
  pub known : ByRows mode form 0 → Returned number_of (λ a. steps.LabelAnswers c p b blue a b' blue') r
  pub unknown : (ByRows mode form 0 → ⊥) → Unlabelled r b blue b' blue'

pub record Unchosen (r : ℕ) (area area' : List ℕ) : Type 0 where
  pub number : r ≡ 1
  pub kept : area' ≡ area

pub record ChooseNumbers (mode form : ℕ) (c : Call) (p : Choices) (xs : List ℤ) (f : Found) (area : List ℕ) (r : ℕ) (area' : List ℕ) : Type 0 where
  pub known : ByRows mode form 0 → ChooseAnswers c p xs f area r area'
  pub unknown : (ByRows mode form 0 → ⊥) → Unchosen r area area'

pub record Unwritten (r : ℕ) (l : Writing) (ys us : List ℤ) : Type 0 where
  pub number : r ≡ 1
  pub kept : ys ≡ l.rows
  pub totals_kept : us ≡ l.totals

pub record WriteNumbers (mode form keeps : ℕ) (h : Shape) (l : Writing) (r : ℕ) (ys us : List ℤ) : Type 0 where
  pub known : ByRows mode form keeps → WriteAnswers (keeps_by (keeps_of keeps) h.form) h l r ys us
  pub unknown : (ByRows mode form keeps → ⊥) → Unwritten r l ys us
