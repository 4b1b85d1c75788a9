-- What the forms that label leave of the first step.
use Rattle.std.specs.Prelude.{ℕ, ◌≡◌, true, List, [], ℤ, Float}
use Rattle.paper.specs.declared.Task.{Task}
use Rattle.paper.specs.Answer.Cases.{Answer, Answer.Refused, Answer.Idle, Answer.Held, Answer.Moved}
use Rattle.paper.specs.Panel.Input.{Call, Choices, Buffers}
use Rattle.paper.specs.Panel.Made.{call_of, buffers_of}
use Rattle.paper.specs.Panel.Takes.{labels_by}
use Rattle.paper.specs.Refusal.Kept.{Valid}
use Rattle.paper.specs.Answer.Move.{SeenAll, Seen}
use Rattle.laws.specs.Forms.{forms_apart}
use Rattle.moves.specs.Leaves.{Beside}
use Rattle.moves.specs.Tested.{Tested}
use Rattle.moves.specs.Steps.{ColumnsOf}
use Rattle.moves.specs.Labelling.{Foretells, TaskFor}
use Rattle.task_steps.specs.Label.{Says}

-- tested input; what such a form does not take may be any
pub record LabelledAsks
    (t : Task) (fwd pins : List ℕ) (couplings : List ℤ) (cuts : List Float) (xs : List ℤ) (labels grey_labels counts sizes found grey_found : List ℕ)
    : Type 0 where
  pub bwd : List ℕ
  pub choices : Choices
  pub labelled : labels_by t.form ≡ true
  pub valid : Valid (call_of t fwd bwd pins couplings cuts) choices (buffers_of xs labels grey_labels counts sizes [] found grey_found)

-- the answer, and all that is written beside the spins. No backward neighbour is read
pub record LabelledSees (c : Call) (xs : List ℤ) (b : Beside) (a : Answer) (b' : Beside) : Type 0 where
  pub says : Says c xs a
  pub seen : (members : List ℕ) → SeenAll c (b xs members) (b' xs members)

abbrev pub LabelledLeaves : Task → List ℕ → List ℕ → List ℤ → List Float → List ℤ → Beside → Answer → Beside → Type 0
LabelledLeaves t fwd pins couplings cuts xs b a b' = (bwd : List ℕ) → LabelledSees (call_of t fwd bwd pins couplings cuts) xs b a b'

pub says_so : (c : Call) (xs : List ℤ) (a : Answer) → Foretells c xs a → Says c xs a
says_so c xs (Refused r) s = s
says_so c xs Idle s = s
says_so c xs Held s = record { some = s.some; one = s.one; held = s.held }
says_so c xs Moved s = record { some = s.some; free = s.free }

-- of a form that labels that is all it writes
pub labelled_seen : {c : Call} {b b' : Buffers} → labels_by c.form ≡ true → SeenAll c b b' → Seen c b b'
labelled_seen {c} l s = record { all = λ _. s; one = λ g. forms_apart c.form l g }

-- from what the label step of a task on columns leaves
pub labelled_leaves :
    (t : Task) (fwd pins : List ℕ) (couplings : List ℤ) (cuts : List Float) (xs : List ℤ) {cols : List ℕ} {b b' : Beside} {flags tally greyTally : List ℕ}
    (a : Answer) → TaskFor t fwd pins couplings cuts cols b flags tally greyTally b' a → Tested t.mode t.n t.d fwd t.group xs
    → ColumnsOf t xs cols → LabelledLeaves t fwd pins couplings cuts xs b a b'
labelled_leaves t fwd pins couplings cuts xs a f r w bwd =
    let l = f bwd xs r w in
    record { says = says_so (call_of t fwd bwd pins couplings cuts) xs a l.says; seen = l.seen }
