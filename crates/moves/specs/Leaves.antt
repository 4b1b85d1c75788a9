-- A task on columns: what it asks and what it leaves, for any rows that have these columns.
use Rattle.std.specs.Prelude.{ℕ, ◌^◌, ◌<◌, ◌≡◌, Bool, true, false, List, [], length, get_or, ℤ}
use Rattle.paper.specs.declared.Form.{Form}
use Rattle.paper.specs.Answer.Cases.{Answer, Answer.Refused, Answer.Idle, Answer.Held, Answer.Moved}
use Rattle.paper.specs.Panel.Input.{Call, Choices, Buffers, pattern, size}
use Rattle.paper.specs.Panel.Made.{buffers_of}
use Rattle.paper.specs.Panel.Takes.{labels_by, moves}
use Rattle.paper.specs.Refusal.Kept.{Valid}
use Rattle.paper.specs.Answer.Move.{Answers}
use Rattle.columns.specs.Column.{Columns}
use Rattle.columns.specs.Rows.{Written}

-- the columns are of some rows that are tested. A form that labels takes no members, so these may be any
pub record RunAsks (c : Call) (p : Choices) (cols news labels grey_labels counts sizes found grey_found : List ℕ) : Type 0 where
  pub rows : List ℤ
  pub columns : Columns c.lattice.n (size c) (pattern c rows) cols
  pub labelled : labels_by c.form ≡ true
  pub valid : Valid c p (buffers_of rows labels grey_labels counts sizes [] found grey_found)
  pub news_long : length news ≡ c.lattice.n

-- the buffers beside the spins and the members, which are lent to no task on columns
abbrev pub Beside : Type 0
Beside = List ℤ → List ℕ → Buffers

abbrev pub beside_of : List ℕ → List ℕ → List ℕ → List ℕ → List ℕ → List ℕ → Beside
beside_of labels grey_labels counts sizes found grey_found xs members = buffers_of xs labels grey_labels counts sizes members found grey_found

-- an answer with which columns may have changed
abbrev pub changes : Form → Answer → Bool
changes f (Refused r) = false
changes f Idle = false
changes f Held = false
changes f Moved = moves f

-- rows that have the columns before, and those written from the columns after: the answer is theirs
pub record RunLeaves (c : Call) (p : Choices) (cols : List ℕ) (b : Beside) (a : Answer) (new : List ℕ) (b' : Beside) : Type 0 where
  pub long : length new ≡ c.lattice.n
  pub narrow : (i : ℕ) → i < c.lattice.n → get_or new i 0 < 2 ^ size c
  pub still : changes c.form a ≡ false → new ≡ cols
  pub answers :
      (xs ys : List ℤ) (members : List ℕ) → Valid c p (b xs members) → Columns c.lattice.n (size c) (pattern c xs) cols
      → Written c.lattice.n (size c) c.group new xs ys → Answers c p (b xs members) a (b' ys members)
