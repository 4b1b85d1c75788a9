-- What reading and its steps find and what becomes of an answer, as the promises tell it apart.
use Rattle.std.specs.Prelude.{ℕ, ◌≡◌, refl, Option, Some, None, Result, Ok, Err}
use Rattle.std.proofs.Common.{sym, ◌∙◌, ap}
use Rattle.frame_lines.specs.declared.FrameLine.{FrameLine}
use Rattle.frame_lines.specs.declared.Places.{Places}
use Rattle.frame_lines.specs.declared.Sizes.{Sizes}
use Rattle.paper.specs.declared.Group.{Group}

-- a text: refused with a number, or a panel of these sizes
pub data Found : Type 0 where
  Fault : ℕ → Found
  Panel : Sizes → Found

-- with the group, which a refused text has not: then it is empty
pub record Frames : Type 0 where
  pub found : Found
  pub group : Group

-- an answer: so many bytes are written; or there is no room for it, and nothing is written
pub data Written : Type 0 where
  Wrote : ℕ → Written
  NoRoom : Written

abbrev pub written_of : Option ℕ → Written
written_of (Some m) = Wrote m
written_of None = NoRoom

-- each answer is of one result
abbrev of_written : Written → Option ℕ
of_written (Wrote m) = Some m
of_written NoRoom = None

written_again : (a : Option ℕ) → of_written (written_of a) ≡ a
written_again (Some m) = refl
written_again None = refl

pub written_of_injective : (a b : Option ℕ) → written_of a ≡ written_of b → a ≡ b
written_of_injective a b e = sym (written_again a) ∙ (ap of_written e ∙ written_again b)

-- a text: refused with a number, or its lines have these places
pub data Scanned : Type 0 where
  Wrong : ℕ → Scanned
  Whole : Places → Scanned

-- a line: not one of the tag asked for, or one of so many bytes, and where the next begins
pub data Line : Type 0 where
  Bad : Line
  Good : ℕ → ℕ → Line

-- where the next line begins, behind one of the tag and the bytes asked for
pub data Next : Type 0 where
  Nowhere : Next
  At : ℕ → Next

abbrev pub scanned : Result Places ℕ → Scanned
scanned (Ok p) = Whole p
scanned (Err r) = Wrong r

abbrev pub line_found : Option FrameLine → Line
line_found (Some f) = Good f.count f.next
line_found None = Bad

abbrev pub next_found : Option ℕ → Next
next_found (Some p) = At p
next_found None = Nowhere
