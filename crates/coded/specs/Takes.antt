-- Where choices are numbers, and the choices that they stand for.
use Rattle.std.specs.Prelude.{ℕ, Bool, false, cond, List}
use Rattle.paper.specs.declared.Mode.{Mode}
use Rattle.paper.specs.declared.Form.{Form}
use Rattle.paper.specs.Panel.Input.{Choices}
use Rattle.paper.specs.Panel.Takes.{perms_by}
use Rattle.spelling.specs.Rows.{rows_of}
use Rattle.coded.specs.declared.Coding.{Coding}
use Rattle.coded.specs.declared.Coding.TheVariants.{Rows, Numbers}

-- choices are numbers where permutations are taken; where they are not, the coding is ignored
abbrev pub numbers_by : Coding → Mode → Form → Bool
numbers_by Rows mode form = false
numbers_by Numbers mode form = perms_by mode form

abbrev pub spelled : Bool → List ℕ → List ℕ
spelled coded vs = cond coded (rows_of vs) vs

abbrev pub spelled_choices : Bool → Choices → Choices
spelled_choices coded p = record { choices = spelled coded p.choices; greys = p.greys }
