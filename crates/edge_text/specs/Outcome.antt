-- What stands at a place of a text, as the promises tell it apart: a number or a line with the place behind it, or nothing of that form.
-- The functions return them as an `Option`; no two results are one answer.
use Rattle.std.specs.Prelude.{ℕ, ◌≡◌, refl, Option, Some}
use Rattle.std.specs.Prelude.{None as Nothing}
use Rattle.std.proofs.Common.{sym, ◌∙◌, ap}
use Rattle.edge_text.specs.declared.Parsed.{Parsed}
use Rattle.edge_text.specs.declared.ParsedLine.{ParsedLine}

pub data Number : Type 0 where
  At : ℕ → ℕ → Number
  Bad : Number

pub data Line : Type 0 where
  Good : ℕ → ℕ → ℕ → ℕ → Line
  None : Line

abbrev pub number_found : Option Parsed → Number
number_found (Some p) = At p.value p.end
number_found Nothing = Bad

abbrev pub line_found : Option ParsedLine → Line
line_found (Some p) = Good p.from p.to p.code p.end
line_found Nothing = None

-- ---- each answer is of one result
abbrev parsed_of : Number → Option Parsed
parsed_of (At v e) = Some (record { value = v; end = e })
parsed_of Bad = Nothing

number_again : (a : Option Parsed) → parsed_of (number_found a) ≡ a
number_again (Some p) = refl
number_again Nothing = refl

pub number_found_injective : (a b : Option Parsed) → number_found a ≡ number_found b → a ≡ b
number_found_injective a b e = sym (number_again a) ∙ (ap parsed_of e ∙ number_again b)

abbrev parsed_line_of : Line → Option ParsedLine
parsed_line_of (Good i j x e) = Some (record { from = i; to = j; code = x; end = e })
parsed_line_of None = Nothing

line_again : (a : Option ParsedLine) → parsed_line_of (line_found a) ≡ a
line_again (Some p) = refl
line_again Nothing = refl

pub line_found_injective : (a b : Option ParsedLine) → line_found a ≡ line_found b → a ≡ b
line_found_injective a b e = sym (line_again a) ∙ (ap parsed_line_of e ∙ line_again b)
