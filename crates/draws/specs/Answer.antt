-- The answer of a draw: the number of its refusal, or 0, with what is drawn and the source that it leaves. The functions return it as a `Result`, whose
-- refusal is told alone, for it leaves the source as lent; no two results are one answer.
use Rattle.std.specs.Prelude.{ℕ, ◌≡◌, refl, List, [], ◌∷◌, Result, Ok, Err}
use Rattle.std.proofs.Common.{sym, ◌∙◌, ap}
use Rattle.paper.specs.declared.Refusal.{Refusal}
use Rattle.paper.specs.Refusal.Numbers.{number_of, tested_of, tested_of_verdict}
use Rattle.draws.specs.declared.Source.{Source}
use Rattle.draws.specs.declared.Drawn as Drawing
use Rattle.draws.specs.declared.Row as Rowing

pub record Drawn : Type 0 where
  pub refusal : ℕ
  pub value : ℕ
  pub source : Source

pub record Row : Type 0 where
  pub refusal : ℕ
  pub row : List ℕ
  pub source : Source

-- where the value goes into a lent buffer
pub record Left : Type 0 where
  pub refusal : ℕ
  pub source : Source

-- ---- which answer a result is, where s was lent
abbrev pub drawn_of : Source → Result Drawing.Drawn Refusal → Drawn
drawn_of s (Ok d) = record { refusal = 0; value = d.value; source = d.source }
drawn_of s (Err e) = record { refusal = number_of e; value = 0; source = s }

abbrev pub row_of : Source → Result Rowing.Row Refusal → Row
row_of s (Ok r) = record { refusal = 0; row = r.row; source = r.source }
row_of s (Err e) = record { refusal = number_of e; row = 0 ∷ 0 ∷ 0 ∷ 0 ∷ 0 ∷ 0 ∷ 0 ∷ 0 ∷ []; source = s }

abbrev pub left_of : Source → Result Source Refusal → Left
left_of s (Ok t) = record { refusal = 0; source = t }
left_of s (Err e) = record { refusal = number_of e; source = s }

-- ---- each answer is of one result
abbrev told : {A : Type 0} → A → Result (Unit {0}) Refusal → Result A Refusal
told a (Ok u) = Ok a
told a (Err e) = Err e

abbrev of_drawn : Drawn → Result Drawing.Drawn Refusal
of_drawn d = told (record { value = d.value; source = d.source }) (tested_of d.refusal)

drawn_again : (s : Source) (r : Result Drawing.Drawn Refusal) → of_drawn (drawn_of s r) ≡ r
drawn_again s (Ok d) = refl
drawn_again s (Err e) = ap (told (record { value = 0; source = s })) (tested_of_verdict (Err e))

pub drawn_of_injective : (s : Source) (x y : Result Drawing.Drawn Refusal) → drawn_of s x ≡ drawn_of s y → x ≡ y
drawn_of_injective s x y e = sym (drawn_again s x) ∙ (ap of_drawn e ∙ drawn_again s y)

abbrev of_row : Row → Result Rowing.Row Refusal
of_row r = told (record { row = r.row; source = r.source }) (tested_of r.refusal)

row_again : (s : Source) (r : Result Rowing.Row Refusal) → of_row (row_of s r) ≡ r
row_again s (Ok d) = refl
row_again s (Err e) = ap (told (record { row = 0 ∷ 0 ∷ 0 ∷ 0 ∷ 0 ∷ 0 ∷ 0 ∷ 0 ∷ []; source = s })) (tested_of_verdict (Err e))

pub row_of_injective : (s : Source) (x y : Result Rowing.Row Refusal) → row_of s x ≡ row_of s y → x ≡ y
row_of_injective s x y e = sym (row_again s x) ∙ (ap of_row e ∙ row_again s y)

abbrev of_left : Left → Result Source Refusal
of_left l = told l.source (tested_of l.refusal)

left_again : (s : Source) (r : Result Source Refusal) → of_left (left_of s r) ≡ r
left_again s (Ok t) = refl
left_again s (Err e) = ap (told s) (tested_of_verdict (Err e))

pub left_of_injective : (s : Source) (x y : Result Source Refusal) → left_of s x ≡ left_of s y → x ≡ y
left_of_injective s x y e = sym (left_again s x) ∙ (ap of_left e ∙ left_again s y)

-- ---- what is drawn and the source, without the number: of a refusal too
abbrev pub taken : Drawn → Drawing.Drawn
taken d = record { value = d.value; source = d.source }

abbrev pub taken_row : Row → Rowing.Row
taken_row r = record { row = r.row; source = r.source }
