-- What `tsorvenk_label` answers: 0 where all is written, else the refusal.
use Rattle.std.specs.Prelude.{ℕ}
use Rattle.label.specs.Entry.{Request, Lent, Answers, labelling_number}
use Rattle.tsorvenk.specs.Number.{Returned}

abbrev pub LabelAnswers : Request → Lent → ℕ → Lent → Type 0
LabelAnswers q b r b' = Returned labelling_number (λ a. Answers q b a b') r
