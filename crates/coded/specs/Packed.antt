-- What a move on the bytes of a group answers whose permutations may be numbers.
use Rattle.std.specs.Prelude.{ℕ, Bool, List, ℤ}
use Rattle.paper.specs.Answer.Cases.{Answer}
use Rattle.paper.specs.Panel.Input.{Call, Choices, Buffers, size}
use Rattle.packed.specs.Packed.{Through}
use Rattle.coded.specs.Answer.{CodedAnswers}

abbrev pub PackedCoded :
    Bool → Bool → Call → Choices → List ℕ → (List ℤ → Buffers) → List ℤ → Answer → List ℕ → (List ℤ → Buffers) → List ℤ → Type 0
PackedCoded coded keeping c p xs b ts a ys b' ts' = Through (size c) (λ us r vs. CodedAnswers coded keeping c p (b us) ts r (b' vs) ts') xs a ys
