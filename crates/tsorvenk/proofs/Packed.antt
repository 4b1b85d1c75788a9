-- The returned number of a call on bytes is that of the answer that was given.
use Prim.Native.Nat.{ℕ}
use mathlib.Core.Path.{◌≡◌, refl}
use mathlib.Core.Bool.{Bool}
use mathlib.Core.List.{List}
use lib.IntN.{ℤ}
use Rattle.paper.specs.Answer.Cases.{Answer}
use Rattle.paper.specs.Panel.Input.{Call, Choices, Buffers}
use Rattle.paper.specs.Panel.Takes.{keeps_by}
use Rattle.coded.specs.Takes.{numbers_by}
use Rattle.coded.specs.Packed.{PackedCoded}
use Rattle.tsorvenk.specs.Number.{Coded, coding_of, keeps_of, number_of}
use Rattle.tsorvenk.specs.Packed.{PackedStepAnswers}

module _ {mode form coding keeps : ℕ} {xs : List ℕ} {b : List ℤ → Buffers} {ts : List ℤ} where
  pub packed_unknown : {c : Call} {p : Choices} → (Coded mode form coding keeps → ⊥) → PackedStepAnswers mode form coding keeps c p xs b ts 1 xs b ts
  packed_unknown none = record {
    known = λ k. absurd (none k);
    unknown = λ _. record { number = refl; bytes_kept = refl; kept = refl; totals_kept = refl };
  }

  module _ {x q : Bool} {c c' : Call} {p p' : Choices} {ys : List ℕ} {b' : List ℤ → Buffers} {ts' : List ℤ} {k : ℕ} where
    pub packed_known :
        (a : Answer)
        → k ≡ number_of a
        → x ≡ numbers_by (coding_of coding) c'.mode c'.form
        → q ≡ keeps_by (keeps_of keeps) c'.form
        → c ≡ c'
        → p ≡ p'
        → Coded mode form coding keeps
        → PackedCoded x q c p xs b ts a ys b' ts'
        → PackedStepAnswers mode form coding keeps c' p' xs b ts k ys b' ts'
    packed_known a ek ex eq ec ep d h = record {
      known = λ _. record { answer = a; allowed = rw (ex, eq, ec, ep) at h; number = ek };
      unknown = λ none. absurd (none d);
    }
