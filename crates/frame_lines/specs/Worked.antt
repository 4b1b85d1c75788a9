-- Worked refusals of spelling and size.
use Rattle.std.specs.Prelude.{ℕ, ◌≡◌, refl, true, List, [], ◌∷◌, ◌++◌, length, get_or}
use Rattle.std.proofs.Common.{ap, inl, inr, arith}
use Rattle.lemmas.specs.Bools.{every, below_test, below_by}
use Rattle.paper.specs.Refusal.Rule.{Broken}
use Rattle.paper.specs.Answer.Frame.{hex, unhex, first_line, next, bytes, Spelt}
use Rattle.frame_lines.specs.Spelling.{spelling_rules}

spelt_by : (tag : ℕ) (text : List ℕ) → text ≡ hex (tag ∷ bytes text) ++ (10 ∷ next text)
    → below_test (length (bytes text)) 256 (λ k. get_or (bytes text) k 0) ≡ true → Spelt tag text
spelt_by tag text e h = record { is = e; small = below_by (length (bytes text)) 256 (λ k. get_or (bytes text) k 0) h }

-- 257 sites, whatever follows: 1 at once
abbrev wide_text : List ℕ
wide_text =
    49 ∷ 48 ∷ 48 ∷ 49 ∷ 48 ∷ 49 ∷ 48 ∷ 49 ∷ 48 ∷ 50 ∷ 10
    ∷ 49
    ∷ []

pub wide : Broken (spelling_rules wide_text) 1
unfolding hex unhex first_line next every
wide = inr (record { spelt = spelt_by 0x10 wide_text refl refl; long = refl }, inl ((λ s. let h = s.n_high in omega arith), refl))

-- no line feed: 11, and not 1 for its sizes
abbrev open_text : List ℕ
open_text =
    49 ∷ 48 ∷ 48 ∷ 48 ∷ 48 ∷ 48 ∷ 48 ∷ 49 ∷ 48 ∷ 50
    ∷ []

pub open_line : Broken (spelling_rules open_text) 11
unfolding hex unhex first_line next every
open_line = inl ((λ f. let h = ap (length {A = ℕ}) f.spelt.is in omega arith), refl)

-- a group of nine and no fifth line: 1
abbrev nine_text : List ℕ
nine_text =
    49 ∷ 48 ∷ 48 ∷ 48 ∷ 48 ∷ 51 ∷ 48 ∷ 49 ∷ 48 ∷ 50 ∷ 10
    ∷ 49 ∷ 49 ∷ 48 ∷ 49 ∷ 48 ∷ 49 ∷ 102 ∷ 102 ∷ 48 ∷ 49 ∷ 102 ∷ 102 ∷ 102 ∷ 102 ∷ 10
    ∷ 49 ∷ 50 ∷ 48 ∷ 48 ∷ 48 ∷ 49 ∷ 48 ∷ 48 ∷ 48 ∷ 50 ∷ 48 ∷ 48 ∷ 48 ∷ 48 ∷ 10
    ∷ 49 ∷ 51 ∷ 48 ∷ 48 ∷ 48 ∷ 48 ∷ 48 ∷ 48 ∷ 48 ∷ 48 ∷ 48 ∷ 48 ∷ 48 ∷ 48 ∷ 48 ∷ 48 ∷ 48 ∷ 48 ∷ 48 ∷ 48 ∷ 10
    ∷ []

pub nine : Broken (spelling_rules nine_text) 1
unfolding hex unhex first_line next every
nine = inr (
  record { spelt = spelt_by 0x10 nine_text refl refl; long = refl },
  inr (
    record { n_low = omega arith; n_high = omega arith; d_low = omega arith; d_high = omega arith; s_low = omega arith; s_high = omega arith },
    inr (
      record { spelt = spelt_by 0x11 (next nine_text) refl refl; long = refl },
      inr (
        record { spelt = spelt_by 0x12 (next (next nine_text)) refl refl; long = refl },
        inr (spelt_by 0x13 (next (next (next nine_text))) refl refl, inl ((λ s. let h = s.high in omega arith), refl)),
      ),
    ),
  ),
)

-- the same with half a byte more: 11
abbrev half_text : List ℕ
half_text =
    49 ∷ 48 ∷ 48 ∷ 48 ∷ 48 ∷ 51 ∷ 48 ∷ 49 ∷ 48 ∷ 50 ∷ 10
    ∷ 49 ∷ 49 ∷ 48 ∷ 49 ∷ 48 ∷ 49 ∷ 102 ∷ 102 ∷ 48 ∷ 49 ∷ 102 ∷ 102 ∷ 102 ∷ 102 ∷ 10
    ∷ 49 ∷ 50 ∷ 48 ∷ 48 ∷ 48 ∷ 49 ∷ 48 ∷ 48 ∷ 48 ∷ 50 ∷ 48 ∷ 48 ∷ 48 ∷ 48 ∷ 10
    ∷ 49 ∷ 51 ∷ 48 ∷ 48 ∷ 48 ∷ 48 ∷ 48 ∷ 48 ∷ 48 ∷ 48 ∷ 48 ∷ 48 ∷ 48 ∷ 48 ∷ 48 ∷ 48 ∷ 48 ∷ 48 ∷ 48 ∷ 48 ∷ 48 ∷ 10
    ∷ []

pub half : Broken (spelling_rules half_text) 11
unfolding hex unhex first_line next every
half = inr (
  record { spelt = spelt_by 0x10 half_text refl refl; long = refl },
  inr (
    record { n_low = omega arith; n_high = omega arith; d_low = omega arith; d_high = omega arith; s_low = omega arith; s_high = omega arith },
    inr (
      record { spelt = spelt_by 0x11 (next half_text) refl refl; long = refl },
      inr (
        record { spelt = spelt_by 0x12 (next (next half_text)) refl refl; long = refl },
        inl ((λ s. let h = ap (length {A = ℕ}) s.is in omega arith), refl),
      ),
    ),
  ),
)
