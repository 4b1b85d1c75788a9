-- The rules on how the text is spelt: the first eight of a frame's, which the others follow.
use Rattle.std.specs.Prelude.{ℕ, ◌*◌, ◌<◌, ◌≡◌, refl, List, [], ◌∷◌, ◌++◌, length}
use Rattle.std.proofs.Common.{inl, inr, arith}
use Rattle.paper.specs.Refusal.Rule.{Rule, rule, Kept, Broken}
use Rattle.paper.specs.Refusal.Rules.{AllSystems, Spins, Grouped, Chosen}
use Rattle.paper.specs.Answer.Frame.{next, Spelt, Frame, frame_lattice, frame_buffers, frame_call, frame_choices}
use Rattle.paper.specs.Answer.Frame.{group_bytes, FrameSizes, HasBack, GroupSize, frame_rules}
use Rattle.paper.specs.Refusal.Verdict.{kept_both, broken_first, broken_later}

abbrev pub line2 : List ℕ → List ℕ
line2 text = next text

abbrev pub line3 : List ℕ → List ℕ
line3 text = next (line2 text)

abbrev pub line4 : List ℕ → List ℕ
line4 text = next (line3 text)

abbrev pub line5 : List ℕ → List ℕ
line5 text = next (line4 text)

abbrev pub spelling_rules : List ℕ → List Rule
spelling_rules text =
    rule 11 (Frame 0x10 4 text)
    ∷ rule 1 (FrameSizes (frame_lattice text []))
    ∷ rule 11 (Frame 0x11 ((frame_lattice text []).s * (frame_lattice text []).n) (line2 text))
    ∷ rule 11 (Frame 0x12 (2 * ((frame_lattice text []).n * (frame_lattice text []).d)) (line3 text))
    ∷ rule 11 (Spelt 0x13 (line4 text))
    ∷ rule 1 (GroupSize (length (group_bytes text)))
    ∷ rule 11 (Frame 0x14 ((frame_lattice text []).n * length (group_bytes text)) (line5 text))
    ∷ rule 11 (next (line5 text) ≡ [])
    ∷ []

abbrev pub value_rules : List ℕ → List Rule
value_rules text =
    rule 3 (Spins (frame_lattice text []).n (AllSystems (frame_lattice text []).s) (frame_buffers text).spins)
    ∷ rule 4 (HasBack text)
    ∷ rule 5 (Grouped (frame_lattice text []).s (frame_call text []).group)
    ∷ rule 9 (Chosen (frame_call text []) (frame_choices text))
    ∷ []

pub rules_are : (text : List ℕ) → frame_rules text ≡ spelling_rules text ++ value_rules text
rules_are text = refl

-- ---- rules behind others
-- a text that breaks one of the eight is refused so; one that keeps them is refused by the others
pub misspelt : (text : List ℕ) (c : ℕ) → Broken (spelling_rules text) c → Broken (frame_rules text) c
misspelt text c b = broken_first (spelling_rules text) (value_rules text) c b

pub misvalued : (text : List ℕ) (c : ℕ) → Kept (spelling_rules text) → Broken (value_rules text) c → Broken (frame_rules text) c
misvalued text c a b = broken_later (spelling_rules text) (value_rules text) c a b

pub all_kept : (text : List ℕ) → Kept (spelling_rules text) → Kept (value_rules text) → Kept (frame_rules text)
all_kept text a b = kept_both (spelling_rules text) (value_rules text) a b

-- ---- every rule's number has two decimal digits
abbrev pub TwoDecimal : List Rule → Type 0
TwoDecimal [] = Unit {0}
TwoDecimal (r ∷ rs) = (r.number < 100) × TwoDecimal rs

pub broken_small : (rs : List Rule) (c : ℕ) → TwoDecimal rs → Broken rs c → c < 100
broken_small [] c s b = absurd b
broken_small (r ∷ rs) c s (inl b) = rw (← b.1) s.0
broken_small (r ∷ rs) c s (inr b) = broken_small rs c s.1 b.1

pub misspelt_small : (text : List ℕ) (c : ℕ) → Broken (spelling_rules text) c → c < 100
misspelt_small text c b = broken_small (spelling_rules text) c (omega arith) b

-- ---- the eight by name
pub record Spelling (text : List ℕ) : Type 0 where
  pub sizes_line : Frame 0x10 4 text
  pub sizes : FrameSizes (frame_lattice text [])
  pub spins_line : Frame 0x11 ((frame_lattice text []).s * (frame_lattice text []).n) (line2 text)
  pub fwd_line : Frame 0x12 (2 * ((frame_lattice text []).n * (frame_lattice text []).d)) (line3 text)
  pub group_line : Spelt 0x13 (line4 text)
  pub group_size : GroupSize (length (group_bytes text))
  pub perms_line : Frame 0x14 ((frame_lattice text []).n * length (group_bytes text)) (line5 text)
  pub ended : next (line5 text) ≡ []

pub spelling_of : (text : List ℕ) → Kept (spelling_rules text) → Spelling text
spelling_of text k = record {
  sizes_line = k.0;
  sizes = k.1.0;
  spins_line = k.1.1.0;
  fwd_line = k.1.1.1.0;
  group_line = k.1.1.1.1.0;
  group_size = k.1.1.1.1.1.0;
  perms_line = k.1.1.1.1.1.1.0;
  ended = k.1.1.1.1.1.1.1.0;
}

pub spelling_kept : (text : List ℕ) → Spelling text → Kept (spelling_rules text)
spelling_kept text s = (s.sizes_line, (s.sizes, (s.spins_line, (s.fwd_line, (s.group_line, (s.group_size, (s.perms_line, (s.ended, tt))))))))
