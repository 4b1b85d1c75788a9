-- What the codec's functions answer.
use Rattle.std.specs.Prelude.{ℕ, ◌+◌, ◌*◌, ◌≤◌, ◌<◌, ◌≡◌, List, [], length, get_or, drop}
use Rattle.std.proofs.Common.{◌∙◌, ap, arith}
use Rattle.lemmas.specs.Cells.{table}
use Rattle.paper.specs.declared.Group.{Group}
use Rattle.paper.specs.Panel.Input.{Lattice}
use Rattle.paper.specs.Refusal.Rule.{Broken}
use Rattle.paper.specs.Answer.Frame.{next, Spelt, Frame, FrameSizes, group_bytes, frame_lattice}
use Rattle.frame_text.specs.Line.{DigitsEnd}
use Rattle.frame_lines.specs.Lines.{byte_at, line_of, line_next}
use Rattle.frame_lines.specs.Spelling.{line2, line3, line4, line5, Spelling, spelling_rules}
use Rattle.frame_lines.specs.declared.Sizes.{Sizes}
use Rattle.frame_lines.specs.declared.Places.{Places}
use Rattle.frame_lines.specs.Outcome.{Scanned, Line, Next}
use Rattle.frame_lines.specs.Outcome.Scanned.{Wrong, Whole}
use Rattle.frame_lines.specs.Outcome.Line.{Bad, Good}
use Rattle.frame_lines.specs.Outcome.Next.{Nowhere, At}

-- a frame at the place a, behind which the next line begins at p
pub record Passed (tag m : ℕ) (t : List ℕ) (a p : ℕ) : Type 0 where
  pub frame : Frame tag m (drop a t)
  pub behind : next (drop a t) ≡ drop p t
  pub within : p ≤ length t

pub passed_of : {tag m m' : ℕ} {t : List ℕ} {a p : ℕ} → m ≡ m' → Passed tag m t a p → Passed tag m' t a p
passed_of e k = record { frame = record { spelt = k.frame.spelt; long = k.frame.long ∙ e }; behind = k.behind; within = k.within }

pub passed_line : (tag m : ℕ) (t : List ℕ) (a e : ℕ) → tag < 256 → DigitsEnd t a e → e < length t → get_or t e 0 ≡ 10 → a + 2 * m + 2 ≡ e
    → byte_at t a ≡ tag → Passed tag m t a (e + 1)
passed_line tag m t a e small d l g q b = record { frame = f; behind = line_next tag m t a small f ∙ ap (λ (k : ℕ). drop k t) there; within = omega arith }
  where
    f : Frame tag m (drop a t)
    f = line_of tag m t a e d l g q b

    there : a + 2 * m + 3 ≡ e + 1
    there = omega arith

-- no line at a is spelt with the tag, or one is, of m bytes behind it
abbrev pub LineAt : ℕ → List ℕ → ℕ → Line → Type 0
LineAt tag t a Bad = Spelt tag (drop a t) → ⊥
LineAt tag t a (Good m p) = Passed tag m t a p

-- of m bytes
abbrev pub AfterAs : ℕ → ℕ → List ℕ → ℕ → Next → Type 0
AfterAs tag m t a Nowhere = Frame tag m (drop a t) → ⊥
AfterAs tag m t a (At p) = Passed tag m t a p

-- a line of m bytes, and room for so many entries
pub record Lent (tag m : ℕ) (text : List ℕ) (count room : ℕ) : Type 0 where
  pub frame : Frame tag m text
  pub fits : count ≤ room

-- ---- the first line, the group line
abbrev pub sizes_in : List ℕ → Sizes
sizes_in text = record { n = (frame_lattice text []).n; d = (frame_lattice text []).d; s = (frame_lattice text []).s }

abbrev pub lattice_of : Sizes → Lattice
lattice_of z = record { n = z.n; d = z.d; s = z.s; fwd = []; bwd = []; couplings = [] }

abbrev pub group_in : List ℕ → Group
group_in bs = record { len = length bs; systems = table 8 (λ k. get_or bs k 0) }

-- ---- the whole text, line by line
pub record Headed (t : List ℕ) (z : Sizes) (spins : ℕ) : Type 0 where
  pub sizes_line : Frame 0x10 4 t
  pub sizes : z ≡ sizes_in t
  pub range : FrameSizes (frame_lattice t [])
  pub spins_at : line2 t ≡ drop spins t
  pub within : spins ≤ length t

pub record Tabled (t : List ℕ) (z : Sizes) (spins fwd group : ℕ) : Type 0 where
  pub head : Headed t z spins
  pub spins_line : Frame 0x11 ((frame_lattice t []).s * (frame_lattice t []).n) (line2 t)
  pub fwd_line : Frame 0x12 (2 * ((frame_lattice t []).n * (frame_lattice t []).d)) (line3 t)
  pub fwd_at : line3 t ≡ drop fwd t
  pub group_at : line4 t ≡ drop group t
  pub within : group ≤ length t

pub record Placed (t : List ℕ) (p : Places) : Type 0 where
  pub spelling : Spelling t
  pub sizes : p.sizes ≡ sizes_in t
  pub len : p.len ≡ length (group_bytes t)
  pub spins_at : line2 t ≡ drop p.spins t
  pub fwd_at : line3 t ≡ drop p.fwd t
  pub group_at : line4 t ≡ drop p.group t
  pub perms_at : line5 t ≡ drop p.perms t

abbrev pub ScannedAs : List ℕ → Scanned → Type 0
ScannedAs t (Wrong r) = Broken (spelling_rules t) r
ScannedAs t (Whole p) = Placed t p
