-- What reading a text answers and leaves in the lent buffers.
use Rattle.std.specs.Prelude.{ℕ, ◌*◌, ◌≤◌, ◌≡◌, refl, List, [], ◌++◌, map, drop, replicate, ℤ, Result, Ok, Err}
use Rattle.std.proofs.Common.{sym, ◌∙◌, ap}
use Rattle.paper.specs.declared.Group.{Group}
use Rattle.paper.specs.Refusal.Rule.{Broken}
use Rattle.paper.specs.Refusal.Verdict.{Verdict}
use Rattle.paper.specs.Answer.Frame.{bytes, words, signed, frame_call}
use Rattle.frame_lines.specs.Number.{found_number}
use Rattle.frame_lines.specs.Spelling.{line2, line3, line5, spelling_rules}
use Rattle.frame_lines.specs.Scan.{sizes_in, Placed}
use Rattle.frame_lines.specs.declared.Sizes.{Sizes}
use Rattle.frame_lines.specs.declared.Places.{Places}
use Rattle.frame_lines.specs.declared.Shape.{Shape}
use Rattle.frame_lines.specs.Outcome.{Found, Frames}
use Rattle.frame_lines.specs.Outcome.Found.{Fault, Panel}

-- room for the largest panel: 8 systems of 256 sites, 4 directions, groups of 8
pub record AnyPanelFits (s f p : ℕ) : Type 0 where
  pub spins : 2048 ≤ s
  pub fwd : 1024 ≤ f
  pub perms : 2048 ≤ p

-- what is known when the lines are read: the room, and the places
pub record LinesFit (text : List ℕ) (at : Places) (s f p : ℕ) : Type 0 where
  pub rooms : AnyPanelFits s f p
  pub placed : Placed text at

-- the lent buffers, before or after
pub record Held : Type 0 where
  pub spins : List ℤ
  pub fwd : List ℕ
  pub perms : List ℕ

-- the group of a text that is refused
abbrev pub no_group : Group
no_group = record { len = 0; systems = replicate 8 0 }

-- what `read` answers, with the group of a text that is refused
abbrev pub frames_of : Result Shape ℕ → Frames
frames_of (Ok shape) = record { found = Panel shape.sizes; group = shape.group }
frames_of (Err r) = record { found = Fault r; group = no_group }

-- each answer is of one result
abbrev of_found : Found → Group → Result Shape ℕ
of_found (Panel z) g = Ok (record { sizes = z; group = g })
of_found (Fault r) g = Err r

abbrev of_frames : Frames → Result Shape ℕ
of_frames f = of_found f.found f.group

frames_again : (a : Result Shape ℕ) → of_frames (frames_of a) ≡ a
frames_again (Ok shape) = refl
frames_again (Err r) = refl

pub frames_of_injective : (a b : Result Shape ℕ) → frames_of a ≡ frames_of b → a ≡ b
frames_of_injective a b e = sym (frames_again a) ∙ (ap of_frames e ∙ frames_again b)

-- the first broken rule has the number r, and nothing is written
pub record Misread (text : List ℕ) (b : Held) (r : ℕ) (g : Group) (a : Held) : Type 0 where
  pub why : Broken (spelling_rules text) r
  pub group : g ≡ no_group
  pub kept : a ≡ b

-- the rules are kept, and what the lines say stands at the front of the buffers; the rest is as it was
pub record Readout (text : List ℕ) (b : Held) (z : Sizes) (g : Group) (a : Held) : Type 0 where
  pub spelt : Verdict (spelling_rules text) (found_number (Panel z))
  pub sizes : z ≡ sizes_in text
  pub group : g ≡ (frame_call text []).group
  pub spins : a.spins ≡ map signed (bytes (line2 text)) ++ drop (z.s * z.n) b.spins
  pub fwd : a.fwd ≡ words (bytes (line3 text)) ++ drop (z.n * z.d) b.fwd
  pub perms : a.perms ≡ bytes (line5 text) ++ drop (z.n * g.len) b.perms

abbrev pub FoundAs : List ℕ → Held → Found → Group → Held → Type 0
FoundAs text b (Fault r) g a = Misread text b (found_number (Fault r)) g a
FoundAs text b (Panel z) g a = Readout text b z g a

abbrev pub ReadAs : List ℕ → Held → Frames → Held → Type 0
ReadAs text b r a = FoundAs text b r.found r.group a
