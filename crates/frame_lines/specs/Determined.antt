-- What each public function's promise allows for one input is one answer and one content of every lent buffer.
use Rattle.std.specs.Prelude.{ℕ, ◌*◌, ◌≡◌, List, ◌++◌, map, drop, Option, Result}
use Rattle.std.proofs.Common.{sym, ◌∙◌, ap}
use Rattle.paper.specs.declared.Group.{Group}
use Rattle.paper.specs.Refusal.Rule.{broken_unique, broken_not_kept}
use Rattle.paper.specs.Answer.Frame.{bytes, words, signed}
use Rattle.frame_lines.specs.declared.Sizes.{Sizes}
use Rattle.frame_lines.specs.declared.Shape.{Shape}
use Rattle.frame_lines.specs.Outcome.{Found, Frames}
use Rattle.frame_lines.specs.Outcome.Found.{Fault, Panel}
use Rattle.frame_lines.specs.Outcome.{Written, written_of, written_of_injective}
use Rattle.frame_lines.specs.Spelling.{line2, line3, line5, spelling_rules}
use Rattle.frame_lines.specs.Reading.{Held, FoundAs, ReadAs, frames_of, frames_of_injective}

pub record SameRead (r r' : Frames) (a a' : Held) : Type 0 where
  pub answer : r ≡ r'
  pub held : a ≡ a'

frames : Found → Group → Frames
frames f g = record { found = f; group = g }

read_same : (text : List ℕ) (b : Held) (f f' : Found) (g g' : Group) (a a' : Held) → FoundAs text b f g a → FoundAs text b f' g' a'
    → SameRead (frames f g) (frames f' g') a a'
unfolding frames
read_same text b (Fault r) (Fault r') g g' a a' p q = record {
  answer = λ i. record { found = Fault (broken_unique (spelling_rules text) r r' p.why q.why i); group = (p.group ∙ sym q.group) i };
  held = p.kept ∙ sym q.kept;
}
read_same text b (Fault r) (Panel z) g g' a a' p q = absurd (broken_not_kept (spelling_rules text) r p.why q.spelt)
read_same text b (Panel z) (Fault r) g g' a a' p q = absurd (broken_not_kept (spelling_rules text) r q.why p.spelt)
read_same text b (Panel z) (Panel z') g g' a a' p q = record {
  answer = λ i. record { found = Panel (sizes i); group = group i };
  held = λ i. record { spins = spins i; fwd = fwd i; perms = perms i };
}
  where
    sizes : z ≡ z'
    sizes = p.sizes ∙ sym q.sizes

    group : g ≡ g'
    group = p.group ∙ sym q.group

    spins : a.spins ≡ a'.spins
    spins = p.spins ∙ (ap (λ (y : Sizes). map signed (bytes (line2 text)) ++ drop (y.s * y.n) b.spins) sizes ∙ sym q.spins)

    fwd : a.fwd ≡ a'.fwd
    fwd = p.fwd ∙ (ap (λ (y : Sizes). words (bytes (line3 text)) ++ drop (y.n * y.d) b.fwd) sizes ∙ sym q.fwd)

    perms : a.perms ≡ a'.perms
    perms = p.perms ∙ ((λ i. bytes (line5 text) ++ drop ((sizes i).n * (group i).len) b.perms) ∙ sym q.perms)

pub read_determined : (text : List ℕ) (b : Held) (r r' : Frames) (a a' : Held) → ReadAs text b r a → ReadAs text b r' a' → SameRead r r' a a'
unfolding frames
read_determined text b r r' a a' p q = read_same text b r.found r'.found r.group r'.group a a' p q

pub record SameWritten (w w' : Written) (a a' : List ℕ) : Type 0 where
  pub answer : w ≡ w'
  pub held : a ≡ a'

-- and one result of each function
pub record SameResult {A B : Type 0} (x y : A) (a a' : B) : Type 0 where
  pub result : x ≡ y
  pub held : a ≡ a'

pub read_result_determined : (text : List ℕ) (b : Held) (x y : Result Shape ℕ) (a a' : Held) → ReadAs text b (frames_of x) a
    → ReadAs text b (frames_of y) a' → SameResult x y a a'
read_result_determined text b x y a a' p q =
    let s = read_determined text b (frames_of x) (frames_of y) a a' p q in record { result = frames_of_injective x y s.answer; held = s.held }

-- of those that write
pub written_result : (x y : Option ℕ) (a a' : List ℕ) → SameWritten (written_of x) (written_of y) a a' → SameResult x y a a'
written_result x y a a' s = record { result = written_of_injective x y s.answer; held = s.held }
