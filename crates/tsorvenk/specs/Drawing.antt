-- What the exported draws answer: over a lent source of four words, what the draws answer by themselves.
use Rattle.std.specs.Prelude.{ℕ, ◌≡◌, refl, List, [], ◌∷◌, length, get_or, set}
use Rattle.std.proofs.Common.{ap, ◌∙◌, subst, arith}
use Rattle.draws.specs.declared.Source.{Source}
use Rattle.draws.specs.Answer.{Left}
use Rattle.draws.specs.Words.{source}

abbrev pub source_of : List ℕ → Source
source_of ws = source (get_or ws 0 0) (get_or ws 1 0) (get_or ws 2 0) (get_or ws 3 0)

abbrev pub words_of : Source → List ℕ
words_of s = s.s0 ∷ s.s1 ∷ s.s2 ∷ s.s3 ∷ []

-- the answer as a number, and the source's words
pub record Handed (l : Left) (r : ℕ) (ws : List ℕ) : Type 0 where
  pub number : r ≡ l.refusal
  pub words : ws ≡ words_of l.source

-- an answer that the draws allow, handed over. Refused, they leave the source, and so its words, as lent
pub record Answered (Allowed : Source → List ℕ → Left → List ℕ → Type 0) (ws xs : List ℕ) (r : ℕ) (ws' ys : List ℕ) : Type 0 where
  pub answer : Left
  pub allowed : Allowed (source_of ws) xs answer ys
  pub handed : Handed answer r ws'

-- a source that is not of four words is refused before all else
pub record Unread (ws xs : List ℕ) (r : ℕ) (ws' ys : List ℕ) : Type 0 where
  pub number : r ≡ 2
  pub words : ws' ≡ ws
  pub kept : ys ≡ xs

pub record Draws (Allowed : Source → List ℕ → Left → List ℕ → Type 0) (ws xs : List ℕ) (r : ℕ) (ws' ys : List ℕ) : Type 0 where
  pub four : length ws ≡ 4 → Answered Allowed ws xs r ws' ys
  pub other : (length ws ≡ 4 → ⊥) → Unread ws xs r ws' ys

-- ---- laws

module _ {Allowed : Source → List ℕ → Left → List ℕ → Type 0} {ws xs : List ℕ} where
  pub unread : (length ws ≡ 4 → ⊥) → Draws Allowed ws xs 2 ws xs
  unread n = record { four = λ e. absurd (n e); other = λ _. record { number = refl; words = refl; kept = refl } }

  pub answered :
      {r : ℕ} {ws' ys : List ℕ} (s : Source) (l : Left) → length ws ≡ 4 → s ≡ source_of ws → Allowed s xs l ys → Handed l r ws'
      → Draws Allowed ws xs r ws' ys
  answered {r} {ws'} {ys} s l four e a h = record {
    four = λ _. record { answer = l; allowed = subst (λ (x : Source). Allowed x xs l ys) e a; handed = h };
    other = λ n. absurd (n four);
  }

-- four words written over four
pub overwritten :
    (ws : List ℕ) (a b c d : ℕ) → length ws ≡ 4 → set (set (set (set ws 0 a) 1 b) 2 c) 3 d ≡ a ∷ b ∷ c ∷ d ∷ []
overwritten [] a b c d e = absurd (omega arith)
overwritten (_ ∷ []) a b c d e = absurd (omega arith)
overwritten (_ ∷ _ ∷ []) a b c d e = absurd (omega arith)
overwritten (_ ∷ _ ∷ _ ∷ []) a b c d e = absurd (omega arith)
overwritten (_ ∷ _ ∷ _ ∷ _ ∷ []) a b c d e = refl
overwritten (_ ∷ _ ∷ _ ∷ _ ∷ _ ∷ ws) a b c d e = absurd (omega arith)

pub reread : (ws : List ℕ) → length ws ≡ 4 → words_of (source_of ws) ≡ ws
reread [] e = absurd (omega arith)
reread (_ ∷ []) e = absurd (omega arith)
reread (_ ∷ _ ∷ []) e = absurd (omega arith)
reread (_ ∷ _ ∷ _ ∷ []) e = absurd (omega arith)
reread (_ ∷ _ ∷ _ ∷ _ ∷ []) e = refl
reread (_ ∷ _ ∷ _ ∷ _ ∷ _ ∷ ws) e = absurd (omega arith)

-- where a refusal has left the source as lent, its words are as lent
pub words_kept : {l : Left} {r : ℕ} {ws ws' : List ℕ} → length ws ≡ 4 → Handed l r ws' → l.source ≡ source_of ws → ws' ≡ ws
words_kept {ws = ws} four h e = h.words ∙ (ap words_of e ∙ reread ws four)
