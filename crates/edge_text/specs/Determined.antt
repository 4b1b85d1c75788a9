-- What each public function's promise allows for one input is one answer and one content of the lent buffer.
use Rattle.std.specs.Prelude.{ℕ, ◌≤◌, ◌≡◌, refl, List, ◌∷◌, ◌++◌, length, drop, ℤ, Option}
use Rattle.std.proofs.Common.{sym, ◌∙◌, ap, arith, length-drop}
use Rattle.edge_text.specs.declared.Edge.{Edge}
use Rattle.edge_text.specs.declared.Parsed.{Parsed}
use Rattle.edge_text.specs.declared.ParsedLine.{ParsedLine}
use Rattle.edge_text.specs.Outcome.{Number, number_found, number_found_injective, line_found, line_found_injective}
use Rattle.edge_text.specs.Outcome.Number.{At, Bad}
use Rattle.edge_text.specs.Outcome.{Line}
use Rattle.edge_text.specs.Outcome.Line.{Good, None}
use Rattle.edge_text.specs.Decimal.{decimal}
use Rattle.edge_text.specs.Form.{line_of, head_of}
use Rattle.edge_text.specs.Numbers.{begins, SameNumber, same_number, SameLine, same_line, head_split}
use Rattle.edge_text.specs.Reading.{LineAs, HeadAs, code_of}
use Rattle.edge_text.specs.Writing.{Put, Long}

-- one rest of the text begins at one place
same_place : (t : List ℕ) (e f : ℕ) → e ≤ length t → f ≤ length t → drop e t ≡ drop f t → e ≡ f
same_place t e f p q s = omega (arith, ap (length {A = ℕ}) s, length-drop e t, length-drop f t)

abbrev edge : ℕ → ℕ → ℤ → Edge
edge u v z = record { from = u; to = v; coupling = z }

pub line_determined : (t : List ℕ) (a n : ℕ) (r r' : Line) → LineAs t a n r → LineAs t a n r' → r ≡ r'
line_determined t a n (Good i j x e) (Good k l y f) p q = go (same_line _ _ (drop a t) _ _ p.is q.is)
  where
    go : SameLine (edge i j p.coupling) (edge k l q.coupling) (drop e t) (drop f t) → Good i j x e ≡ Good k l y f
    go s = λ m. Good (s.edge m).from (s.edge m).to (code m) (place m)
      where
        code : x ≡ y
        code = p.code ∙ (ap (λ (g : Edge). code_of g.coupling) s.edge ∙ sym q.code)

        place : e ≡ f
        place = same_place t e f p.within q.within s.behind
line_determined t a n (Good i j x e) None p q = absurd (q (edge i j p.coupling) (drop e t) p.from_small p.to_small p.is)
line_determined t a n None (Good k l y f) p q = absurd (p (edge k l q.coupling) (drop f t) q.from_small q.to_small q.is)
line_determined t a n None None p q = refl

pub head_determined : (t : List ℕ) (n most : ℕ) (r r' : Number) → HeadAs t n most r → HeadAs t n most r' → r ≡ r'
head_determined t n most (At m e) (At k f) p q = go (same_number refl (begins m 10 (drop e t) refl) (begins k 10 (drop f t) behind))
  where
    behind : decimal m ++ (10 ∷ drop e t) ≡ decimal k ++ (10 ∷ drop f t)
    behind = (same_number refl (begins n 32 _ (p.is ∙ head_split n m (drop e t))) (begins n 32 _ (q.is ∙ head_split n k (drop f t)))).behind

    go : SameNumber m k (drop e t) (drop f t) → At m e ≡ At k f
    go s = λ i. At (s.number i) (same_place t e f p.within q.within s.behind i)
head_determined t n most (At m e) Bad p q = absurd (q m _ p.few p.is)
head_determined t n most Bad (At k f) p q = absurd (p k _ q.few q.is)
head_determined t n most Bad Bad p q = refl

-- and one result of each function
pub line_result_determined : (t : List ℕ) (a n : ℕ) (r r' : Option ParsedLine) → LineAs t a n (line_found r) → LineAs t a n (line_found r') → r ≡ r'
line_result_determined t a n r r' p q = line_found_injective r r' (line_determined t a n (line_found r) (line_found r') p q)

pub head_result_determined : (t : List ℕ) (n most : ℕ) (r r' : Option Parsed) → HeadAs t n most (number_found r) → HeadAs t n most (number_found r')
    → r ≡ r'
head_result_determined t n most r r' p q = number_found_injective r r' (head_determined t n most (number_found r) (number_found r') p q)

-- ---- writing
pub record SamePut (r r' : ℕ) (y y' : List ℕ) : Type 0 where
  pub place : r ≡ r'
  pub held : y ≡ y'

put_same : {vs b y y' : List ℕ} {a r r' : ℕ} → Put vs b a r y → Put vs b a r' y' → SamePut r r' y y'
put_same p q = record { place = p.next ∙ sym q.next; held = p.is ∙ sym q.is }

pub put_line_determined : (e : Edge) (b y y' : List ℕ) (a r r' : ℕ) → Put (line_of e) b a r y → Put (line_of e) b a r' y' → SamePut r r' y y'
put_line_determined e b y y' a r r' p q = put_same p q

pub put_head_determined : (n m : ℕ) (b y y' : List ℕ) (r r' : ℕ) → Put (head_of n m) b 0 r y → Put (head_of n m) b 0 r' y' → SamePut r r' y y'
put_head_determined n m b y y' r r' p q = put_same p q

pub line_length_determined : (e : Edge) (r r' : ℕ) → Long (line_of e) 25 r → Long (line_of e) 25 r' → r ≡ r'
line_length_determined e r r' p q = p.bytes ∙ sym q.bytes

pub head_length_determined : (n m r r' : ℕ) → Long (head_of n m) 16 r → Long (head_of n m) 16 r' → r ≡ r'
head_length_determined n m r r' p q = p.bytes ∙ sym q.bytes
