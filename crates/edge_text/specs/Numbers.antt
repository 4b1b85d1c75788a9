-- A text that begins with a number: the number and what stands behind it are determined.
use Rattle.std.specs.Prelude.{ℕ, suc, ◌≡◌, refl, Bool, true, false, List, [], ◌∷◌, ◌++◌, ℤ, pos, negsuc}
use Rattle.std.proofs.Common.{sym, ◌∙◌, ap, append_assoc, arith}
use Rattle.edge_text.specs.declared.Edge.{Edge}
use Rattle.edge_text.specs.Decimal.{decimal, lead, rest, value_from, is_digit, Started, value_decimal, decimal_digits, decimal_started, lead_of, rest_of}
use Rattle.edge_text.specs.Decimal.Started.{digit}
use Rattle.edge_text.specs.Form.{signed, line_of, head_of}

-- the text s is the number w, the character c and then r
pub record Begins (s : List ℕ) (w c : ℕ) (r : List ℕ) : Type 0 where
  pub spelt : s ≡ decimal w ++ (c ∷ r)

pub begins : {s : List ℕ} (w c : ℕ) (r : List ℕ) → s ≡ decimal w ++ (c ∷ r) → Begins s w c r
begins w c r e = record { spelt = e }

module _ {s r : List ℕ} {w c : ℕ} (e : Begins s w c r) (n : is_digit c ≡ false) where
  pub begins_lead : lead s ≡ decimal w
  begins_lead = ap lead e.spelt ∙ lead_of (decimal_digits w) c r n

  pub begins_rest : rest s ≡ c ∷ r
  begins_rest = ap rest e.spelt ∙ rest_of (decimal_digits w) c r n

pub record SameNumber (v w : ℕ) (r q : List ℕ) : Type 0 where
  pub number : v ≡ w
  pub behind : r ≡ q

tail : List ℕ → List ℕ
tail [] = []
tail (x ∷ xs) = xs

pub same_number : {s r q : List ℕ} {v w c : ℕ} → is_digit c ≡ false → Begins s v c r → Begins s w c q → SameNumber v w r q
unfolding tail
same_number {v = v} {w = w} n f g = record {
  number = sym (value_decimal v) ∙ (ap (value_from 0) (sym (begins_lead f n) ∙ begins_lead g n) ∙ value_decimal w);
  behind = ap tail (sym (begins_rest f n) ∙ begins_rest g n);
}

-- ---- a signed number
pub started_first : {ds : List ℕ} (s r : List ℕ) → Started ds → ds ++ s ≡ 45 ∷ r → ⊥
started_first s r (digit {c = c} h) e =
    let same : c ≡ 45 = cc in
    let z : ◌≡◌ {A = Bool} false true = rw same at h in
    let y : ◌≡◌ {A = ℕ} 0 1 = cc in
    omega arith

-- the text s is the coupling z, the character c and then r
pub record Signed (s : List ℕ) (z : ℤ) (c : ℕ) (r : List ℕ) : Type 0 where
  pub spelt : s ≡ signed z ++ (c ∷ r)

pub record SameSigned (y z : ℤ) (r q : List ℕ) : Type 0 where
  pub number : y ≡ z
  pub behind : r ≡ q

pub same_signed : {s r q : List ℕ} {c : ℕ} (y z : ℤ) → is_digit c ≡ false → Signed s y c r → Signed s z c q → SameSigned y z r q
unfolding tail
same_signed (pos v) (pos w) n f g =
    let h = same_number n (begins v _ _ f.spelt) (begins w _ _ g.spelt) in
    record { number = ap pos h.number; behind = h.behind }
same_signed (pos v) (negsuc w) n f g = absurd (started_first _ _ (decimal_started v) (sym f.spelt ∙ g.spelt))
same_signed (negsuc v) (pos w) n f g = absurd (started_first _ _ (decimal_started w) (sym g.spelt ∙ f.spelt))
same_signed (negsuc v) (negsuc w) n f g =
    let h = same_number n (begins (suc v) _ _ (ap tail f.spelt)) (begins (suc w) _ _ (ap tail g.spelt)) in
    let e : v ≡ w = let k = h.number in omega arith in
    record { number = ap negsuc e; behind = h.behind }

-- ---- a line, and the first line
pub line_split : (e : Edge) (r : List ℕ)
    → line_of e ++ r ≡ decimal (suc e.from) ++ (32 ∷ (decimal (suc e.to) ++ (32 ∷ (signed e.coupling ++ (10 ∷ r)))))
line_split e r = simp append_assoc

pub head_split : (n m : ℕ) (r : List ℕ) → head_of n m ++ r ≡ decimal n ++ (32 ∷ (decimal m ++ (10 ∷ r)))
head_split n m r = simp append_assoc

pub record SameLine (e f : Edge) (r q : List ℕ) : Type 0 where
  pub edge : e ≡ f
  pub behind : r ≡ q

-- a text that begins with a line begins with one line only
pub same_line : (e f : Edge) (s r q : List ℕ) → s ≡ line_of e ++ r → s ≡ line_of f ++ q → SameLine e f r q
same_line e f s r q x y = go (same_number refl (begins _ 32 _ (x ∙ line_split e r)) (begins _ 32 _ (y ∙ line_split f q)))
  where
    to_end : Edge → List ℕ → List ℕ
    to_end g u = signed g.coupling ++ (10 ∷ u)

    from_to : Edge → List ℕ → List ℕ
    from_to g u = decimal (suc g.to) ++ (32 ∷ to_end g u)

    last : e.from ≡ f.from → e.to ≡ f.to → SameSigned e.coupling f.coupling r q → SameLine e f r q
    last a b c = record { edge = λ i. record { from = a i; to = b i; coupling = c.number i }; behind = c.behind }

    next : e.from ≡ f.from → SameNumber (suc e.to) (suc f.to) (to_end e r) (to_end f q) → SameLine e f r q
    next a b =
        let same : e.to ≡ f.to = let h = b.number in omega arith in
        last a same (same_signed {c = 10} e.coupling f.coupling refl (record { spelt = refl }) (record { spelt = b.behind }))

    go : SameNumber (suc e.from) (suc f.from) (from_to e r) (from_to f q) → SameLine e f r q
    go a =
        let same : e.from ≡ f.from = let h = a.number in omega arith in
        next same (same_number refl (begins _ 32 _ refl) (begins _ 32 _ a.behind))
