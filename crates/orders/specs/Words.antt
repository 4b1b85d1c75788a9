-- Words of m numbers, one after another in a list, and which of two comes first.
use Rattle.std.specs.Prelude.{ℕ, zero, suc, ◌+◌, ◌*◌, ◌≤◌, ◌<◌, ◌≡◌, List, get_or}
use Rattle.std.proofs.Common.{sym, arith}
use Rattle.std.proofs.Math.Decide.{ℕ_discrete, dec_lt}

-- entry k of the word r
abbrev pub word_at : ℕ → List ℕ → ℕ → ℕ → ℕ
word_at m t r k = get_or t (r * m + k) 0

-- the first n entries are equal
abbrev pub Agree : ℕ → (ℕ → ℕ) → (ℕ → ℕ) → Type 0
Agree n p q = (k : ℕ) → k < n → p k ≡ q k

-- p comes before q, as a word of m
pub record Before (m : ℕ) (p q : ℕ → ℕ) : Type 0 where
  pub place : ℕ
  pub inside : place < m
  pub agree : Agree place p q
  pub less : p place < q place

-- two words are equal so far, or one comes before the other
pub data Compared (m n : ℕ) (p q : ℕ → ℕ) : Type 0 where
  equal : Agree n p q → Compared m n p q
  before : Before m p q → Compared m n p q
  after : Before m q p → Compared m n p q

pub compare : (m n : ℕ) (p q : ℕ → ℕ) → n ≤ m → Compared m n p q
compare m zero p q l = equal (λ k h. absurd (omega arith))
compare m (suc n) p q l = go (compare m n p q (omega arith)) (dec_lt (p n) (q n)) (dec_lt (q n) (p n))
  where
    go : Compared m n p q → Dec (p n < q n) → Dec (q n < p n) → Compared m (suc n) p q
    go (before b) d e = before b
    go (after b) d e = after b
    go (equal a) (yes h) e = before (record { place = n; inside = omega arith; agree = a; less = h })
    go (equal a) (no x) (yes h) = after (record { place = n; inside = omega arith; agree = λ k b. sym (a k b); less = h })
    go (equal a) (no x) (no y) = equal (λ k b. last k b (ℕ_discrete k n))
      where
        last : (k : ℕ) → k < suc n → Dec (k ≡ n) → p k ≡ q k
        last k b (yes e) = rw e (omega arith)
        last k b (no e) = a k (omega arith)
