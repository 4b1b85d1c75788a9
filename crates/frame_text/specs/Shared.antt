-- Two texts that begin with the same whole lines, and behind them cannot be told apart.
use Rattle.std.specs.Prelude.{ℕ, zero, suc, ◌+◌, ◌*◌, ◌≤◌, ◌<◌, ◌≡◌, refl, ◌⊎◌, List, [], ◌∷◌, ◌++◌, length, get_or, drop}
use Rattle.std.proofs.Common.{sym, ◌∙◌, ap, inl, inr, append_assoc, arith, length-append}
use Rattle.std.proofs.lemmas.List.{append_cancel_right}
use Rattle.std.proofs.Math.Decide.{ℕ_discrete}
use Rattle.paper.specs.Answer.Frame.{hex, unhex, first_line, next, bytes, Spelt}
use Rattle.frame_text.specs.Digits.{hex_length}
use Rattle.frame_text.specs.Line.{Clean, first_line_lem, next_line}

-- a list of whole lines
pub data Lines : List ℕ → Type 0 where
  none : Lines []
  more : (l r : List ℕ) → Clean l → Lines r → Lines (l ++ (10 ∷ r))

-- so is every list that ends with a line feed
pub lines_of : (t : List ℕ) → ((k : ℕ) → length t ≡ suc k → get_or t k 0 ≡ 10) → Lines t
lines_of [] h = none
lines_of (x ∷ []) h = let e : x ≡ 10 = h 0 refl in rw e (more [] [] (λ k l e. omega arith) none)
lines_of (x ∷ (y ∷ t)) h = put (ℕ_discrete x 10) (lines_of (y ∷ t) (λ k e. h (suc k) (ap suc e)))
  where
    longer : {u : List ℕ} → (x ≡ 10 → ⊥) → 0 < length u → Lines u → Lines (x ∷ u)
    longer n some none = absurd (omega arith)
    longer n some (more l r c ls) = more (x ∷ l) r (λ k i. clean k i) ls
      where
        clean : Clean (x ∷ l)
        clean zero i e = n e
        clean (suc k) i e = c k (omega arith) e

    put : Dec (x ≡ 10) → Lines (y ∷ t) → Lines (x ∷ (y ∷ t))
    put (yes e) ls = rw e (more [] (y ∷ t) (λ k l q. omega arith) ls)
    put (no n) ls = longer n (omega arith) ls

-- both begin with a line that is spelt, or neither, and it is longer than any line of a good text
pub record Stuck (p q : List ℕ) : Type 0 where
  pub to : (tag : ℕ) → tag < 256 → Spelt tag p → Spelt tag q
  pub from : (tag : ℕ) → tag < 256 → Spelt tag q → Spelt tag p
  pub wide : (tag : ℕ) → tag < 256 → Spelt tag p → 2048 < length (bytes p)
  pub wide' : (tag : ℕ) → tag < 256 → Spelt tag q → 2048 < length (bytes q)
  pub some : 0 < length p
  pub some' : 0 < length q

-- the same lines, and behind them two that are stuck; or else the lines have more than b characters
pub record Shared (b : ℕ) (x y : List ℕ) : Type 0 where
  pub head : List ℕ
  pub p : List ℕ
  pub q : List ℕ
  pub lines : Lines head
  pub left : x ≡ head ++ p
  pub right : y ≡ head ++ q
  pub far : (b < length head) ⊎ Stuck p q

stuck_sym : {p q : List ℕ} → Stuck p q → Stuck q p
stuck_sym s = record { to = s.from; from = s.to; wide = s.wide'; wide' = s.wide; some = s.some'; some' = s.some }

pub shared_sym : {b : ℕ} {x y : List ℕ} → Shared b x y → Shared b y x
shared_sym {b} s = record { head = s.head; p = s.q; q = s.p; lines = s.lines; left = s.right; right = s.left; far = turned s.far }
  where
    turned : (b < length s.head) ⊎ Stuck s.p s.q → (b < length s.head) ⊎ Stuck s.q s.p
    turned (inl h) = inl h
    turned (inr k) = inr (stuck_sym k)

pub shared_some : {b : ℕ} {x y : List ℕ} → Shared b x y → x ≡ [] → ⊥
shared_some {b} {x} s e = at s.far
  where
    long : length s.head + length s.p ≡ 0
    long = sym (length-append s.head s.p) ∙ ap (length {A = ℕ}) (sym s.left ∙ e)

    at : (b < length s.head) ⊎ Stuck s.p s.q → ⊥
    at (inl h) = omega (arith, long)
    at (inr k) = omega (arith, long, k.some)

-- ---- the first line
record Line (l r x : List ℕ) : Type 0 where
  is : x ≡ l ++ (10 ∷ r)
  clean : Clean l

-- l spells whole bytes, the tag first
record Worded (tag : ℕ) (l : List ℕ) : Type 0 where
  is : l ≡ hex (tag ∷ drop 1 (unhex l))
  small : (k : ℕ) → k < length (drop 1 (unhex l)) → get_or (drop 1 (unhex l)) k 0 < 256

module _ {l r x : List ℕ} (h : Line l r x) where
  first_is : first_line x ≡ l
  first_is = ap first_line h.is ∙ first_line_lem l r h.clean

  next_is : next x ≡ r
  next_is = ap next h.is ∙ next_line l r h.clean

  bytes_are : bytes x ≡ drop 1 (unhex l)
  bytes_are = ap (λ (u : List ℕ). drop 1 (unhex u)) first_is

  worded : (tag : ℕ) → Spelt tag x → Worded tag l
  worded tag s = record {
    is = append_cancel_right l (hex (tag ∷ drop 1 (unhex l))) (10 ∷ r) (sym h.is ∙ (s.is ∙ (λ i. hex (tag ∷ bytes_are i) ++ (10 ∷ next_is i))));
    small = rw bytes_are at s.small;
  }

  spelt_so : (tag : ℕ) → Worded tag l → Spelt tag x
  spelt_so tag w = record {
    is = h.is ∙ (ap (λ (u : List ℕ). u ++ (10 ∷ r)) w.is ∙ (λ i. hex (tag ∷ sym bytes_are i) ++ (10 ∷ sym next_is i)));
    small = rw bytes_are w.small;
  }

worded_long : {tag : ℕ} {l : List ℕ} → Worded tag l → length l ≡ 2 * length (drop 1 (unhex l)) + 2
worded_long {tag} {l} w = let e = hex_length (tag ∷ drop 1 (unhex l)) in omega (arith, e, ap (length {A = ℕ}) w.is)

-- the first line is whole and the same in both; behind it the rest is shared, with fewer characters
pub record SameLine (b : ℕ) (x y : List ℕ) : Type 0 where
  pub same : bytes x ≡ bytes y
  pub to : (tag : ℕ) → Spelt tag x → Spelt tag y
  pub from : (tag : ℕ) → Spelt tag y → Spelt tag x
  pub onward : (tag c : ℕ) → Spelt tag x → c + (2 * length (bytes x) + 3) ≤ b → Shared c (next x) (next y)

module _ {b : ℕ} {x y : List ℕ} (s : Shared b x y) where
  one : (l r : List ℕ) → Clean l → Lines r → s.head ≡ l ++ (10 ∷ r) → SameLine b x y
  one l r c ls e = record {
    same = bytes_are hx ∙ sym (bytes_are hy);
    to = λ tag k. spelt_so hy tag (worded hx tag k);
    from = λ tag k. spelt_so hx tag (worded hy tag k);
    onward = λ tag d k w. record {
      head = r;
      p = s.p;
      q = s.q;
      lines = ls;
      left = next_is hx;
      right = next_is hy;
      far = nearer d (rest tag d k w) s.far;
    };
  }
    where
      hx : Line l (r ++ s.p) x
      hx = record { is = s.left ∙ (ap (λ (u : List ℕ). u ++ s.p) e ∙ append_assoc l (10 ∷ r) s.p); clean = c }

      hy : Line l (r ++ s.q) y
      hy = record { is = s.right ∙ (ap (λ (u : List ℕ). u ++ s.q) e ∙ append_assoc l (10 ∷ r) s.q); clean = c }

      rest : (tag d : ℕ) → Spelt tag x → d + (2 * length (bytes x) + 3) ≤ b → b < length s.head → d < length r
      rest tag d k w far =
          omega (arith, far, w, worded_long (worded hx tag k), ap (length {A = ℕ}) (bytes_are hx), ap (length {A = ℕ}) e, length-append l (10 ∷ r))

      nearer : (d : ℕ) → (b < length s.head → d < length r) → (b < length s.head) ⊎ Stuck s.p s.q → (d < length r) ⊎ Stuck s.p s.q
      nearer d f (inl h) = inl (f h)
      nearer d f (inr k) = inr k

  stuck : s.head ≡ [] → Stuck x y
  stuck e = at s.far
    where
      at : (b < length s.head) ⊎ Stuck s.p s.q → Stuck x y
      at (inl h) = absurd (omega (arith, h, ap (length {A = ℕ}) e))
      at (inr k) = rw (s.left, s.right, e) k

  pub first : SameLine b x y ⊎ Stuck x y
  first = at s.lines refl
    where
      at : {h : List ℕ} → Lines h → s.head ≡ h → SameLine b x y ⊎ Stuck x y
      at none e = inr (stuck e)
      at (more l r c ls) e = inl (one l r c ls e)
