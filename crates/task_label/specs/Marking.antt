-- Sites that a list names, as a byte for each site.
use Rattle.std.specs.Prelude.{ℕ, ◌+◌, ◌≤◌, ◌<◌, ◌≡◌, List, length, get_or, set}
use Rattle.std.proofs.Common.{sym, ◌∙◌, arith, length-set}
use Rattle.std.proofs.Math.Decide.{ℕ_discrete}
use Rattle.lemmas.specs.Places.{Placed}
use Rattle.lemmas.specs.Stores.{AfterSet, AfterSet.here, AfterSet.there, after_set, Cleared, cleared_all}

-- the first len of the list are sites
pub record Markable (n : ℕ) (list : List ℕ) (len : ℕ) : Type 0 where
  pub room : len ≤ length list
  pub below : (x : ℕ) → x < len → get_or list x 0 < n

-- 1 at these, and else 0
pub record MarksListed (n : ℕ) (list : List ℕ) (len : ℕ) (marks : List ℕ) : Type 0 where
  pub long : length marks ≡ n
  pub byte : (i : ℕ) → get_or marks i 0 ≤ 1
  pub each : (x : ℕ) → x < len → get_or marks (get_or list x 0) 0 ≡ 1
  pub only : (i : ℕ) → get_or marks i 0 ≡ 1 → Placed len (λ x. get_or list x 0) i

pub marks_of : {n m : ℕ} {list : List ℕ} {len : ℕ} {marks : List ℕ} → n ≡ m → MarksListed n list len marks → MarksListed m list len marks
marks_of e h = record { long = h.long ∙ e; byte = h.byte; each = h.each; only = h.only }

pub marks_none : {n : ℕ} (list : List ℕ) {marks : List ℕ} → Cleared n marks → MarksListed n list 0 marks
marks_none list c = record {
  long = c.long;
  byte = λ i. omega (arith, cleared_all c i);
  each = λ x h. absurd (omega arith);
  only = λ i e. absurd (omega (arith, e, cleared_all c i));
}

pub marks_more :
    {n : ℕ} {list : List ℕ} {len : ℕ} {marks : List ℕ} {i : ℕ} → MarksListed n list len marks → i < n → i ≡ get_or list len 0
    → MarksListed n list (len + 1) (set marks i 1)
marks_more {n} {list} {len} {marks} {i} h il is = record {
  long = length-set marks i 1 ∙ h.long;
  byte = λ j. byte_at_lem j (after_set marks i 1 j inside);
  each = λ x l. each_at x l (after_set marks i 1 (get_or list x 0) inside);
  only = λ j e. only_at j e (after_set marks i 1 j inside);
}
  where
    inside : i < length marks
    inside = omega (arith, il, h.long)

    byte_at_lem : (j : ℕ) → AfterSet marks i 1 j → get_or (set marks i 1) j 0 ≤ 1
    byte_at_lem j (here q g) = omega (arith, g)
    byte_at_lem j (there q g) = omega (arith, g, h.byte j)

    each_at : (x : ℕ) → x < len + 1 → AfterSet marks i 1 (get_or list x 0) → get_or (set marks i 1) (get_or list x 0) 0 ≡ 1
    each_at x l (here q g) = g
    each_at x l (there q g) = g ∙ h.each x (before (ℕ_discrete x len))
      where
        before : Dec (x ≡ len) → x < len
        before (yes e) = absurd (q (rw e (sym is)))
        before (no e) = omega arith

    only_at : (j : ℕ) → get_or (set marks i 1) j 0 ≡ 1 → AfterSet marks i 1 j → Placed (len + 1) (λ x. get_or list x 0) j
    only_at j e (here q g) = (len, omega arith, q ∙ is)
    only_at j e (there q g) = let p = h.only j (sym g ∙ e) in (p.0, omega (arith, p.1), p.2)
