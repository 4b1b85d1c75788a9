-- The rank of a permutation of five: it rises with the word, is at most 119, and tells the word.
use Prim.Native.Nat.{ℕ, zero, suc, ◌+◌, ◌-◌, ◌*◌, ◌≤◌, ◌<◌}
use Rattle.std.specs.Prelude.{◌≡◌, ltb}
use native.Mathlib.Omega.{arith}
use Rattle.std.proofs.Common.{ltb-true, lt-ltb, le-ltb}
use Rattle.lemmas.specs.Counts.{bit, count_where, count_suc, count_most, count_ext, count_le}
use Rattle.paper.specs.Refusal.Rules.{Permutes}
use Rattle.orders.specs.Counting.{under, under_all, count_split}
use Rattle.orders.specs.Words.{Agree, Before, Compared, Compared.equal, Compared.before, Compared.after, compare}

-- how many entries behind place i are smaller than the one there
abbrev pub later : (ℕ → ℕ) → ℕ → ℕ
later p i = count_where (λ j. ltb (p (i + 1 + j)) (p i)) (4 - i)

unfoldable pub rank : (ℕ → ℕ) → ℕ
rank p = 24 * later p 0 + 6 * later p 1 + 2 * later p 2 + later p 3

pub later_most : (p : ℕ → ℕ) (i : ℕ) → later p i ≤ 4 - i
later_most p i = count_most (λ j. ltb (p (i + 1 + j)) (p i)) (4 - i)

pub rank_most : (p : ℕ → ℕ) → rank p ≤ 119
unfolding rank
rank_most p = omega (arith, later_most p 0, later_most p 1, later_most p 2, later_most p 3)

-- of a permutation's entries below v, those before place i, the one there, and those behind it
taken_apart :
    (p : ℕ → ℕ) → Permutes 5 p → (v i : ℕ) → v ≤ 5 → i < 5
    → under p v i + bit (ltb (p i) v) + count_where (λ j. ltb (p (i + 1 + j)) v) (4 - i) ≡ v
taken_apart p h v i lv li =
    let e : i + 1 + (4 - i) ≡ 5 = omega arith in
    omega (arith, under_all 5 p h v lv, count_suc (λ j. ltb (p j) v) i, rw e at (count_split (λ j. ltb (p j) v) (i + 1) (4 - i)))

module _ (p q : ℕ → ℕ) (hp : Permutes 5 p) (hq : Permutes 5 q) where
  -- what is left behind an equal beginning tells nothing of the order in which it stands
  same_later : (i : ℕ) → i < 5 → Agree (i + 1) p q → later p i ≡ later q i
  same_later i l a =
      omega (
        arith,
        taken_apart p hp (p i) i (omega (arith, hp.within i l)) l,
        taken_apart q hq (q i) i (omega (arith, hq.within i l)) l,
        front,
        own,
        a i (omega arith),
      )
    where
      front : under p (p i) i ≡ under q (q i) i
      front = count_ext _ _ i (λ j b. rw (a j (omega arith), a i (omega arith)))

      own : bit (ltb (p i) (p i)) ≡ bit (ltb (q i) (q i))
      own = rw (a i (omega arith))

  less_later : (i : ℕ) → i < 5 → Agree i p q → p i < q i → later p i < later q i
  less_later i l a b =
      omega (
        arith,
        taken_apart p hp (q i) i (omega (arith, hq.within i l)) l,
        taken_apart q hq (q i) i (omega (arith, hq.within i l)) l,
        front,
        own,
        here,
        more,
      )
    where
      front : under p (q i) i ≡ under q (q i) i
      front = count_ext _ _ i (λ j c. rw (a j c))

      own : bit (ltb (q i) (q i)) ≡ 0
      own = rw (le-ltb (q i) (q i) (omega arith))

      here : bit (ltb (p i) (q i)) ≡ 1
      here = rw (lt-ltb (p i) (q i) b)

      more : later p i ≤ count_where (λ j. ltb (p (i + 1 + j)) (q i)) (4 - i)
      more = count_le _ _ (4 - i) (λ j e. lt-ltb (p (i + 1 + j)) (q i) (omega (arith, ltb-true (p (i + 1 + j)) (p i) e)))

  -- the rank looks at the five entries only
  pub rank_same : Agree 5 p q → rank p ≡ rank q
  unfolding rank
  rank_same a = omega (arith, at 0 (omega arith), at 1 (omega arith), at 2 (omega arith), at 3 (omega arith))
    where
      at : (i : ℕ) → i < 5 → later p i ≡ later q i
      at i l = same_later i l (λ k b. a k (omega arith))

  pub rank_rises : Before 5 p q → rank p < rank q
  unfolding rank
  rank_rises b = go b.place b.inside b.agree b.less
    where
      go : (i : ℕ) → i < 5 → Agree i p q → p i < q i → rank p < rank q
      go zero l a h = omega (arith, less_later 0 l a h, later_most p 1, later_most p 2, later_most p 3)
      go (suc zero) l a h = omega (arith, same_later 0 (omega arith) a, less_later 1 l a h, later_most p 2, later_most p 3)
      go (suc (suc zero)) l a h =
          omega (arith, same_later 0 (omega arith) (λ k c. a k (omega arith)), same_later 1 (omega arith) a, less_later 2 l a h, later_most p 3)
      go (suc (suc (suc zero))) l a h =
          omega (
            arith,
            same_later 0 (omega arith) (λ k c. a k (omega arith)),
            same_later 1 (omega arith) (λ k c. a k (omega arith)),
            same_later 2 (omega arith) a,
            less_later 3 l a h,
          )
      go (suc (suc (suc (suc zero)))) l a h = absurd (omega (arith, less_later 4 l a h, later_most q 4))
      go (suc (suc (suc (suc (suc i))))) l a h = absurd (omega arith)

pub rank_tells : (p q : ℕ → ℕ) → Permutes 5 p → Permutes 5 q → rank p ≡ rank q → Agree 5 p q
rank_tells p q hp hq e = go (compare 5 5 p q (omega arith))
  where
    go : Compared 5 5 p q → Agree 5 p q
    go (equal a) = a
    go (before b) = absurd (omega (arith, rank_rises p q hp hq b))
    go (after b) = absurd (omega (arith, rank_rises q p hq hp b))
