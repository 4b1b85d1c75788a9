-- The table's rule as one test that is computed, and carried to each row.
use Rattle.std.specs.Prelude.{ℕ, zero, suc, ◌+◌, ◌<◌, ◌≡◌, refl, Bool, true, false, not, ◌&&◌, ◌||◌, List, ltb, eqb, length}
use Rattle.std.proofs.Math.Decide.{ℕ_discrete}
use Rattle.std.proofs.Common.{arith, ltb-true, eqb-true}
use Rattle.std.proofs.lemmas.Bool.{eqb-false, not-true}
use Rattle.lemmas.specs.Bools.{never, and_left, and_right, every, every_is, below_test, below_by}
use Rattle.paper.specs.Refusal.Rules.{Permutes}
use Rattle.orders.specs.Table.{row_in, Ruled, orders}
use Rattle.orders.specs.Words.{Agree, Before}

-- no two of the five are equal
abbrev apart_test : (ℕ → ℕ) → Bool
apart_test p = every 5 (λ a. every 5 (λ b. eqb a b || not (eqb (p a) (p b))))

abbrev permutes_test : (ℕ → ℕ) → Bool
permutes_test p = below_test 5 5 p && apart_test p

-- from place i on, with n places to go
unfoldable before_test : ℕ → ℕ → (ℕ → ℕ) → (ℕ → ℕ) → Bool
before_test zero i p q = false
before_test (suc n) i p q = ltb (p i) (q i) || (eqb (p i) (q i) && before_test n (suc i) p q)

permutes_by : (p : ℕ → ℕ) → permutes_test p ≡ true → Permutes 5 p
permutes_by p e = record {
  within = below_by 5 5 p (and_left _ _ e);
  distinct = λ a b la lb h. apart a b h (eqb a b) refl (every_is 5 _ (every_is 5 _ (and_right (below_test 5 5 p) (apart_test p) e) a la) b lb);
}
  where
    apart : (a b : ℕ) → p a ≡ p b → (t : Bool) → eqb a b ≡ t → (t || not (eqb (p a) (p b))) ≡ true → a ≡ b
    apart a b h true w o = eqb-true a b w
    apart a b h false w o = absurd (eqb-false (p a) (p b) (not-true (eqb (p a) (p b)) o) h)

before_by : (n i : ℕ) (p q : ℕ → ℕ) → i + n ≡ 5 → Agree i p q → before_test n i p q ≡ true → Before 5 p q
unfolding before_test
before_by zero i p q e a h = never h
before_by (suc n) i p q e a h = go (ltb (p i) (q i)) refl h (λ (w : Agree (suc i) p q). before_by n (suc i) p q (omega arith) w)
  where
    go :
        (t : Bool) → ltb (p i) (q i) ≡ t → (t || (eqb (p i) (q i) && before_test n (suc i) p q)) ≡ true
        → (Agree (suc i) p q → before_test n (suc i) p q ≡ true → Before 5 p q) → Before 5 p q
    go true w o next = record { place = i; inside = omega arith; agree = a; less = ltb-true (p i) (q i) w }
    go false w o next =
        next (λ k b. last k b (ℕ_discrete k i)) (and_right (eqb (p i) (q i)) (before_test n (suc i) p q) o)
      where
        last : (k : ℕ) → k < suc i → Dec (k ≡ i) → p k ≡ q k
        last k b (yes x) = rw x (eqb-true (p i) (q i) (and_left (eqb (p i) (q i)) (before_test n (suc i) p q) o))
        last k b (no x) = a k (omega arith)

unfoldable rises_test : List ℕ → Bool
rises_test t = every 119 (λ r. before_test 5 0 (row_in t r) (row_in t (suc r)))

unfoldable rows_test : List ℕ → Bool
rows_test t = every 120 (λ r. permutes_test (row_in t r))

ruled_by : (t : List ℕ) → length t ≡ 600 → rows_test t ≡ true → rises_test t ≡ true → Ruled t
unfolding rows_test rises_test
ruled_by t l e f = record {
  long = l;
  permutes = λ r b. permutes_by (row_in t r) (every_is 120 _ e r b);
  rises = λ r b. before_by 5 0 _ _ refl (λ k c. absurd (omega arith)) (every_is 119 _ f r (omega arith));
}

pub orders_ruled : Ruled orders
unfolding orders rows_test rises_test before_test every
orders_ruled = ruled_by orders refl refl refl
