-- How many of a permutation's entries are below v: v. Then such counts taken apart at a place.
use Rattle.std.specs.Prelude.{ℕ, zero, suc, ◌+◌, ◌≤◌, ◌<◌, ◌≡◌, refl, Bool, true, false, ltb, eqb}
use Rattle.std.proofs.Common.{sym, ◌∙◌, add-suc, add-zero, arith, lt-ltb, le-ltb, eq-eqb, ne_eqb}
use Rattle.std.proofs.Math.Decide.{ℕ_discrete, dec_lt}
use Rattle.lemmas.specs.Counts.{bit, count_where, count_zero}
use Rattle.laws.specs.Permuted.{onto}
use Rattle.paper.specs.Refusal.Rules.{Permutes}

-- how many of the first i entries are below v
abbrev pub under : (ℕ → ℕ) → ℕ → ℕ → ℕ
under p v i = count_where (λ j. ltb (p j) v) i

-- just one passes
count_one : (f : ℕ → Bool) (m j : ℕ) → j < m → f j ≡ true → ((i : ℕ) → i < m → (i ≡ j → ⊥) → f i ≡ false) → count_where f m ≡ 1
unfolding count_where
count_one f zero j l e o = absurd (omega arith)
count_one f (suc m) j l e o = go (ℕ_discrete j m) (λ k. count_one f m j k e (λ i a. o i (omega arith)))
  where
    go : Dec (j ≡ m) → (j < m → count_where f m ≡ 1) → count_where f m + bit (f m) ≡ 1
    go (yes q) ih = rw (count_zero f m (λ i a. o i (omega arith) (λ h. omega arith)), ← q, e)
    go (no q) ih = rw (o m (omega arith) (λ h. q (sym h))) (omega (arith, ih (omega arith)))

-- below v + 1 is below v or v itself
under_more : (p : ℕ → ℕ) (v i : ℕ) → under p (suc v) i ≡ under p v i + count_where (λ j. eqb (p j) v) i
unfolding count_where
under_more p v zero = refl
under_more p v (suc i) = omega (arith, under_more p v i, each (dec_lt (p i) v) (ℕ_discrete (p i) v))
  where
    each : Dec (p i < v) → Dec (p i ≡ v) → bit (ltb (p i) (suc v)) ≡ bit (ltb (p i) v) + bit (eqb (p i) v)
    each (yes l) (yes e) = absurd (omega arith)
    each (yes l) (no n) = rw (lt-ltb (p i) (suc v) (omega arith), lt-ltb (p i) v l, ne_eqb (p i) v n)
    each (no m) (yes e) = rw (lt-ltb (p i) (suc v) (omega arith), le-ltb (p i) v (omega arith), eq-eqb (p i) v e)
    each (no m) (no n) = rw (le-ltb (p i) (suc v) (omega arith), le-ltb (p i) v (omega arith), ne_eqb (p i) v n)

pub under_all : (m : ℕ) (p : ℕ → ℕ) → Permutes m p → (v : ℕ) → v ≤ m → under p v m ≡ v
under_all m p h zero l = count_zero (λ j. ltb (p j) 0) m (λ i a. le-ltb (p i) 0 (omega arith))
under_all m p h (suc v) l = omega (arith, under_more p v m, under_all m p h v (omega arith), once)
  where
    once : count_where (λ j. eqb (p j) v) m ≡ 1
    once =
        let o = onto m p h v (omega arith) in
        count_one (λ j. eqb (p j) v) m o.0 o.1 (eq-eqb (p o.0) v (sym o.2))
        (λ i a n. ne_eqb (p i) v (λ e. n (h.distinct i o.0 a o.1 (e ∙ o.2))))

-- the first i, and n more
pub count_split : (f : ℕ → Bool) (i n : ℕ) → count_where f (i + n) ≡ count_where f i + count_where (λ j. f (i + j)) n
unfolding count_where
count_split f i zero = rw (add-zero i) (sym (add-zero (count_where f i)))
count_split f i (suc n) = rw (add-suc i n) (omega (arith, count_split f i n))
