-- Sums of integers over the numbers below m: a permutation of the places changes none, and a list need name only those that add something.
use Rattle.std.specs.Prelude.{◌≡◌, refl, ◌≢◌, ◌⊎◌, cond, ℕ, zero, suc, ◌<◌, eqb, ℤ, pos}
use Rattle.std.proofs.Common.{sym, ◌∙◌, inl, inr, arith, eq-eqb, ne_eqb}
use Rattle.std.proofs.Math.Decide.{ℕ_discrete}
use Rattle.lemmas.specs.Sums.{sum, sum_ext, sum_none, sum_one, sum_swap}
use Rattle.lemmas.specs.Places.{Placed, Unplaced, place}
use Rattle.paper.specs.Refusal.Rules.{Distinct, Permutes}

-- ---- m + 1 numbers below m are not distinct
pub crowded : (m : ℕ) (p : ℕ → ℕ) → ((k : ℕ) → k < suc m → p k < m) → Distinct (suc m) p → ⊥
crowded zero p w d = omega (arith, w 0 (omega arith))
crowded (suc m) p w d = crowded m p' (λ k h. below k h (ℕ_discrete (p k) m)) (λ a b ha hb. apart a b ha hb (ℕ_discrete (p a) m) (ℕ_discrete (p b) m))
  where
    v : ℕ
    v = p (suc m)

    p' : ℕ → ℕ
    p' k = cond (eqb (p k) m) v (p k)

    is_v : (k : ℕ) → p k ≡ m → p' k ≡ v
    is_v k e = rw (eq-eqb (p k) m e)

    is_p : (k : ℕ) → p k ≢ m → p' k ≡ p k
    is_p k e = rw (ne_eqb (p k) m e)

    new : (k : ℕ) → k < suc m → p k ≢ v
    new k h e = omega (arith, d k (suc m) (omega arith) (omega arith) e)

    below : (k : ℕ) → k < suc m → Dec (p k ≡ m) → p' k < m
    below k h (yes e) = rw (is_v k e) (let n : v ≢ m = λ q. new k h (e ∙ sym q) in omega (arith, w (suc m) (omega arith)))
    below k h (no e) = rw (is_p k e) (omega (arith, w k (omega arith)))

    apart : (a b : ℕ) → a < suc m → b < suc m → Dec (p a ≡ m) → Dec (p b ≡ m) → p' a ≡ p' b → a ≡ b
    apart a b ha hb (yes x) (yes y) e = d a b (omega arith) (omega arith) (x ∙ sym y)
    apart a b ha hb (yes x) (no y) e = absurd (new b hb (sym (is_p b y) ∙ (sym e ∙ is_v a x)))
    apart a b ha hb (no x) (yes y) e = absurd (new a ha (sym (is_p a x) ∙ (e ∙ is_v b y)))
    apart a b ha hb (no x) (no y) e = d a b (omega arith) (omega arith) (sym (is_p a x) ∙ (e ∙ is_p b y))

-- so a permutation reaches every number below m
pub onto : (m : ℕ) (p : ℕ → ℕ) → Permutes m p → (v : ℕ) → v < m → Placed m p v
onto m p h v l = go (place m p v)
  where
    p⁺ : ℕ → ℕ
    p⁺ k = cond (eqb k m) v (p k)

    last : (k : ℕ) → k ≡ m → p⁺ k ≡ v
    last k e = rw (eq-eqb k m e)

    old : (k : ℕ) → k ≢ m → p⁺ k ≡ p k
    old k e = rw (ne_eqb k m e)

    below : (k : ℕ) → k < suc m → Dec (k ≡ m) → p⁺ k < m
    below k b (yes e) = rw (last k e) l
    below k b (no e) = rw (old k e) (h.within k (omega arith))

    apart : ((k : ℕ) → k < m → v ≢ p k) → (a b : ℕ) → a < suc m → b < suc m → Dec (a ≡ m) → Dec (b ≡ m) → p⁺ a ≡ p⁺ b → a ≡ b
    apart r a b ha hb (yes x) (yes y) e = x ∙ sym y
    apart r a b ha hb (yes x) (no y) e = absurd (r b (omega arith) (sym (last a x) ∙ (e ∙ old b y)))
    apart r a b ha hb (no x) (yes y) e = absurd (r a (omega arith) (sym (last b y) ∙ (sym e ∙ old a x)))
    apart r a b ha hb (no x) (no y) e = h.distinct a b (omega arith) (omega arith) (sym (old a x) ∙ (e ∙ old b y))

    go : Placed m p v ⊎ ((k : ℕ) → k < m → v ≢ p k) → Placed m p v
    go (inl r) = r
    go (inr r) = absurd (crowded m p⁺ (λ k b. below k b (ℕ_discrete k m)) (λ a b ha hb. apart r a b ha hb (ℕ_discrete a m) (ℕ_discrete b m)))

-- a sum over numbers below n that stand once each in a list of m, where those that do not stand there add nothing
pub sum_listed :
    (m n : ℕ) (p : ℕ → ℕ) (f : ℕ → ℤ) → ((k : ℕ) → k < m → p k < n) → Distinct m p
    → ((v : ℕ) → v < n → Unplaced m p v → f v ≡ pos 0) → sum m (λ k. f (p k)) ≡ sum n f
sum_listed m n p f within distinct rest =
    sym (sum_ext m (λ k. sum n (λ v. hit k v)) (λ k. f (p k)) row)
    ∙ (sum_swap m n hit ∙ sum_ext n (λ v. sum m (λ k. hit k v)) f (λ v l. column v l (place m p v)))
  where
    hit : ℕ → ℕ → ℤ
    hit k v = cond (eqb v (p k)) (f v) (pos 0)

    same : (k v : ℕ) → Dec (v ≡ p k) → hit k v ≡ cond (eqb v (p k)) (f (p k)) (pos 0)
    same k v (yes e) = rw e
    same k v (no e) = rw (ne_eqb v (p k) e)

    row : (k : ℕ) → k < m → sum n (λ v. hit k v) ≡ f (p k)
    row k l =
        sum_ext n (λ v. hit k v) (λ v. cond (eqb v (p k)) (f (p k)) (pos 0)) (λ v _. same k v (ℕ_discrete v (p k)))
        ∙ sum_one n (λ v. eqb v (p k)) (f (p k)) (p k) (within k l) (eq-eqb (p k) (p k) refl) (λ v _ ne. ne_eqb v (p k) ne)

    column : (v : ℕ) → v < n → Placed m p v ⊎ Unplaced m p v → sum m (λ k. hit k v) ≡ f v
    column v l (inl r) =
        sum_one m (λ k. eqb v (p k)) (f v) r.0 r.1 (eq-eqb v (p r.0) r.2)
        (λ k lk ne. ne_eqb v (p k) (λ e. ne (distinct k r.0 lk r.1 (sym e ∙ r.2))))
    column v l (inr u) = sum_none m (λ k. eqb v (p k)) (f v) (λ k lk. ne_eqb v (p k) (u k lk)) ∙ sym (rest v l u)

-- so a sum over the places is the same in any order
pub sum_permuted : (m : ℕ) (p : ℕ → ℕ) (f : ℕ → ℤ) → Permutes m p → sum m (λ k. f (p k)) ≡ sum m f
sum_permuted m p f h =
    sum_listed m m p f h.within h.distinct (λ v l u. let r = onto m p h v l in absurd (u r.0 r.1 r.2))
