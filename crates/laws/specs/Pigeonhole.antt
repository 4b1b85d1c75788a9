-- As many different numbers as pass a test, all of which pass it, are all that pass it.
use Rattle.std.specs.Prelude.{ℕ, zero, suc, ◌+◌, ◌≤◌, ◌<◌, ◌≡◌, refl, ◌⊎◌, ◌≢◌, Bool, true, false, not, ◌&&◌, eqb}
use Rattle.std.proofs.Common.{sym, ◌∙◌, ap, inl, inr, arith, eqb-true, eq-eqb}
use Rattle.std.proofs.Math.Decide.{ℕ_discrete}
use Rattle.lemmas.specs.Counts.{bit, count_where, count_ext}
use Rattle.lemmas.specs.Places.{Placed, Unplaced, place}
use Rattle.paper.specs.Refusal.Rules.{Distinct}

-- the same test, which t fails
abbrev without : (ℕ → Bool) → ℕ → ℕ → Bool
without f t i = f i && not (eqb i t)

without_other : (f : ℕ → Bool) (t i : ℕ) → i ≢ t → without f t i ≡ f i
without_other f t i h = go (f i) (eqb i t) refl
  where
    go : (a b : Bool) → eqb i t ≡ b → (a && not b) ≡ a
    go true true e = absurd (h (eqb-true i t e))
    go true false e = refl
    go false b e = refl

without_itself : (f : ℕ → Bool) (t : ℕ) → without f t t ≡ false
without_itself f t = rw (eq-eqb t t refl) (none (f t))
  where
    none : (a : Bool) → (a && false) ≡ false
    none true = refl
    none false = refl

-- one fewer pass it
count_without : (f : ℕ → Bool) (m t : ℕ) → t < m → f t ≡ true → count_where f m ≡ suc (count_where (without f t) m)
unfolding count_where
count_without f zero t h e = absurd (omega arith)
count_without f (suc m) t h e = go (ℕ_discrete t m) (λ (l : t < m). count_without f m t l e)
  where
    go :
        Dec (t ≡ m)
        → (t < m → count_where f m ≡ suc (count_where (without f t) m))
        → count_where f m + bit (f m) ≡ suc (count_where (without f t) m + bit (without f t m))
    go (yes q) ih =
        let rest : count_where (without f t) m ≡ count_where f m = count_ext (without f t) f m (λ i l. without_other f t i (λ x. omega arith)) in
        let one : bit (f m) ≡ 1 = ap bit (ap f (sym q) ∙ e) in
        let gone : bit (without f t m) ≡ 0 = ap bit (ap (without f t) (sym q) ∙ without_itself f t) in
        omega (arith, rest, one, gone)
    go (no q) ih =
        let same : bit (without f t m) ≡ bit (f m) = ap bit (without_other f t m (λ x. q (sym x))) in
        omega (arith, ih (omega arith), same)

-- m different numbers below s that pass it: at least m do
at_least : (m s : ℕ) (f : ℕ → ℕ) (mine : ℕ → Bool)
    → Distinct m f
    → ((k : ℕ) → k < m → f k < s)
    → ((k : ℕ) → k < m → mine (f k) ≡ true)
    → m ≤ count_where mine s
at_least zero s f mine d b p = omega arith
at_least (suc m) s f mine d b p =
    omega (arith, count_without mine s (f m) (b m (omega arith)) (p m (omega arith)), at_least m s f (without mine (f m)) fewer below pass)
  where
    fewer : Distinct m f
    fewer j k hj hk = d j k (omega arith) (omega arith)

    below : (k : ℕ) → k < m → f k < s
    below k h = b k (omega arith)

    pass : (k : ℕ) → k < m → without mine (f m) (f k) ≡ true
    pass k h = without_other mine (f m) (f k) (λ e. omega (arith, d k m (omega arith) (omega arith) e)) ∙ p k (omega arith)

pub all_listed :
    (m s : ℕ) (f : ℕ → ℕ) (mine : ℕ → Bool)
    → Distinct m f
    → ((k : ℕ) → k < m → f k < s)
    → ((k : ℕ) → k < m → mine (f k) ≡ true)
    → m ≡ count_where mine s
    → (t : ℕ)
    → t < s
    → mine t ≡ true
    → Placed m f t
all_listed m s f mine d b p many t h e = go (place m f t)
  where
    go : Placed m f t ⊎ Unplaced m f t → Placed m f t
    go (inl q) = q
    go (inr q) = absurd (omega (arith, many, count_without mine s t h e, at_least m s f (without mine t) d b pass))
      where
        pass : (k : ℕ) → k < m → without mine t (f k) ≡ true
        pass k l = without_other mine t (f k) (λ x. q k l (sym x)) ∙ p k l
