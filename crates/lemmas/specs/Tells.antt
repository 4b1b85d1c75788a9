-- How tests are put together, as the code puts its flags together.
use Rattle.std.specs.Prelude.{ℕ, ◌+◌, ◌≤◌, ◌<◌, ◌≡◌, refl, ◌⊎◌, Bool, true, false, not, ◌&&◌, ◌||◌, ltb, leb, eqb}
use Rattle.std.proofs.Common.{zero-le, sym, ◌∙◌, subst, inl, inr, ⊎_elim, below_none, below_more, ltb-true, ltb-false, leb-true, leb-false, eqb-true, le_antisymm, arith}
use Rattle.std.proofs.lemmas.Bool.{eqb-false, not-true, not-false}
use Rattle.lemmas.specs.Bools.{never}

-- a test's Bool is true exactly when the claim holds
abbrev pub Tells : Bool → Type 0 → Type 0
Tells true P = P
Tells false P = P → ⊥

-- of `if f(..) { A } else { B }`, in A and in B
pub told : {b : Bool} {P : Type 0} → b ≡ true → Tells b P → P
told {b} {P} e t = subst (λ (x : Bool). Tells x P) e t

pub denied : {b : Bool} {P : Type 0} → b ≡ false → Tells b P → P → ⊥
denied {b} {P} e t = subst (λ (x : Bool). Tells x P) e t

-- of `if !f(..) { A } else { B }`, in B and in A
pub passed : (b : Bool) {P : Type 0} → not b ≡ false → Tells b P → P
passed b e t = told (not-false b e) t

pub refused : (b : Bool) {P : Type 0} → not b ≡ true → Tells b P → P → ⊥
refused b e t = denied (not-true b e) t

-- `Tells` as a record, from which the flag and the claim can be read off
pub record Test (b : Bool) (P : Type 0) : Type 0 where
  pub says : Tells b P

-- a claim has one answer
pub tells_determined : (P : Type 0) (r r' : Bool) → Tells r P → Tells r' P → r ≡ r'
tells_determined P true true t t' = refl
tells_determined P true false t t' = absurd (t' t)
tells_determined P false true t t' = absurd (t t')
tells_determined P false false t t' = refl

-- what a call says
pub said : (b : Bool) (P : Type 0) → Tells b P → Test b P
said b P t = record { says = t }

by_cases : (b : Bool) (P : Type 0) → (b ≡ true → P) → (b ≡ false → P → ⊥) → Tells b P
by_cases true P y n = y refl
by_cases false P y n = n refl

map_tells : (b : Bool) (P Q : Type 0) → (P → Q) → (Q → P) → Tells b P → Tells b Q
map_tells true P Q f g t = f t
map_tells false P Q f g t = λ q. t (g q)

and_tells : (a b : Bool) (P Q : Type 0) → Tells a P → Tells b Q → Tells (a && b) (P × Q)
and_tells true true P Q p q = (p, q)
and_tells true false P Q p q = λ h. q h.1
and_tells false true P Q p q = λ h. p h.0
and_tells false false P Q p q = λ h. p h.0

or_tells : (a b : Bool) (P Q : Type 0) → Tells a P → Tells b Q → Tells (a || b) (P ⊎ Q)
or_tells true true P Q p q = inl p
or_tells true false P Q p q = inl p
or_tells false true P Q p q = inr q
or_tells false false P Q p q = ⊎_elim p q

not_tells : (b : Bool) (P : Type 0) → Tells b P → Tells (not b) (P → ⊥)
not_tells true P p = λ n. n p
not_tells false P p = p

implies_tells : (a b : Bool) (P Q : Type 0) → Tells a P → Tells b Q → Tells (not a || b) (P → Q)
implies_tells true true P Q p q = λ h. q
implies_tells true false P Q p q = λ h. q (h p)
implies_tells false true P Q p q = λ h. q
implies_tells false false P Q p q = λ h. absurd (p h)

pub same : {b : Bool} {P : Type 0} (Q : Type 0) → (P → Q) → (Q → P) → Test b P → Test b Q
same {b} {P} Q f g t = said b Q (map_tells b P Q f g t.says)

pub both : {a b : Bool} {P Q : Type 0} → Test a P → Test b Q → Test (a && b) (P × Q)
both {a} {b} {P} {Q} p q = said (a && b) (P × Q) (and_tells a b P Q p.says q.says)

pub either : {a b : Bool} {P Q : Type 0} → Test a P → Test b Q → Test (a || b) (P ⊎ Q)
either {a} {b} {P} {Q} p q = said (a || b) (P ⊎ Q) (or_tells a b P Q p.says q.says)

pub fails : {b : Bool} {P : Type 0} → Test b P → Test (not b) (P → ⊥)
fails {b} {P} p = said (not b) (P → ⊥) (not_tells b P p.says)

pub implies : {a b : Bool} {P Q : Type 0} → Test a P → Test b Q → Test (not a || b) (P → Q)
implies {a} {b} {P} {Q} p q = said (not a || b) (P → Q) (implies_tells a b P Q p.says q.says)

pub test_lt : (a b : ℕ) → Test (ltb a b) (a < b)
test_lt a b = said (ltb a b) (a < b) (by_cases (ltb a b) (a < b) (ltb-true a b) (λ e h. let l : b ≤ a = ltb-false a b e in omega arith))

pub test_le : (a b : ℕ) → Test (leb a b) (a ≤ b)
test_le a b = said (leb a b) (a ≤ b) (by_cases (leb a b) (a ≤ b) (leb-true a b) (λ e h. let l : b < a = leb-false a b e in omega arith))

pub test_eq : (a b : ℕ) → Test (eqb a b) (a ≡ b)
test_eq a b = said (eqb a b) (a ≡ b) (by_cases (eqb a b) (a ≡ b) (eqb-true a b) (eqb-false a b))

-- a claim that is the test's own result
pub test_is : (b : Bool) → Test b (b ≡ true)
test_is true = record { says = refl }
test_is false = record { says = λ e. absurd (let z : ◌≡◌ {A = ℕ} 0 1 = cc in omega arith) }

-- ---- a test that is made only if its input is taken
pub when_taken : (b : Bool) {t : Bool} (P : Type 0) → t ≡ true → Tells b P → Tells b (t ≡ true → P)
when_taken true P e h = λ _. h
when_taken false P e h = λ w. h (w e)

pub when_not : {t : Bool} {P : Type 0} → t ≡ false → t ≡ true → P
when_not n e = never (sym n ∙ e)

-- ---- a flag kept over a loop that counts up to n

-- of each number below n
abbrev pub Each : ℕ → (ℕ → Type 0) → Type 0
Each n P = (k : ℕ) → k < n → P k

-- i turns are done, and the flag tells of the numbers below i
pub record Flagged (n : ℕ) (P : ℕ → Type 0) (i : ℕ) (flag : Bool) : Type 0 where
  pub reached : i ≤ n
  pub tells : Tells flag (Each i P)

pub flag_start : (n : ℕ) (P : ℕ → Type 0) → Flagged n P 0 true
flag_start n P = record { reached = zero-le; tells = below_none P }

pub flag_more : {n : ℕ} {P : ℕ → Type 0} {i : ℕ} {a b : Bool} → Flagged n P i a → i < n → Test b (P i) → Flagged n P (i + 1) (a && b)
flag_more {n} {P} {i} {a} f l t = record {
  reached = omega arith;
  tells = (same (Each (i + 1) P) (λ h. below_more P i h.0 h.1) split (both (said a (Each i P) f.tells) t)).says;
}
  where
    split : Each (i + 1) P → Each i P × P i
    split h = ((λ k l. h k (omega arith)), h i (omega arith))

pub flag_end : {n : ℕ} {P : ℕ → Type 0} {i : ℕ} {a : Bool} → Flagged n P i a → n ≤ i → Tells a (Each n P)
flag_end {n} {P} {i} {a} f g = subst (λ (m : ℕ). Tells a (Each m P)) (le_antisymm f.reached g) f.tells
