-- Claims that a test decides, and the verdict on a list of them.
use Rattle.std.specs.Prelude.{ℕ, zero, suc, ◌≤◌, ◌<◌, ◌≡◌, refl, ◌⊎◌, Bool, true, false, not, cond, ◌&&◌, ◌||◌, List, [], ◌∷◌, ◌++◌, eqb, ltb, leb, ℤ}
use Rattle.std.proofs.Common.{sym, ◌∙◌, inl, inr, arith, eqb-true, eq-eqb, ltb-true, lt-ltb, leb-true, le-leb}
use Rattle.std.proofs.Math.Decide.{ℕ_discrete}
use Rattle.lemmas.specs.Ints.{eq_z, is_same, same_is}
use Rattle.lemmas.specs.Bools.{never, and_left, and_right, every, every_is}
use Rattle.paper.specs.Refusal.Rule.{Rule}
use Rattle.paper.specs.Refusal.Rules.{When}
use Rattle.paper.specs.Refusal.Verdict.{Verdict}

-- the test passes exactly if the claim holds
pub record Decided (P : Type 0) : Type 0 where
  pub test : Bool
  pub holds : test ≡ true → P
  pub found : P → test ≡ true

pub denies : {P : Type 0} (d : Decided P) → d.test ≡ false → P → ⊥
denies d e p = never (sym e ∙ d.found p)

-- ---- claims on numbers
abbrev pub le : (a b : ℕ) → Decided (a ≤ b)
le a b = record { test = leb a b; holds = leb-true a b; found = le-leb a b }

abbrev pub lt : (a b : ℕ) → Decided (a < b)
lt a b = record { test = ltb a b; holds = ltb-true a b; found = lt-ltb a b }

abbrev pub eq : (a b : ℕ) → Decided (a ≡ b)
eq a b = record { test = eqb a b; holds = eqb-true a b; found = eq-eqb a b }

abbrev pub same : (a b : ℤ) → Decided (a ≡ b)
same a b = record { test = eq_z a b; holds = is_same a b; found = same_is a b }

abbrev pub is : (t : Bool) → Decided (t ≡ true)
is t = record { test = t; holds = λ e. e; found = λ e. e }

-- ---- claims on claims
abbrev pub iff : {P Q : Type 0} → (P → Q) → (Q → P) → Decided P → Decided Q
iff f g d = record { test = d.test; holds = λ e. f (d.holds e); found = λ q. d.found (g q) }

abbrev pub both : {P Q : Type 0} → Decided P → Decided Q → Decided (P × Q)
both d e = record {
  test = d.test && e.test;
  holds = λ t. (d.holds (and_left d.test _ t), e.holds (and_right d.test _ t));
  found = λ q. rw (d.found q.0) (e.found q.1);
}

pub or_true : (a b : Bool) → (a || b) ≡ true → (a ≡ true) ⊎ (b ≡ true)
or_true true b e = inl refl
or_true false b e = inr e

true_or : (a b : Bool) → b ≡ true → (a || b) ≡ true
true_or true b e = refl
true_or false b e = e

pub not_or : (a b : Bool) → (not a || b) ≡ true → a ≡ true → b ≡ true
not_or true b e _ = e
not_or false b e q = never q

pub or_not : (a b : Bool) → (a ≡ true → b ≡ true) → (not a || b) ≡ true
or_not true b h = h refl
or_not false b h = refl

pub pick : {P Q : Type 0} (d : Decided P) (e : Decided Q) → (d.test ≡ true) ⊎ (e.test ≡ true) → P ⊎ Q
pick d e (inl t) = inl (d.holds t)
pick d e (inr t) = inr (e.holds t)

pub put : {P Q : Type 0} (d : Decided P) (e : Decided Q) → P ⊎ Q → (d.test || e.test) ≡ true
put d e (inl p) = rw (d.found p) refl
put d e (inr q) = true_or d.test e.test (e.found q)

abbrev pub either : {P Q : Type 0} → Decided P → Decided Q → Decided (P ⊎ Q)
either d e = record { test = d.test || e.test; holds = λ t. pick d e (or_true d.test e.test t); found = put d e }

abbrev pub implies : {P Q : Type 0} → Decided P → Decided Q → Decided (P → Q)
implies d e = record {
  test = not d.test || e.test;
  holds = λ t p. e.holds (not_or d.test e.test t (d.found p));
  found = λ f. or_not d.test e.test (λ t. e.found (f (d.holds t)));
}

abbrev pub when : (w : Bool) {P : Type 0} → Decided P → Decided (When w P)
when w d = implies (is w) d

abbrev pub absurdity : Decided ⊥
absurdity = record { test = false; holds = never; found = λ x. absurd x }

-- ---- claims on every number below m, and on some
pub is_every : (m : ℕ) (f : ℕ → Bool) → ((k : ℕ) → k < m → f k ≡ true) → every m f ≡ true
unfolding every
is_every zero f h = refl
is_every (suc m) f h = rw (h m (omega arith)) (is_every m f (λ k l. h k (omega arith)))

abbrev pub all : (m : ℕ) {P : ℕ → Type 0} → ((k : ℕ) → Decided (P k)) → Decided ((k : ℕ) → k < m → P k)
all m d = record {
  test = every m (λ k. (d k).test);
  holds = λ t k h. (d k).holds (every_is m (λ k. (d k).test) t k h);
  found = λ h. is_every m (λ k. (d k).test) (λ k l. (d k).found (h k l));
}

unfoldable pub any : ℕ → (ℕ → Bool) → Bool
any zero f = false
any (suc m) f = f m || any m f

pub any_is : (m : ℕ) (f : ℕ → Bool) → any m f ≡ true → (k : ℕ) × (k < m) × (f k ≡ true)
unfolding any
any_is zero f e = never e
any_is (suc m) f e = go (or_true (f m) (any m f) e) (any_is m f)
  where
    go :
        (f m ≡ true) ⊎ (any m f ≡ true)
        → (any m f ≡ true → (k : ℕ) × (k < m) × (f k ≡ true))
        → (k : ℕ) × (k < suc m) × (f k ≡ true)
    go (inl t) ih = (m, omega arith, t)
    go (inr t) ih = let r = ih t in (r.0, omega (arith, r.1), r.2)

pub is_any : (m : ℕ) (f : ℕ → Bool) (k : ℕ) → k < m → f k ≡ true → any m f ≡ true
unfolding any
is_any zero f k h e = absurd (omega arith)
is_any (suc m) f k h e = go (ℕ_discrete k m) (λ (l : k < m). is_any m f k l e)
  where
    go : Dec (k ≡ m) → (k < m → any m f ≡ true) → (f m || any m f) ≡ true
    go (yes q) ih = rw (rw q at e) refl
    go (no q) ih = true_or (f m) (any m f) (ih (omega arith))

abbrev pub some : (m : ℕ) {P : ℕ → Type 0} → ((k : ℕ) → Decided (P k)) → Decided ((k : ℕ) × (k < m) × P k)
some m d = record {
  test = any m (λ k. (d k).test);
  holds = λ t. let r = any_is m (λ k. (d k).test) t in (r.0, r.1, (d r.0).holds r.2);
  found = λ r. is_any m (λ k. (d k).test) r.0 r.1 ((d r.0).found r.2);
}

-- ---- rules in their order
abbrev pub DecidedAll : List Rule → Type 0
DecidedAll [] = Unit {0}
DecidedAll (r ∷ rs) = Decided r.claim × DecidedAll rs

-- the number of the first rule that is broken, else 0
abbrev pub refusal : (rs : List Rule) → DecidedAll rs → ℕ
refusal [] d = 0
refusal (r ∷ rs) d = cond d.0.test (refusal rs d.1) r.number

-- each has a number
abbrev pub numbered : List Rule → Bool
numbered [] = true
numbered (r ∷ rs) = ltb 0 r.number && numbered rs

passed : (r : Rule) (rs : List Rule) (k : ℕ) → r.claim → Verdict rs k → Verdict (r ∷ rs) k
passed r rs zero p v = (p, v)
passed r rs (suc k) p v = inr (p, v)

failed : (r : Rule) (rs : List Rule) (k : ℕ) → 0 < k → r.number ≡ k → (r.claim → ⊥) → Verdict (r ∷ rs) k
failed r rs zero z e h = absurd (omega arith)
failed r rs (suc k) z e h = inl (h, e)

pub verdict_by : (rs : List Rule) (d : DecidedAll rs) → numbered rs ≡ true → Verdict rs (refusal rs d)
verdict_by [] d e = tt
verdict_by (r ∷ rs) d e = go d.0.test refl (verdict_by rs d.1 (and_right (ltb 0 r.number) _ e))
  where
    go : (t : Bool) → d.0.test ≡ t → Verdict rs (refusal rs d.1) → Verdict (r ∷ rs) (cond t (refusal rs d.1) r.number)
    go true q v = passed r rs (refusal rs d.1) (d.0.holds q) v
    go false q v = failed r rs r.number (ltb-true 0 r.number (and_left (ltb 0 r.number) _ e)) refl (denies d.0 q)

-- rules after others
abbrev pub joined : (rs qs : List Rule) → DecidedAll rs → DecidedAll qs → DecidedAll (rs ++ qs)
joined [] qs d e = e
joined (r ∷ rs) qs d e = (d.0, joined rs qs d.1 e)
