-- Laws of patterns of spins: what the tests say, partners, and gauges.
use Rattle.std.specs.Prelude.{ℕ, zero, suc, ◌+◌, ◌*◌, ◌<◌, ◌≡◌, refl, Bool, true, false, not, cond, ◌||◌, ℤ, pos, neg_ℤ, ◌+ℤ◌, ◌*ℤ◌}
use Rattle.std.proofs.Common.{sym, ap, inl, inr, arith, add-one}
use Rattle.std.proofs.Math.Decide.{ℕ_discrete}
use Rattle.lemmas.specs.Ints.{eq_z, is_same, same_is}
use Rattle.lemmas.specs.Bools.{never}
use Rattle.paper.specs.Panel.Input.{Pattern}
use Rattle.paper.specs.Site.Acting.{differs, pair_differs}
use Rattle.paper.specs.Move.Moving.{other}
use Rattle.paper.specs.Refusal.Rules.{Spin}

-- ---- spins
pub square : (a x y : ℤ) → Spin a → Spin x → Spin y → (a *ℤ x) *ℤ (a *ℤ y) ≡ x *ℤ y
square a x y (inl p) (inl q) (inl r) = rw (p, q, r)
square a x y (inl p) (inl q) (inr r) = rw (p, q, r)
square a x y (inl p) (inr q) (inl r) = rw (p, q, r)
square a x y (inl p) (inr q) (inr r) = rw (p, q, r)
square a x y (inr p) (inl q) (inl r) = rw (p, q, r)
square a x y (inr p) (inl q) (inr r) = rw (p, q, r)
square a x y (inr p) (inr q) (inl r) = rw (p, q, r)
square a x y (inr p) (inr q) (inr r) = rw (p, q, r)

pub own_square : (a b : ℤ) → Spin a → Spin b → a *ℤ a ≡ b *ℤ b
own_square a b (inl p) (inl q) = rw (p, q)
own_square a b (inl p) (inr q) = rw (p, q)
own_square a b (inr p) (inl q) = rw (p, q)
own_square a b (inr p) (inr q) = rw (p, q)

pub ungauge : (a x : ℤ) → Spin a → Spin x → a *ℤ (a *ℤ x) ≡ x
ungauge a x (inl p) (inl q) = rw (p, q)
ungauge a x (inl p) (inr q) = rw (p, q)
ungauge a x (inr p) (inl q) = rw (p, q)
ungauge a x (inr p) (inr q) = rw (p, q)

pub gauge_cancel : (a b x : ℤ) → Spin a → Spin b → Spin x → a *ℤ (a *ℤ b *ℤ x) ≡ b *ℤ x
gauge_cancel a b x (inl p) (inl q) (inl r) = rw (p, q, r)
gauge_cancel a b x (inl p) (inl q) (inr r) = rw (p, q, r)
gauge_cancel a b x (inl p) (inr q) (inl r) = rw (p, q, r)
gauge_cancel a b x (inl p) (inr q) (inr r) = rw (p, q, r)
gauge_cancel a b x (inr p) (inl q) (inl r) = rw (p, q, r)
gauge_cancel a b x (inr p) (inl q) (inr r) = rw (p, q, r)
gauge_cancel a b x (inr p) (inr q) (inl r) = rw (p, q, r)
gauge_cancel a b x (inr p) (inr q) (inr r) = rw (p, q, r)

pub flip_spin : (t : Bool) (a : ℤ) → Spin a → Spin (cond t (neg_ℤ a) a)
flip_spin false a s = s
flip_spin true a (inl p) = inr (rw p)
flip_spin true a (inr p) = inl (rw p)

pub times_spin : (a b : ℤ) → Spin a → Spin b → Spin (a *ℤ b)
times_spin a b (inl p) (inl q) = inl (rw (p, q))
times_spin a b (inl p) (inr q) = inr (rw (p, q))
times_spin a b (inr p) (inl q) = inr (rw (p, q))
times_spin a b (inr p) (inr q) = inl (rw (p, q))

-- two spins of sum 0 are opposite, and two of another sum are equal
pub opposite : (a b : ℤ) → Spin a → Spin b → eq_z ((pos 0 +ℤ a) +ℤ b) (pos 0) ≡ true → (neg_ℤ a ≡ b) × (neg_ℤ b ≡ a)
opposite a b (inl p) (inl q) e = never (rw (p, q) at e)
opposite a b (inl p) (inr q) e = (rw (p, q), rw (p, q))
opposite a b (inr p) (inl q) e = (rw (p, q), rw (p, q))
opposite a b (inr p) (inr q) e = never (rw (p, q) at e)

pub agree : (a b : ℤ) → Spin a → Spin b → eq_z ((pos 0 +ℤ a) +ℤ b) (pos 0) ≡ false → a ≡ b
agree a b (inl p) (inl q) e = rw (p, q)
agree a b (inl p) (inr q) e = never (sym (rw (p, q) at e))
agree a b (inr p) (inl q) e = never (sym (rw (p, q) at e))
agree a b (inr p) (inr q) e = rw (p, q)

-- ---- the tests depend on the first m places alone
pub differs_ext : (m : ℕ) (f g : Pattern) → f 0 ≡ g 0 → ((k : ℕ) → k < m → f k ≡ g k) → differs m f ≡ differs m g
unfolding differs
differs_ext zero f g z e = refl
differs_ext (suc m) f g z e = cc (z, e m (omega arith), differs_ext m f g z (λ k h. e k (omega arith)))

pub pair_ext : (m : ℕ) (f g : Pattern) → ((k : ℕ) → k < 2 * m → f k ≡ g k) → pair_differs m f ≡ pair_differs m g
unfolding pair_differs
pair_ext zero f g e = refl
pair_ext (suc m) f g e = cc (e (2 * m) (omega arith), e (2 * m + 1) (omega arith), pair_ext m f g (λ k h. e k (omega arith)))

-- not true: all are equal to the first
pub differs_no : (m : ℕ) (f : Pattern) → differs m f ≡ false → (k : ℕ) → k < m → f k ≡ f 0
unfolding differs
differs_no zero f e k h = absurd (omega arith)
differs_no (suc m) f e k h = go (eq_z (f m) (f 0)) refl e (differs_no m f)
  where
    go : (b : Bool) → eq_z (f m) (f 0) ≡ b → (not b || differs m f) ≡ false → (differs m f ≡ false → (k : ℕ) → k < m → f k ≡ f 0) → f k ≡ f 0
    go true s e' ih = at (ℕ_discrete k m)
      where
        at : Dec (k ≡ m) → f k ≡ f 0
        at (yes q) = rw q (is_same (f m) (f 0) s)
        at (no q) = ih e' k (omega arith)
    go false s e' ih = never (sym e')

pub no_differs : (m : ℕ) (f : Pattern) → ((k : ℕ) → k < m → f k ≡ f 0) → differs m f ≡ false
unfolding differs
no_differs zero f h = refl
no_differs (suc m) f h = rw (same_is (f m) (f 0) (h m (omega arith))) (no_differs m f (λ k l. h k (omega arith)))

-- ---- partners
pub other_other : (k : ℕ) → other (other k) ≡ k
unfolding other
other_other zero = refl
other_other (suc zero) = refl
other_other (suc (suc k)) = ap (λ (x : ℕ). suc (suc x)) (other_other k)

-- each place is the first or the second of a pair
pub data Half : ℕ → Type 0 where
  first : (i : ℕ) → Half (2 * i)
  second : (i : ℕ) → Half (2 * i + 1)

pub other_first : (i : ℕ) → other (2 * i) ≡ 2 * i + 1
unfolding other
other_first zero = refl
other_first (suc i) = let a : 2 * suc i ≡ suc (suc (2 * i)) = omega arith in rw a (omega (arith, other_first i))

pub other_second : (i : ℕ) → other (2 * i + 1) ≡ 2 * i
other_second i = rw (← other_first i) (other_other (2 * i))

pub half : (k : ℕ) → Half k
half zero = first 0
half (suc k) = go (half k)
  where
    go : {k : ℕ} → Half k → Half (suc k)
    go (first i) = rw (← add-one (2 * i)) (second i)
    go (second i) = let a : suc (2 * i + 1) ≡ 2 * suc i = omega arith in rw a (first (suc i))

pub other_lt : (m k : ℕ) → k < 2 * m → other k < 2 * m
other_lt m k h = go (half k) h
  where
    go : {k : ℕ} → Half k → k < 2 * m → other k < 2 * m
    go (first i) h = rw (other_first i) (omega arith)
    go (second i) h = rw (other_second i) (omega arith)

abbrev pub Spinning : ℕ → Pattern → Type 0
Spinning m f = (k : ℕ) → k < m → Spin (f k)
