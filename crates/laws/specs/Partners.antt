-- Laws of the exchange of partners, and of patterns whose pairs agree.
use Rattle.std.specs.Prelude.{ℕ, zero, suc, ◌+◌, ◌*◌, ◌/◌, ◌<◌, ◌≤◌, ◌≡◌, refl, Bool, true, false, not, ◌||◌}
use Rattle.std.proofs.Common.{sym, ◌∙◌, ap, arith, div-add-mod', lt-ltb, le-ltb}
use Rattle.std.proofs.Math.Decide.{ℕ_discrete, dec_lt}
use Rattle.lemmas.specs.Ints.{eq_z, is_same}
use Rattle.lemmas.specs.Bools.{never}
use Rattle.paper.specs.Panel.Input.{Pattern}
use Rattle.paper.specs.Site.Acting.{pair_differs}
use Rattle.paper.specs.Move.Moving.{other, partner}
use Rattle.paper.specs.Refusal.Rules.{Permutes}
use Rattle.laws.specs.Patterns.{pair_ext, other_other, other_lt, Half, Half.first, Half.second, half, other_first, other_second}

pub pairs_fit : (m : ℕ) → 2 * (m / 2) ≤ m
pairs_fit m = omega (arith, div-add-mod' m 2)

-- the partner of a place with one, and of the last of an odd number
pub partner_in : (m k : ℕ) → k < 2 * (m / 2) → partner m k ≡ other k
partner_in m k h = rw (lt-ltb k (2 * (m / 2)) h)

pub partner_out : (m k : ℕ) → 2 * (m / 2) ≤ k → partner m k ≡ k
partner_out m k h = rw (le-ltb k (2 * (m / 2)) h)

pub partner_twice : (m k : ℕ) → partner m (partner m k) ≡ k
partner_twice m k = go (dec_lt k (2 * (m / 2)))
  where
    go : Dec (k < 2 * (m / 2)) → partner m (partner m k) ≡ k
    go (yes h) = ap (partner m) (partner_in m k h) ∙ (partner_in m (other k) (other_lt (m / 2) k h) ∙ other_other k)
    go (no h) = let q : 2 * (m / 2) ≤ k = omega arith in ap (partner m) (partner_out m k q) ∙ partner_out m k q

pub partner_lt : (m k : ℕ) → k < m → partner m k < m
partner_lt m k l = go (dec_lt k (2 * (m / 2)))
  where
    go : Dec (k < 2 * (m / 2)) → partner m k < m
    go (yes h) = rw (lt-ltb k (2 * (m / 2)) h) (omega (arith, other_lt (m / 2) k h, pairs_fit m))
    go (no h) = let q : 2 * (m / 2) ≤ k = omega arith in rw (le-ltb k (2 * (m / 2)) q) l

pub partner_permutes : (m : ℕ) → Permutes m (partner m)
partner_permutes m = record { within = partner_lt m; distinct = λ a b _ _ e. sym (partner_twice m a) ∙ (ap (partner m) e ∙ partner_twice m b) }

-- ---- no pair disagrees: partners have equal spins
pub pair_no : (m : ℕ) (f : Pattern) → pair_differs m f ≡ false → (i : ℕ) → i < m → f (2 * i) ≡ f (2 * i + 1)
unfolding pair_differs
pair_no zero f e i h = absurd (omega arith)
pair_no (suc m) f e i h = go (eq_z (f (2 * m)) (f (2 * m + 1))) refl e (pair_no m f)
  where
    go :
        (b : Bool)
        → eq_z (f (2 * m)) (f (2 * m + 1)) ≡ b
        → (not b || pair_differs m f) ≡ false
        → (pair_differs m f ≡ false → (i : ℕ) → i < m → f (2 * i) ≡ f (2 * i + 1))
        → f (2 * i) ≡ f (2 * i + 1)
    go true s e' ih = at (ℕ_discrete i m)
      where
        at : Dec (i ≡ m) → f (2 * i) ≡ f (2 * i + 1)
        at (yes q) = rw q (is_same (f (2 * m)) (f (2 * m + 1)) s)
        at (no q) = ih e' i (omega arith)
    go false s e' ih = never (sym e')

other_same : (m : ℕ) (f : Pattern) → pair_differs m f ≡ false → {k : ℕ} → Half k → k < 2 * m → f (other k) ≡ f k
other_same m f e (first i) h = rw (other_first i) (sym (pair_no m f e i (omega arith)))
other_same m f e (second i) h = rw (other_second i) (pair_no m f e i (omega arith))

pub partner_same : (m : ℕ) (f : Pattern) → pair_differs (m / 2) f ≡ false → (k : ℕ) → f (partner m k) ≡ f k
partner_same m f e k = go (dec_lt k (2 * (m / 2)))
  where
    go : Dec (k < 2 * (m / 2)) → f (partner m k) ≡ f k
    go (yes h) = ap f (partner_in m k h) ∙ other_same (m / 2) f e (half k) h
    go (no h) = let q : 2 * (m / 2) ≤ k = omega arith in ap f (partner_out m k q)

-- the exchange changes no test of pairs
pub pair_partner : (m : ℕ) (f : Pattern) → pair_differs (m / 2) (λ k. f (partner m k)) ≡ pair_differs (m / 2) f
pair_partner m f = go (pair_differs (m / 2) f) (pair_differs (m / 2) (λ k. f (partner m k))) refl refl
  where
    go :
        (s t : Bool)
        → pair_differs (m / 2) f ≡ s
        → pair_differs (m / 2) (λ k. f (partner m k)) ≡ t
        → pair_differs (m / 2) (λ k. f (partner m k)) ≡ pair_differs (m / 2) f
    go false t p q = pair_ext (m / 2) (λ k. f (partner m k)) f (λ k _. partner_same m f p k)
    go true true p q = q ∙ sym p
    go true false p q =
        pair_ext (m / 2) (λ k. f (partner m k)) f (λ k _. sym (partner_same m (λ k. f (partner m k)) q k) ∙ ap f (partner_twice m k))
