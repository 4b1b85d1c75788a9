-- Patterns as the mode sees them: a permutation turns one into another where it permutes what is seen. And the identity is the first permutation.
use Rattle.std.specs.Prelude.{ℕ, ◌<◌, ◌≡◌, refl, true, false, ℤ, ◌*ℤ◌}
use Rattle.std.proofs.Common.{sym, ◌∙◌, ap, inl, inr, arith}
use Rattle.lemmas.specs.Bools.{never}
use Rattle.paper.specs.declared.Mode.{Mode}
use Rattle.paper.specs.declared.Mode.TheVariants.{Houd, Pair, Perm, Gperm, Jorg, Cmr}
use Rattle.paper.specs.Panel.Input.{Pattern}
use Rattle.paper.specs.Panel.Takes.{is_perm, is_gperm}
use Rattle.paper.specs.Site.Acting.{gauge, acts_by}
use Rattle.paper.specs.Refusal.Rules.{Spin}
use Rattle.laws.specs.Acting.{gauge_ext}
use Rattle.laws.specs.Patterns.{ungauge, gauge_cancel, times_spin, differs_no}
use Rattle.columns.specs.Column.{is_up}
use Rattle.orders.specs.Words.{Agree, Before, Compared, Compared.equal, Compared.before, Compared.after, compare}
use Rattle.matching.specs.Fitting.{Test, Fits, Least, same, identity_first}
use Rattle.vendor.specs.Vendor.{turned_by}

-- ---- spins
pub up_same : (a b : ℤ) → Spin a → Spin b → is_up a ≡ is_up b → a ≡ b
up_same a b (inl p) (inl q) e = rw (p, q)
up_same a b (inl p) (inr q) e = never (sym (rw (p, q) at e))
up_same a b (inr p) (inl q) e = never (rw (p, q) at e)
up_same a b (inr p) (inr q) e = rw (p, q)

pub gauge_spin : (m : Mode) (P f : Pattern) (k : ℕ) → (is_gperm m ≡ true → Spin (P k)) → Spin (f k) → Spin (gauge m P f k)
gauge_spin Houd P f k sp sf = sf
gauge_spin Pair P f k sp sf = sf
gauge_spin Perm P f k sp sf = sf
gauge_spin Gperm P f k sp sf = times_spin (P k) (f k) (sp refl) sf
gauge_spin Jorg P f k sp sf = sf
gauge_spin Cmr P f k sp sf = sf

-- what is seen alike is alike
pub gauge_same :
    (m : Mode) (P f g : Pattern) (k : ℕ) → (is_gperm m ≡ true → Spin (P k)) → Spin (f k) → Spin (g k) → gauge m P f k ≡ gauge m P g k → f k ≡ g k
gauge_same Houd P f g k sp sf sg e = e
gauge_same Pair P f g k sp sf sg e = e
gauge_same Perm P f g k sp sf sg e = e
gauge_same Gperm P f g k sp sf sg e = sym (ungauge (P k) (f k) (sp refl) sf) ∙ (ap (λ (x : ℤ). P k *ℤ x) e ∙ ungauge (P k) (g k) (sp refl) sg)
gauge_same Jorg P f g k sp sf sg e = e
gauge_same Cmr P f g k sp sf sg e = e

-- ---- the place k of a pattern that the permutation q turns, where P has spins at k and at q k, and f at q k
module _ (P f : Pattern) (q : ℕ → ℕ) (k : ℕ) where
  turned_gauge :
      (m : Mode) → is_perm m ≡ true → (is_gperm m ≡ true → Spin (P k)) → (is_gperm m ≡ true → Spin (P (q k))) → Spin (f (q k))
      → gauge m P (turned_by m P q f) k ≡ gauge m P f (q k)
  turned_gauge Houd e s t u = never e
  turned_gauge Pair e s t u = never e
  turned_gauge Perm e s t u = refl
  turned_gauge Gperm e s t u = gauge_cancel (P k) (P (q k)) (f (q k)) (s refl) (t refl) u
  turned_gauge Jorg e s t u = never e
  turned_gauge Cmr e s t u = never e

  turned_spin : (m : Mode) → (is_gperm m ≡ true → Spin (P k)) → (is_gperm m ≡ true → Spin (P (q k))) → Spin (f (q k)) → Spin (turned_by m P q f k)
  turned_spin Houd s t u = u
  turned_spin Pair s t u = u
  turned_spin Perm s t u = u
  turned_spin Gperm s t u = times_spin (P k *ℤ P (q k)) (f (q k)) (times_spin (P k) (P (q k)) (s refl) (t refl)) u
  turned_spin Jorg s t u = u
  turned_spin Cmr s t u = u

  module _
      (m : Mode) (e : is_perm m ≡ true) (s : is_gperm m ≡ true → Spin (P k)) (t : is_gperm m ≡ true → Spin (P (q k))) (u : Spin (f (q k))) (g : Pattern)
    where
      pub turned_seen : g k ≡ turned_by m P q f k → gauge m P g k ≡ gauge m P f (q k)
      turned_seen w = gauge_ext m P P g (turned_by m P q f) k (λ _. refl) w ∙ turned_gauge m e s t u

      pub seen_turned : Spin (g k) → gauge m P g k ≡ gauge m P f (q k) → g k ≡ turned_by m P q f k
      seen_turned v w = gauge_same m P g (turned_by m P q f) k s v (turned_spin m s t u) (w ∙ sym (turned_gauge m e s t u))

-- a pattern that does not act is seen alike at all places
pub idle_same : (m : Mode) → is_perm m ≡ true → (n : ℕ) (P f : Pattern) → acts_by m n P f ≡ false → (j k : ℕ) → j < n → k < n → gauge m P f j ≡ gauge m P f k
idle_same Houd e n P f w j k hj hk = never e
idle_same Pair e n P f w j k hj hk = never e
idle_same Perm e n P f w j k hj hk = differs_no n f w j hj ∙ sym (differs_no n f w k hk)
idle_same Gperm e n P f w j k hj hk = differs_no n (gauge Gperm P f) w j hj ∙ sym (differs_no n (gauge Gperm P f) w k hk)
idle_same Jorg e n P f w j k hj hk = never e
idle_same Cmr e n P f w j k hj hk = never e

-- ---- words

-- where the identity fits it is the least
pub least_same : {m : ℕ} {may : Test} {q : ℕ → ℕ} → Least m may q → Fits m may same → Agree m q same
least_same {m} {may} {q} w f = go (compare m m q same (omega arith))
  where
    go : Compared m m q same → Agree m q same
    go (equal a) = a
    go (before b) = absurd (identity_first m q w.fits.permutes b)
    go (after b) = absurd (w.none_before same f b)

pub before_agree : {m : ℕ} {p q r : ℕ → ℕ} → Before m p q → Agree m q r → Before m p r
before_agree b a = record {
  place = b.place;
  inside = b.inside;
  agree = λ k h. b.agree k h ∙ a k (omega (arith, b.inside));
  less = rw (← a b.place b.inside) b.less;
}
