-- Whether a pattern acts depends on what the mode sees of it alone.
use Rattle.std.specs.Prelude.{ℕ, ◌/◌, ◌<◌, ◌≡◌, refl, ℤ, pos, true}
use Rattle.std.proofs.Common.{ap, arith}
use Rattle.lemmas.specs.Ints.{eq_z}
use Rattle.lemmas.specs.Sums.{sum_ext}
use Rattle.paper.specs.declared.Mode.{Mode}
use Rattle.paper.specs.declared.Mode.TheVariants.{Houd, Pair, Perm, Gperm, Jorg, Cmr}
use Rattle.paper.specs.Panel.Input.{Pattern}
use Rattle.paper.specs.Site.Acting.{gauge, test_by, acts_by}
use Rattle.paper.specs.Panel.Takes.{is_gperm}
use Rattle.laws.specs.Patterns.{differs_ext, pair_ext}
use Rattle.laws.specs.Partners.{pairs_fit}

pub test_ext : (m : Mode) (s : ℕ) (u w : Pattern) → 0 < s → ((k : ℕ) → k < s → u k ≡ w k) → test_by m s u ≡ test_by m s w
test_ext Houd s u w z e = ap (λ (x : ℤ). eq_z x (pos 0)) (sum_ext s u w e)
test_ext Pair s u w z e = pair_ext (s / 2) u w (λ k h. e k (omega (arith, pairs_fit s)))
test_ext Perm s u w z e = differs_ext s u w (e 0 z) e
test_ext Gperm s u w z e = differs_ext s u w (e 0 z) e
test_ext Jorg s u w z e = pair_ext (s / 2) u w (λ k h. e k (omega (arith, pairs_fit s)))
test_ext Cmr s u w z e = refl

-- two patterns with the same gauged pattern both act or neither does; also if it is permuted by a choice
pub acts_same :
    (m : Mode) (s : ℕ) (P Q f g : Pattern)
    → 0 < s
    → ((k : ℕ) → k < s → gauge m P f k ≡ gauge m Q g k)
    → acts_by m s P f ≡ acts_by m s Q g
acts_same m s P Q f g z e = test_ext m s (gauge m P f) (gauge m Q g) z e

pub gauge_ext : (m : Mode) (P Q f g : Pattern) (k : ℕ) → (is_gperm m ≡ true → P k ≡ Q k) → f k ≡ g k → gauge m P f k ≡ gauge m Q g k
gauge_ext Houd P Q f g k p e = e
gauge_ext Pair P Q f g k p e = e
gauge_ext Perm P Q f g k p e = e
gauge_ext Gperm P Q f g k p e = let q = p refl in cc (q, e)
gauge_ext Jorg P Q f g k p e = e
gauge_ext Cmr P Q f g k p e = e
