-- Which sites act: a test on the group's pattern at the site, for any N.
use Rattle.std.specs.Prelude.{ℕ, zero, suc, ◌+◌, ◌*◌, ◌/◌, ◌<◌, ◌≡◌, Bool, true, false, not, ◌||◌, List, ℤ, pos, ◌*ℤ◌}
use Rattle.lemmas.specs.Ints.{eq_z}
use Rattle.lemmas.specs.Sums.{sum}
use Rattle.paper.specs.declared.Mode.{Mode}
use Rattle.paper.specs.declared.Mode.TheVariants.{Houd, Pair, Perm, Gperm, Jorg, Cmr}
use Rattle.paper.specs.Panel.Input.{Call, Pattern, pattern, size}

-- some of the first m differs from the first
unfoldable pub differs : ℕ → Pattern → Bool
differs zero f = false
differs (suc m) f = not (eq_z (f m) (f 0)) || differs m f

-- one of the first m pairs (0 1), (2 3), .. disagrees
unfoldable pub pair_differs : ℕ → Pattern → Bool
pair_differs zero f = false
pair_differs (suc m) f = not (eq_z (f (2 * m)) (f (2 * m + 1))) || pair_differs m f

-- the pattern f as the mode sees it: gperm takes its products with the pattern P at the reference site
abbrev pub gauge : Mode → Pattern → Pattern → Pattern
gauge Houd P f k = f k
gauge Pair P f k = f k
gauge Perm P f k = f k
gauge Gperm P f k = P k *ℤ f k
gauge Jorg P f k = f k
gauge Cmr P f k = f k

-- does a pattern of m systems act, so seen? With odd m the last system is not read by pair and Jörg; in CMR every site takes part
abbrev pub test_by : Mode → ℕ → Pattern → Bool
test_by Houd m u = eq_z (sum m u) (pos 0)
test_by Pair m u = pair_differs (m / 2) u
test_by Perm m u = differs m u
test_by Gperm m u = differs m u
test_by Jorg m u = pair_differs (m / 2) u
test_by Cmr m u = true

-- does the pattern f of m systems act, where the reference site has the pattern P?
abbrev pub acts_by : Mode → ℕ → Pattern → Pattern → Bool
acts_by mode m P f = test_by mode m (gauge mode P f)

unfoldable pub acts : Call → List ℤ → ℕ → Bool
acts c xs i = acts_by c.mode (size c) (pattern c xs c.reference) (pattern c xs i)

-- some site acts; none does
pub record SomeActs (c : Call) (xs : List ℤ) : Type 0 where
  pub site : ℕ
  pub below : site < c.lattice.n
  pub does : acts c xs site ≡ true

abbrev pub NoneActs : Call → List ℤ → Type 0
NoneActs c xs = (i : ℕ) → i < c.lattice.n → acts c xs i ≡ false
