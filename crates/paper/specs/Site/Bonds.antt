-- Which bonds hold, all judged on the spins before the move.
use Rattle.std.specs.Prelude.{ℕ, ◌+◌, ◌*◌, ◌/◌, Bool, true, false, not, cond, ◌&&◌, List, get_or, ℤ, pos, nat_abs, ◌*ℤ◌, Float}
use Rattle.std.specs.Int.Signed.{lt_z}
use Rattle.std.specs.Float.{nan, binary32}
use Rattle.std.specs.Float.Ieee.{mul, div, lt, of_int}
use Rattle.lemmas.specs.Ints.{eq_z}
use Rattle.lemmas.specs.Sums.{sum}
use Rattle.paper.specs.declared.Mode.{Mode}
use Rattle.paper.specs.declared.Mode.TheVariants.{Houd, Pair, Perm, Gperm, Jorg, Cmr}
use Rattle.paper.specs.declared.Sampler.{Sampler}
use Rattle.paper.specs.declared.BondKind.{BondKind}
use Rattle.paper.specs.declared.BondKind.TheVariants.{None, Blue, Red}
use Rattle.paper.specs.Panel.Input.{Call, Pattern, pattern, size, bond, ahead}
use Rattle.paper.specs.Site.Acting.{acts}

-- a whole number as an `f32`
abbrev pub whole : ℕ → Float
whole m = of_int binary32 (pos m)

abbrev pub sampler_of : Float → Sampler
sampler_of t = record { temperature = t; four = div binary32 (whole 4) t; two = div binary32 (whole 2) t }

-- drawn: scale times strength, rounded once, is above the cut
abbrev pub drawn : Float → Float → Float → Bool
drawn scale strength cut = lt cut (mul binary32 scale strength)

-- Jörg, with the patterns f and g at the two ends: over the pairs that disagree at both ends, the sum of the first replica's products
abbrev pub pair_term : Pattern → Pattern → ℕ → ℤ
pair_term f g m = cond (not (eq_z (f (2 * m)) (f (2 * m + 1))) && not (eq_z (g (2 * m)) (g (2 * m + 1)))) (f (2 * m) *ℤ g (2 * m)) (pos 0)

abbrev pub strength : ℤ → ℕ → Pattern → Pattern → ℤ
strength j m f g = j *ℤ sum (m / 2) (pair_term f g)

abbrev pub jorg_holds : ℤ → ℕ → Pattern → Pattern → Sampler → Float → Bool
jorg_holds j m f g s cut = lt_z (pos 0) (strength j m f g) && drawn s.four (whole (nat_abs (strength j m f g))) cut

-- CMR: a bond's kind, from the coupling and the patterns of the two replicas at its ends
abbrev pub pick : Bool → BondKind → BondKind → BondKind
pick true x y = x
pick false x y = y

abbrev pub kind_of : ℤ → Pattern → Pattern → BondKind
kind_of j f g =
    pick (eq_z (f 0 *ℤ f 1) (g 0 *ℤ g 1))
    (pick (lt_z (pos 0) (j *ℤ f 0 *ℤ g 0)) (Blue (whole (nat_abs j))) None)
    (pick (eq_z j (pos 0)) None (Red (whole (nat_abs j))))

abbrev pub blue_holds : BondKind → Sampler → Float → Bool
blue_holds None s cut = false
blue_holds (Blue w) s cut = drawn s.four w cut
blue_holds (Red w) s cut = false

-- grey: blue and red together
abbrev pub grey_holds : BondKind → Sampler → Float → Bool
grey_holds None s cut = false
grey_holds (Blue w) s cut = drawn s.four w cut
grey_holds (Red w) s cut = drawn s.two w cut

-- both ends of the bond (i, e) act
abbrev pub both_act : Call → List ℤ → ℕ → ℕ → Bool
both_act c xs i e = acts c xs i && acts c xs (ahead c i e)

abbrev pub coupling_at : Call → ℕ → ℕ → ℤ
coupling_at c i e = get_or c.lattice.couplings (bond c i e) (pos 0)

abbrev pub cut_at : Call → ℕ → ℕ → Float
cut_at c i e = get_or c.cuts (bond c i e) nan

abbrev pub kind_at : Call → List ℤ → ℕ → ℕ → BondKind
kind_at c xs i e = kind_of (coupling_at c i e) (pattern c xs i) (pattern c xs (ahead c i e))

abbrev pub holds_by : Mode → Call → List ℤ → ℕ → ℕ → Bool
holds_by Houd c xs i e = both_act c xs i e
holds_by Pair c xs i e = both_act c xs i e
holds_by Perm c xs i e = both_act c xs i e
holds_by Gperm c xs i e = both_act c xs i e
holds_by Jorg c xs i e =
    both_act c xs i e && jorg_holds (coupling_at c i e) (size c) (pattern c xs i) (pattern c xs (ahead c i e)) (sampler_of c.temperature) (cut_at c i e)
holds_by Cmr c xs i e = blue_holds (kind_at c xs i e) (sampler_of c.temperature) (cut_at c i e)

-- does the bond (i, e) hold? CMR: is it a blue bond
unfoldable pub holds : Call → List ℤ → ℕ → ℕ → Bool
holds c xs i e = holds_by c.mode c xs i e

-- CMR: is it a grey bond
unfoldable pub holds_grey : Call → List ℤ → ℕ → ℕ → Bool
holds_grey c xs i e = grey_holds (kind_at c xs i e) (sampler_of c.temperature) (cut_at c i e)
