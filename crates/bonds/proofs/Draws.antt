-- A bond's kind and its draw: what the tests read, and tests joined without a jump.
use Prim.Native.Nat.{ℕ, ◌^◌, ◌≤◌, ◌<◌}
use mathlib.Core.Path.{◌≡◌, refl, sym, ap, ◌∙◌}
use mathlib.Core.Bool.{Bool, true, false, not, ◌&&◌, ◌||◌, beq}
use native.Mathlib.Decide.{ℕ_discrete}
use native.Mathlib.Omega.{arith}
use borrow.Author.Tests.{eq-eqb, ne_eqb}
use lib.Dec.{eqb}
use lib.IntN.{ℤ, pos, nat_abs, ◌*ℤ◌}
use lib.Ieee.{Float}
use lib.Signed.{lt_z, mag}
use mir.Syntax.{w32}
use mir.Val.{SFits, to_z, of_z, hbits}
use mir.Facts.{sfits_lit}
use Rattle.lemmas.specs.Ints.{eq_z}
use Rattle.lemmas.specs.Bools.{never}
use Rattle.lemmas.specs.Held.{Holds, given, bounded, reads, held_lt, held_same, held_differ}
use Rattle.paper.specs.declared.BondKind.{BondKind}
use Rattle.paper.specs.declared.BondKind.TheVariants.{None, Blue, Red}
use Rattle.paper.specs.declared.Sampler.{Sampler}
use Rattle.paper.specs.Panel.Input.{Pattern}
use Rattle.paper.specs.Site.Bonds.{whole, pick, drawn, kind_of, blue_holds, grey_holds}
use Rattle.columns.specs.Column.{bit_of, shown}
use Rattle.bonds.proofs.Bits.{overlaps_same}

pub zero_held : Holds w32 0 (pos 0)
zero_held = given (sfits_lit tt)

-- a coupling, which the machine holds as bits
module _ {j : ℤ} (fits : SFits w32 j) where
  pub coupling_held : Holds w32 (of_z w32 j) j
  coupling_held = given fits

  pub size_back : whole (nat_abs (to_z w32 (of_z w32 j))) ≡ whole (nat_abs j)
  size_back = ap (λ (z : ℤ). whole (nat_abs z)) (reads coupling_held)

  pub size_small : nat_abs j ≤ 1000000 → nat_abs (to_z w32 (of_z w32 j)) ≤ 4000000
  size_small h = rw (reads coupling_held) (omega (arith, h))

  -- the test whether it is 0
  pub zero_test : eqb (of_z w32 j) 0 ≡ eq_z j (pos 0)
  zero_test = go (ℕ_discrete (of_z w32 j) 0)
    where
      go : Dec (of_z w32 j ≡ 0) → eqb (of_z w32 j) 0 ≡ eq_z j (pos 0)
      go (yes e) = eq-eqb _ 0 e ∙ sym (held_same coupling_held zero_held e)
      go (no ne) = ne_eqb _ 0 ne ∙ sym (held_differ coupling_held zero_held ne)

  -- the test of the first replica's spins: r is what `aligned` answers
  pub up_test : (a b : ℕ) {r : ℤ} → mag r < 2 ^ hbits w32 → r ≡ to_z w32 (of_z w32 j) *ℤ shown a 0 *ℤ shown b 0
      → lt_z (pos 0) (j *ℤ shown a 0 *ℤ shown b 0) ≡ lt_z (to_z w32 0) (to_z w32 (of_z w32 r))
  up_test a b {r} ok e = rw (← (e ∙ ap (λ (z : ℤ). z *ℤ shown a 0 *ℤ shown b 0) (reads coupling_held))) (held_lt zero_held (bounded w32 r ok) refl)

-- the test of the overlaps: x and y are what `agree` answers
pub same_test : (a b : ℕ) {x y : Bool} → x ≡ eq_z (shown a 0) (shown a 1) → y ≡ eq_z (shown b 0) (shown b 1)
    → eq_z (shown a 0 *ℤ shown a 1) (shown b 0 *ℤ shown b 1) ≡ beq x y
same_test a b ex ey = overlaps_same (bit_of a 0) (bit_of a 1) (bit_of b 0) (bit_of b 1) ∙ (λ i. beq (sym ex i) (sym ey i))

-- the kind by its three tests: equal overlaps, a bond that is satisfied, no coupling
abbrev kind_by : Bool → Bool → Bool → Float → BondKind
kind_by same up zero w = pick same (pick up (Blue w) None) (pick zero None (Red w))

blue_by : (same up zero : Bool) (w : Float) (s : Sampler) (cut : Float)
    → (same && up) && drawn s.four w cut ≡ blue_holds (kind_by same up zero w) s cut
blue_by true true zero w s cut = refl
blue_by true false zero w s cut = refl
blue_by false up true w s cut = refl
blue_by false up false w s cut = refl

grey_by : (same up zero : Bool) (w : Float) (s : Sampler) (cut : Float) (b : Bool) → b ≡ blue_holds (kind_by same up zero w) s cut
    → b || ((not same && not zero) && drawn s.two w cut) ≡ grey_holds (kind_by same up zero w) s cut
grey_by true true zero w s cut true e = e
grey_by true true zero w s cut false e = e
grey_by true false zero w s cut true e = e
grey_by true false zero w s cut false e = e
grey_by false up true w s cut true e = e
grey_by false up true w s cut false e = e
grey_by false up false w s cut true e = never (sym e)
grey_by false up false w s cut false e = refl

module _ (j : ℤ) (f g : Pattern) (s : Sampler) (cut : Float) where
  pub blue_drawn : (eq_z (f 0 *ℤ f 1) (g 0 *ℤ g 1) && lt_z (pos 0) (j *ℤ f 0 *ℤ g 0)) && drawn s.four (whole (nat_abs j)) cut ≡ blue_holds (kind_of j f g) s cut
  blue_drawn = blue_by (eq_z (f 0 *ℤ f 1) (g 0 *ℤ g 1)) (lt_z (pos 0) (j *ℤ f 0 *ℤ g 0)) (eq_z j (pos 0)) (whole (nat_abs j)) s cut

  pub grey_drawn : (b : Bool) → b ≡ blue_holds (kind_of j f g) s cut
      → b || ((not (eq_z (f 0 *ℤ f 1) (g 0 *ℤ g 1)) && not (eq_z j (pos 0))) && drawn s.two (whole (nat_abs j)) cut) ≡ grey_holds (kind_of j f g) s cut
  grey_drawn = grey_by (eq_z (f 0 *ℤ f 1) (g 0 *ℤ g 1)) (lt_z (pos 0) (j *ℤ f 0 *ℤ g 0)) (eq_z j (pos 0)) (whole (nat_abs j)) s cut
