-- Document 01's rows 1 to 11, which are values of the definitions, as one statement, and its proof by computing.
use Rattle.std.specs.Prelude.{ℕ, ◌≡◌, refl, Bool, true, false, [], ◌∷◌, ℤ, pos, negsuc, Float}
use Rattle.std.specs.Float.Ieee.{mul, div, lt, of_int, round}
use Rattle.lemmas.specs.Sums.{sum}
use Rattle.paper.specs.declared.Mode.TheVariants.{Houd, Pair, Perm, Gperm}
use Rattle.paper.specs.Panel.Input.{Pattern}
use Rattle.paper.specs.Site.Acting.{acts_by, differs, pair_differs}
use Rattle.paper.specs.Site.Bonds.{whole, sampler_of, jorg_holds, kind_of, blue_holds, grey_holds}
use Rattle.paper.specs.Rows.Cases.{+, -, of, perm, row, decimal, ring, houd4, before12, after12}
use Rattle.paper.specs.declared.BondKind.TheVariants.{None, Blue, Red}
use Rattle.paper.specs.Site.Energy.{energy, bond_sum}
use Rattle.paper.specs.Move.Moving.{permute, gauged}

-- does the pattern f of m systems act under houd, pair and perm, whatever the reference site has?
pub record Acts (m : ℕ) (f : Pattern) (houd' pair' perm' : Bool) : Type 0 where
  pub houd : (P : Pattern) → acts_by Houd m P f ≡ houd'
  pub pair : (P : Pattern) → acts_by Pair m P f ≡ pair'
  pub perm : (P : Pattern) → acts_by Perm m P f ≡ perm'

-- the end spins of row 8's bond, (+,-) at both ends, with the coupling j at T = 2
abbrev pub bonds8 : ℤ → Float → Bool
bonds8 j cut = jorg_holds j 2 (of (+ ∷ - ∷ [])) (of (+ ∷ - ∷ [])) (sampler_of (whole 2)) cut

pub record Values : Type 0 where
  pub row1 : Acts 4 (of (+ ∷ + ∷ - ∷ - ∷ [])) true false true
  pub row2 : Acts 4 (of (+ ∷ + ∷ + ∷ - ∷ [])) false true true
  pub row3 : Acts 3 (of (+ ∷ + ∷ - ∷ [])) false false true
  pub row4 : acts_by Gperm 2 (of (+ ∷ - ∷ [])) (of (- ∷ + ∷ [])) ≡ false
  pub row4_acts : acts_by Gperm 2 (of (+ ∷ - ∷ [])) (of (+ ∷ + ∷ [])) ≡ true
  pub row5 : row 3 (permute (perm (2 ∷ 0 ∷ 1 ∷ [])) (of (+ ∷ - ∷ - ∷ []))) ≡ - ∷ + ∷ - ∷ []
  pub row6 : row 2 (gauged (of (+ ∷ - ∷ [])) (perm (1 ∷ 0 ∷ [])) (of (+ ∷ + ∷ []))) ≡ - ∷ - ∷ []
  pub row7 : (f : Pattern) → row 3 (permute (perm (1 ∷ 0 ∷ 2 ∷ [])) (permute (perm (1 ∷ 2 ∷ 0 ∷ [])) f)) ≡ row 3 (permute (perm (2 ∷ 1 ∷ 0 ∷ [])) f)
  pub row8 : bonds8 (pos 3) (decimal 55 1) ≡ true
  pub row8_equal : bonds8 (pos 3) (whole 6) ≡ false
  pub row8_never : (cut : Float) → bonds8 (negsuc 2) cut ≡ false
  -- the patterns at the two ends of the bond are (+,+) and (+,-)
  pub row9 : kind_of (pos 5) (of (+ ∷ + ∷ [])) (of (+ ∷ - ∷ [])) ≡ Red (whole 5)
  pub row9_drawn : grey_holds (Red (whole 5)) (sampler_of (whole 4)) (whole 2) ≡ true
  pub row9_none : kind_of (pos 0) (of (+ ∷ + ∷ [])) (of (+ ∷ - ∷ [])) ≡ None
  -- (+,-) and (-,+)
  pub row10 : kind_of (negsuc 1) (of (+ ∷ - ∷ [])) (of (- ∷ + ∷ [])) ≡ Blue (whole 2)
  pub row10_drawn : blue_holds (Blue (whole 2)) (sampler_of (whole 4)) (decimal 15 1) ≡ true
  pub row11 : energy ring (+ ∷ + ∷ - ∷ []) 0 ≡ negsuc 1
  pub row12_before : bond_sum houd4 before12.spins 0 0 ≡ pos 2
  pub row12_after : bond_sum houd4 after12.spins 0 0 ≡ negsuc 1

pub values : Values
unfolding sum differs pair_differs row mul div lt of_int round
values = record {
  row1 = record { houd = λ P. refl; pair = λ P. refl; perm = λ P. refl };
  row2 = record { houd = λ P. refl; pair = λ P. refl; perm = λ P. refl };
  row3 = record { houd = λ P. refl; pair = λ P. refl; perm = λ P. refl };
  row4 = refl;
  row4_acts = refl;
  row5 = refl;
  row6 = refl;
  row7 = λ f. refl;
  row8 = refl;
  row8_equal = refl;
  row8_never = λ cut. refl;
  row9 = refl;
  row9_drawn = refl;
  row9_none = refl;
  row10 = refl;
  row10_drawn = refl;
  row11 = refl;
  row12_before = refl;
  row12_after = refl;
}
