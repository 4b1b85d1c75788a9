-- Laws of the bonds' rules: which places of the patterns they read, and that blue flips keep what is red.
use Rattle.std.specs.Prelude.{ℕ, zero, suc, ◌/◌, ◌<◌, ◌≡◌, refl, ◌↔◌, Bool, true, false, cond, List, ℤ, pos, negsuc, nat_abs, neg_ℤ, ◌*ℤ◌, Float}
use Rattle.std.proofs.Common.{sym, ◌∙◌, ap, arith}
use Rattle.std.proofs.Math.IntN.{zero-*ℤ, *ℤ-zero}
use Rattle.std.specs.Int.Signed.{lt_z}
use Rattle.lemmas.specs.Ints.{eq_z}
use Rattle.lemmas.specs.Counts.{bit}
use Rattle.lemmas.specs.Sums.{sum_ext}
use Rattle.paper.specs.declared.Sampler.{Sampler}
use Rattle.paper.specs.declared.BondKind.{BondKind}
use Rattle.paper.specs.declared.BondKind.TheVariants.{None, Blue, Red}
use Rattle.paper.specs.Panel.Input.{Pattern}
use Rattle.paper.specs.Site.Bonds.{whole, pair_term, jorg_holds, pick, kind_of}
use Rattle.paper.specs.Component.Marks.{Marks}
use Rattle.laws.specs.Local.{Agree, term_ext}

-- ---- the rules read the first m places alone, CMR's the first two
pub jorg_ext : (j : ℤ) (m : ℕ) (f g f' g' : Pattern) (s : Sampler) (cut : Float)
    → Agree m f f' → Agree m g g' → jorg_holds j m f g s cut ≡ jorg_holds j m f' g' s cut
jorg_ext j m f g f' g' s cut p q = cc (sum_ext (m / 2) (pair_term f g) (pair_term f' g') (term_ext m f g f' g' p q))

-- ---- a table of one rule is a table of another that says the same
pub marks_ext : {n d : ℕ} {f g : ℕ → ℕ → Bool} {xs : List ℕ} → ((i e : ℕ) → i < n → e < d → f i e ≡ g i e) → Marks n d f xs → Marks n d g xs
marks_ext same h = record { long = h.long; at = λ i e hi he. h.at i e hi he ∙ ap bit (same i e hi he) }

-- ---- blue flips: both replicas negated at each site of a set
abbrev pub turned : (ℕ → Bool) → (ℕ → Pattern) → ℕ → Pattern
turned set f i k = cond (set i) (neg_ℤ (f i k)) (f i k)

neg_neg : (a b : ℤ) → neg_ℤ a *ℤ neg_ℤ b ≡ a *ℤ b
neg_neg (pos zero) b = zero-*ℤ (neg_ℤ b) ∙ sym (zero-*ℤ b)
neg_neg (pos (suc a)) (pos zero) = *ℤ-zero (negsuc a) ∙ sym (*ℤ-zero (pos (suc a)))
neg_neg (pos (suc a)) (pos (suc b)) = refl
neg_neg (pos (suc a)) (negsuc b) = refl
neg_neg (negsuc a) (pos zero) = *ℤ-zero (pos (suc a)) ∙ sym (*ℤ-zero (negsuc a))
neg_neg (negsuc a) (pos (suc b)) = refl
neg_neg (negsuc a) (negsuc b) = refl

-- q stays
pub overlap_kept : (set : ℕ → Bool) (f : ℕ → Pattern) (i : ℕ) → turned set f i 0 *ℤ turned set f i 1 ≡ f i 0 *ℤ f i 1
overlap_kept set f i = go (set i)
  where
    go : (t : Bool) → cond t (neg_ℤ (f i 0)) (f i 0) *ℤ cond t (neg_ℤ (f i 1)) (f i 1) ≡ f i 0 *ℤ f i 1
    go true = neg_neg (f i 0) (f i 1)
    go false = refl

-- where the overlaps are equal no bond is red, and where they differ the coupling alone decides
red_only : (t u v : Bool) (a w : Float) (y : BondKind) → pick t (pick u (Blue a) None) y ≡ Red w → pick t (pick v (Blue a) None) y ≡ Red w
red_only true true v a w y e = let z : ◌≡◌ {A = ℕ} 0 1 = cc in absurd (omega arith)
red_only true false v a w y e = let z : ◌≡◌ {A = ℕ} 0 1 = cc in absurd (omega arith)
red_only false u v a w y e = e

red_alike : (j : ℤ) (f g f' g' : Pattern) (w : Float) → eq_z (f' 0 *ℤ f' 1) (g' 0 *ℤ g' 1) ≡ eq_z (f 0 *ℤ f 1) (g 0 *ℤ g 1)
    → kind_of j f g ≡ Red w → kind_of j f' g' ≡ Red w
red_alike j f g f' g' w same e =
    rw same
    (red_only (eq_z (f 0 *ℤ f 1) (g 0 *ℤ g 1)) (lt_z (pos 0) (j *ℤ f 0 *ℤ g 0)) (lt_z (pos 0) (j *ℤ f' 0 *ℤ g' 0)) (whole (nat_abs j)) w
    (pick (eq_z j (pos 0)) None (Red (whole (nat_abs j)))) e)

-- so a bond is red, and as strong, after the blue flips exactly where it was before
pub red_kept : (set : ℕ → Bool) (f : ℕ → Pattern) (j : ℤ) (a b : ℕ) (w : Float)
    → (kind_of j (f a) (f b) ≡ Red w) ↔ (kind_of j (turned set f a) (turned set f b) ≡ Red w)
red_kept set f j a b w =
    let same : eq_z (turned set f a 0 *ℤ turned set f a 1) (turned set f b 0 *ℤ turned set f b 1) ≡ eq_z (f a 0 *ℤ f a 1) (f b 0 *ℤ f b 1) =
    λ i. eq_z (overlap_kept set f a i) (overlap_kept set f b i)
    in (
      red_alike j (f a) (f b) (turned set f a) (turned set f b) w same,
      red_alike j (turned set f a) (turned set f b) (f a) (f b) w (sym same),
    )
