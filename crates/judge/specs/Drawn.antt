-- The two halves of a judgement: both ends act, or the bond is drawn from the spins at its ends.
use Rattle.std.specs.Prelude.{ℕ, zero, suc, ◌+◌, ◌*◌, ◌/◌, ◌<◌, ◌≡◌, Bool, not, cond, ◌&&◌, ◌||◌, List, ℤ, pos, nat_abs, ◌*ℤ◌, Float}
use Rattle.std.proofs.Math.Path.{refl}
use Rattle.std.proofs.Common.{sym, ◌∙◌, ap, arith}
use Rattle.std.proofs.Math.Bool.{true, false}
use Rattle.std.proofs.Math.Decide.{ℕ_discrete}
use Rattle.std.proofs.Math.IntN.{*ℤ-zero}
use Rattle.std.specs.Int.Signed.{lt_z}
use Rattle.lemmas.specs.Bools.{never}
use Rattle.lemmas.specs.Ints.{eq_z}
use Rattle.lemmas.specs.Sums.{sum, sum_ext, sum_zero}
use Rattle.paper.specs.declared.Mode.{Mode}
use Rattle.paper.specs.declared.Mode.TheVariants.{Houd, Pair, Perm, Gperm, Jorg, Cmr}
use Rattle.paper.specs.declared.Task.{Task}
use Rattle.paper.specs.declared.Sampler.{Sampler}
use Rattle.paper.specs.Panel.Input.{Pattern}
use Rattle.paper.specs.Panel.Takes.{is_cmr, is_drawn}
use Rattle.paper.specs.Site.Acting.{pair_differs}
use Rattle.paper.specs.Site.Bonds.{sampler_of, drawn, whole, pair_term, jorg_holds, kind_of, blue_holds, grey_holds}
use Rattle.columns.specs.Column.{shown}
use Rattle.judge.specs.declared.Rule.{Rule}
use Rattle.judge.specs.Judged.{column_acts, ends_act, end_at, coupling_of, cut_of, judged_by, judged}

-- ---- what the halves answer

-- in CMR from the bond's kind, in Jörg from the pairs that disagree
abbrev pub drawn_by : Bool → Bool → Task → Sampler → Pattern → Pattern → ℤ → Float → Bool
drawn_by true true t s f g j cut = grey_holds (kind_of j f g) s cut
drawn_by true false t s f g j cut = blue_holds (kind_of j f g) s cut
drawn_by false grey t s f g j cut = jorg_holds j t.group.len f g s cut

-- the bond (i, e) of two ends with the columns a and b
abbrev pub judged_on : Rule → List ℤ → List Float → ℕ → ℕ → ℕ → ℕ → Bool
judged_on r js cuts i e a b =
    cond (is_drawn r.task.mode)
    (drawn_by (is_cmr r.task.mode) r.grey r.task r.sampler (shown a) (shown b) (coupling_of r.task js i e) (cut_of r.task cuts i e))
    (column_acts r a && column_acts r b)

-- ---- a bond that Jörg draws has two ends that act

agrees : (m : ℕ) (f : Pattern) → pair_differs m f ≡ false → (k : ℕ) → k < m → eq_z (f (2 * k)) (f (2 * k + 1)) ≡ true
unfolding pair_differs
agrees zero f e k h = absurd (omega arith)
agrees (suc m) f e k h = at (ℕ_discrete k m) (eq_z (f (2 * m)) (f (2 * m + 1))) refl e (λ d. agrees m f d k)
  where
    at :
        Dec (k ≡ m) → (b : Bool) → eq_z (f (2 * m)) (f (2 * m + 1)) ≡ b → (not b || pair_differs m f) ≡ false
        → (pair_differs m f ≡ false → k < m → eq_z (f (2 * k)) (f (2 * k + 1)) ≡ true)
        → eq_z (f (2 * k)) (f (2 * k + 1)) ≡ true
    at d false q e below = never (sym e)
    at (yes p) true q e below = rw p q
    at (no p) true q e below = below e (omega arith)

no_sum : (m : ℕ) (f g : Pattern) → ((k : ℕ) → k < m → pair_term f g k ≡ pos 0) → sum m (pair_term f g) ≡ pos 0
no_sum m f g h = sum_ext m (pair_term f g) (λ k. pos 0) h ∙ sum_zero m

off_left : (a b : Bool) (x : ℤ) → a ≡ true → cond (not a && b) x (pos 0) ≡ pos 0
off_left true b x e = refl
off_left false b x e = never e

off_right : (a b : Bool) (x : ℤ) → b ≡ true → cond (a && not b) x (pos 0) ≡ pos 0
off_right true true x e = refl
off_right false true x e = refl
off_right a false x e = never e

no_left : (m : ℕ) (f g : Pattern) → pair_differs m f ≡ false → (k : ℕ) → k < m → pair_term f g k ≡ pos 0
no_left m f g e k h = off_left (eq_z (f (2 * k)) (f (2 * k + 1))) _ _ (agrees m f e k h)

no_right : (m : ℕ) (f g : Pattern) → pair_differs m g ≡ false → (k : ℕ) → k < m → pair_term f g k ≡ pos 0
no_right m f g e k h = off_right (not (eq_z (f (2 * k)) (f (2 * k + 1)))) (eq_z (g (2 * k)) (g (2 * k + 1))) (f (2 * k) *ℤ g (2 * k)) (agrees m g e k h)

not_drawn : (j : ℤ) (m : ℕ) (f g : Pattern) (s : Sampler) (cut : Float) → sum (m / 2) (pair_term f g) ≡ pos 0 → jorg_holds j m f g s cut ≡ false
not_drawn j m f g s cut e =
    ap (λ (z : ℤ). lt_z (pos 0) (j *ℤ z) && drawn s.four (whole (nat_abs (j *ℤ z))) cut) e
    ∙ ap (λ (z : ℤ). lt_z (pos 0) z && drawn s.four (whole (nat_abs z)) cut) (*ℤ-zero j)

pub jorg_acts :
    (j : ℤ) (m : ℕ) (f g : Pattern) (s : Sampler) (cut : Float)
    → jorg_holds j m f g s cut ≡ ((pair_differs (m / 2) f && pair_differs (m / 2) g) && jorg_holds j m f g s cut)
jorg_acts j m f g s cut = at (pair_differs (m / 2) f) (pair_differs (m / 2) g) refl refl
  where
    at :
        (a b : Bool) → pair_differs (m / 2) f ≡ a → pair_differs (m / 2) g ≡ b
        → jorg_holds j m f g s cut ≡ ((a && b) && jorg_holds j m f g s cut)
    at true true p q = refl
    at true false p q = not_drawn j m f g s cut (no_sum (m / 2) f g (no_right (m / 2) f g q))
    at false b p q = not_drawn j m f g s cut (no_sum (m / 2) f g (no_left (m / 2) f g p))

-- ---- the two halves are the judgement
module _ (t : Task) (grey : Bool) (xs js : List ℤ) (cuts : List Float) (i e j : ℕ) where
  abbrev pub half : Bool → Bool
  half cmr = drawn_by cmr grey t (sampler_of t.temperature) (end_at t xs i) (end_at t xs j) (coupling_of t js i e) (cut_of t cuts i e)

  pub acts_judged : is_drawn t.mode ≡ false → ends_act t xs i j ≡ judged t grey xs js cuts i e j
  unfolding judged
  acts_judged = go t.mode
    where
      go : (m : Mode) → is_drawn m ≡ false → ends_act t xs i j ≡ judged_by m t grey xs js cuts i e j
      go Houd q = refl
      go Pair q = refl
      go Perm q = refl
      go Gperm q = refl
      go Jorg q = never (sym q)
      go Cmr q = never (sym q)

  pub drawn_judged : is_drawn t.mode ≡ true → half (is_cmr t.mode) ≡ judged t grey xs js cuts i e j
  unfolding judged
  drawn_judged = go t.mode refl
    where
      go : (m : Mode) → t.mode ≡ m → is_drawn m ≡ true → half (is_cmr m) ≡ judged_by m t grey xs js cuts i e j
      go Houd p q = never q
      go Pair p q = never q
      go Perm p q = never q
      go Gperm p q = never q
      go Jorg p q = rw p (jorg_acts (coupling_of t js i e) t.group.len (end_at t xs i) (end_at t xs j) (sampler_of t.temperature) (cut_of t cuts i e))
      go Cmr p q = colour grey
        where
          colour : (b : Bool) → drawn_by true b t (sampler_of t.temperature) (end_at t xs i) (end_at t xs j) (coupling_of t js i e) (cut_of t cuts i e)
              ≡ judged_by Cmr t b xs js cuts i e j
          colour true = refl
          colour false = refl
