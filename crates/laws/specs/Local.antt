-- A move depends on its own group's rows alone: with other spins in the other systems it does the same. For sweeps and for two teams.
use Rattle.std.specs.Prelude.{ℕ, ◌+◌, ◌*◌, ◌/◌, ◌<◌, ◌≡◌, Bool, cond, List, ℤ, ◌*ℤ◌}
use Rattle.std.proofs.Math.Path.{refl, ap}
use Rattle.std.proofs.Math.Bool.{true, false}
use Rattle.std.proofs.Common.{arith}
use Rattle.lemmas.specs.Sums.{sum_ext}
use Rattle.paper.specs.declared.Mode.{Mode}
use Rattle.paper.specs.declared.Mode.TheVariants.{Houd, Pair, Perm, Gperm, Jorg, Cmr}
use Rattle.paper.specs.Panel.Input.{Call, Choices, Pattern, pattern, size, ahead}
use Rattle.paper.specs.Panel.Takes.{is_perm, is_gperm, is_cmr}
use Rattle.paper.specs.Site.Acting.{acts}
use Rattle.paper.specs.Site.Bonds.{pair_term, both_act, coupling_at, cut_at, kind_of, kind_at, strength, blue_holds, grey_holds, sampler_of, holds_by, holds}
use Rattle.paper.specs.Site.Bonds.{holds_grey}
use Rattle.paper.specs.Component.Sizes.{label_of}
use Rattle.paper.specs.Move.Moving.{partner, act_by, reached, final, after}
use Rattle.paper.specs.Refusal.Rules.{Permutes}
use Rattle.laws.specs.Partners.{pairs_fit, partner_lt}
use Rattle.laws.specs.Entries.{perm_of, flip_of}
use Rattle.laws.specs.Acting.{acts_same, gauge_ext}

-- the first m places agree
abbrev pub Agree : ℕ → Pattern → Pattern → Type 0
Agree m f g = (k : ℕ) → k < m → f k ≡ g k

-- what two lists of spins and the call must share
pub record Alike (c : Call) (xs ys : List ℤ) : Type 0 where
  pub patterns : (i : ℕ) → i < c.lattice.n → Agree (size c) (pattern c xs i) (pattern c ys i)
  pub reference : is_gperm c.mode ≡ true → c.reference < c.lattice.n
  pub inside : (i e : ℕ) → i < c.lattice.n → e < c.lattice.d → ahead c i e < c.lattice.n
  pub some : 0 < size c
  pub two : is_cmr c.mode ≡ true → size c ≡ 2

pub term_ext : (m : ℕ) (f g f' g' : Pattern) → Agree m f f' → Agree m g g' → (x : ℕ) → x < m / 2 → pair_term f g x ≡ pair_term f' g' x
term_ext m f g f' g' p q x h =
    let l : 2 * x < m = omega (arith, pairs_fit m) in
    let r : 2 * x + 1 < m = omega (arith, pairs_fit m) in
    cc (p (2 * x) l, p (2 * x + 1) r, q (2 * x) l, q (2 * x + 1) r)

flip_at : (m k : ℕ) (t : Bool) (f g : Pattern) → Agree m f g → k < m → f (cond t (partner m k) k) ≡ g (cond t (partner m k) k)
flip_at m k true f g e h = e (partner m k) (partner_lt m k h)
flip_at m k false f g e h = e k h

-- a component's choice makes the same of two patterns that agree
pub act_ext :
    (m : Mode) (c : Call) (p : Choices) (r : ℕ) (P Q f g : Pattern)
    → (is_perm m ≡ true → Permutes (size c) (perm_of c p r))
    → (is_gperm m ≡ true → Agree (size c) P Q)
    → Agree (size c) f g
    → Agree (size c) (act_by m c p P r f) (act_by m c p Q r g)
act_ext Houd c p r P Q f g h u e k l = cc (e k l)
act_ext Pair c p r P Q f g h u e k l = flip_at (size c) k (flip_of c p r) f g e l
act_ext Jorg c p r P Q f g h u e k l = flip_at (size c) k (flip_of c p r) f g e l
act_ext Perm c p r P Q f g h u e k l = e (perm_of c p r k) ((h refl).within k l)
act_ext Gperm c p r P Q f g h u e k l = let b = (h refl).within k l in cc (u refl k l, u refl (perm_of c p r k) b, e (perm_of c p r k) b)
act_ext Cmr c p r P Q f g h u e k l = cc (e k l)

pub kind_ext : (j : ℤ) (f g f' g' : Pattern) → Agree 2 f f' → Agree 2 g g' → kind_of j f g ≡ kind_of j f' g'
kind_ext j f g f' g' p q = cc (p 0 (omega arith), p 1 (omega arith), q 0 (omega arith), q 1 (omega arith))

module _ (c : Call) (xs ys : List ℤ) (a : Alike c xs ys) where
  -- the patterns at the reference site
  abbrev P : Pattern
  P = pattern c xs c.reference

  abbrev Q : Pattern
  Q = pattern c ys c.reference

  same_reference : is_gperm c.mode ≡ true → Agree (size c) P Q
  same_reference g = a.patterns c.reference (a.reference g)

  same_ahead : (i e : ℕ) → i < c.lattice.n → e < c.lattice.d → Agree (size c) (pattern c xs (ahead c i e)) (pattern c ys (ahead c i e))
  same_ahead i e hi he = a.patterns (ahead c i e) (a.inside i e hi he)

  pub acts_local : (i : ℕ) → i < c.lattice.n → acts c xs i ≡ acts c ys i
  unfolding acts
  acts_local i h =
      acts_same c.mode (size c) P Q (pattern c xs i) (pattern c ys i) a.some
      (λ k l. gauge_ext c.mode P Q (pattern c xs i) (pattern c ys i) k (λ g. same_reference g k l) (a.patterns i h k l))

  both_local : (i e : ℕ) → i < c.lattice.n → e < c.lattice.d → both_act c xs i e ≡ both_act c ys i e
  both_local i e hi he = cc (acts_local i hi, acts_local (ahead c i e) (a.inside i e hi he))

  -- the strength of a Jörg bond, by the spins zs
  abbrev strength_at : List ℤ → ℕ → ℕ → ℤ
  strength_at zs i e = strength (coupling_at c i e) (size c) (pattern c zs i) (pattern c zs (ahead c i e))

  strength_local : (i e : ℕ) → i < c.lattice.n → e < c.lattice.d → strength_at xs i e ≡ strength_at ys i e
  strength_local i e hi he = ap (λ (x : ℤ). coupling_at c i e *ℤ x) (sum_ext (size c / 2) _ _ terms)
    where
      terms :
          (x : ℕ)
          → x < size c / 2
          → pair_term (pattern c xs i) (pattern c xs (ahead c i e)) x ≡ pair_term (pattern c ys i) (pattern c ys (ahead c i e)) x
      terms = term_ext (size c) _ _ _ _ (a.patterns i hi) (same_ahead i e hi he)

  kind_local : (i e : ℕ) → i < c.lattice.n → e < c.lattice.d → is_cmr c.mode ≡ true → kind_at c xs i e ≡ kind_at c ys i e
  kind_local i e hi he q =
      kind_ext (coupling_at c i e) (pattern c xs i) (pattern c xs (ahead c i e)) (pattern c ys i) (pattern c ys (ahead c i e))
      (λ k l. a.patterns i hi k (omega (arith, a.two q))) (λ k l. same_ahead i e hi he k (omega (arith, a.two q)))

  holds_in :
      (m : Mode)
      → (is_cmr m ≡ true → is_cmr c.mode ≡ true)
      → (i e : ℕ)
      → i < c.lattice.n
      → e < c.lattice.d
      → holds_by m c xs i e ≡ holds_by m c ys i e
  holds_in Houd q i e hi he = both_local i e hi he
  holds_in Pair q i e hi he = both_local i e hi he
  holds_in Perm q i e hi he = both_local i e hi he
  holds_in Gperm q i e hi he = both_local i e hi he
  holds_in Jorg q i e hi he = cc (both_local i e hi he, strength_local i e hi he)
  holds_in Cmr q i e hi he = ap (λ x. blue_holds x (sampler_of c.temperature) (cut_at c i e)) (kind_local i e hi he (q refl))

  pub holds_local : (i e : ℕ) → i < c.lattice.n → e < c.lattice.d → holds c xs i e ≡ holds c ys i e
  unfolding holds
  holds_local i e hi he = holds_in c.mode (λ q. q) i e hi he

  pub grey_local : is_cmr c.mode ≡ true → (i e : ℕ) → i < c.lattice.n → e < c.lattice.d → holds_grey c xs i e ≡ holds_grey c ys i e
  unfolding holds_grey
  grey_local q i e hi he = ap (λ x. grey_holds x (sampler_of c.temperature) (cut_at c i e)) (kind_local i e hi he q)

  pub reached_local : (l : List ℕ) (i : ℕ) → i < c.lattice.n → reached c xs l i ≡ reached c ys l i
  unfolding reached
  reached_local l i h = cc (acts_local i h)

  pub final_local :
      (p : Choices) (l g : List ℕ) (i k : ℕ)
      → i < c.lattice.n
      → k < size c
      → (reached c xs l i ≡ true → is_perm c.mode ≡ true → Permutes (size c) (perm_of c p (label_of l i)))
      → final c p xs l g i k ≡ final c p ys l g i k
  unfolding final
  final_local p l g i k hi hk perms = cc (after_local (reached c xs l i) refl, reached_local g i hi)
    where
      after_local : (t : Bool) → reached c xs l i ≡ t → after c p xs l i k ≡ after c p ys l i k
      after_local true e =
          rw (← reached_local l i hi, e)
          (act_ext c.mode c p (label_of l i) P Q (pattern c xs i) (pattern c ys i) (perms e) same_reference (a.patterns i hi) k hk)
      after_local false e = rw (← reached_local l i hi, e) (a.patterns i hi k hk)
