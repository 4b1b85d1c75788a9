-- What one step of a reversible mode does: each site's gauged pattern is permuted, and the sites that act and the labels stay.
use Rattle.std.specs.Prelude.{ℕ, ◌<◌, ◌≡◌, true, false, ◌&&◌, length, ℤ}
use Rattle.std.proofs.Math.Path.{refl, sym}
use Rattle.std.proofs.Common.{◌∙◌}
use Rattle.std.proofs.Math.Bool.{Bool, cond}
use mathlib.Core.List.{List}
use Rattle.lemmas.specs.Bools.{never}
use Rattle.paper.specs.declared.Mode.{Mode}
use Rattle.paper.specs.declared.Mode.TheVariants.{Houd, Pair, Perm, Gperm, Jorg, Cmr}
use Rattle.paper.specs.Panel.Input.{graph, Call, Choices, Pattern, pattern, size, ahead}
use Rattle.paper.specs.Panel.Takes.{labels_by, moves, is_perm, is_gperm}
use Rattle.paper.specs.Site.Acting.{acts_by, acts, gauge}
use Rattle.paper.specs.Site.Bonds.{both_act, holds}
use Rattle.paper.specs.Component.Labels.{Labels, Numbered}
use Rattle.paper.specs.Component.Sizes.{label_of, Counted, Largest}
use Rattle.paper.specs.Move.Moving.{chosen, act_by, reached, after}
use Rattle.paper.specs.Refusal.Rules.{Spin, Permutes}
use Rattle.laws.specs.Unique.{HoldAlike, labels_ext, numbered_ext, counts_ext, sizes_ext}
use Rattle.laws.specs.Patterns.{Spinning}
use Rattle.laws.specs.Entries.{reached_moves}
use Rattle.laws.specs.Acting.{acts_same, gauge_ext}
use Rattle.demand3.specs.Reversible.{holds_both, gauge_back, chosen_permutes, act_gauged, act_spin}
use Rattle.demand3.specs.ActsKept.{acts_chosen, reference_rests}
use Rattle.demand3.specs.Step.{Step, reached_no, reached_acts}

-- ---- by cases of the mode or the form
reference_rests_in : (m : Mode) (s : ℕ) (P : Pattern) → is_gperm m ≡ true → 0 < s → Spinning s P → acts_by m s P P ≡ false
reference_rests_in Houd s P e z h = never e
reference_rests_in Pair s P e z h = never e
reference_rests_in Perm s P e z h = never e
reference_rests_in Gperm s P e z h = reference_rests s P z h
reference_rests_in Jorg s P e z h = never e
reference_rests_in Cmr s P e z h = never e

-- ---- the step
-- the gauged pattern at a site
abbrev pub seen_at : Call → List ℤ → ℕ → Pattern
seen_at c xs i = gauge c.mode (pattern c xs c.reference) (pattern c xs i)

-- where place k of site i takes its spin from
abbrev pub turn : Call → Choices → List ℤ → List ℕ → ℕ → ℕ → ℕ
turn c p xs l i k = cond (reached c xs l i) (chosen c p (label_of l i) k) k

-- equal gauged patterns, by equal gauges, are equal patterns
pub seen_back :
    (c : Call) (ys zs : List ℤ) (i k : ℕ)
    → (is_gperm c.mode ≡ true → pattern c ys c.reference k ≡ pattern c zs c.reference k)
    → (is_gperm c.mode ≡ true → Spin (pattern c zs c.reference k))
    → Spin (pattern c ys i k)
    → Spin (pattern c zs i k)
    → seen_at c ys i k ≡ seen_at c zs i k
    → pattern c ys i k ≡ pattern c zs i k
seen_back c ys zs i k same sr sy sz e =
    gauge_back c.mode (pattern c zs c.reference) (pattern c ys i) (pattern c zs i) k sr sy sz
    (gauge_ext c.mode (pattern c zs c.reference) (pattern c ys c.reference) (pattern c ys i) (pattern c ys i) k (λ q. sym (same q)) refl ∙ e)

module _ {c : Call} {p : Choices} {xs : List ℤ} {l : List ℕ} {ys : List ℤ} (s : Step c p xs l ys) where
  -- the pattern at the reference site
  abbrev P : Pattern
  P = pattern c xs c.reference

  reference_spins : is_gperm c.mode ≡ true → Spinning (size c) P
  reference_spins e = s.spins c.reference (s.reference e)

  pub permutes_at : (i : ℕ) → i < c.lattice.n → reached c xs l i ≡ true → Permutes (size c) (chosen c p (label_of l i))
  permutes_at i h e =
      chosen_permutes c.mode c p (label_of l i) s.reversible
      (λ q. s.told.perms (taken q) i h)
    where
      taken : is_perm c.mode ≡ true → (moves c.form && is_perm c.mode) ≡ true
      taken q = rw (reached_moves c xs l i e, q)

  -- a site that is not reached keeps its pattern
  pub unreached : (i k : ℕ) → i < c.lattice.n → k < size c → reached c xs l i ≡ false → pattern c ys i k ≡ pattern c xs i k
  unreached i k hi hk e = s.group i k hi hk ∙ rw e refl

  pub reference_kept : is_gperm c.mode ≡ true → (k : ℕ) → k < size c → pattern c ys c.reference k ≡ pattern c xs c.reference k
  unfolding acts
  reference_kept e k h =
      unreached c.reference k (s.reference e) h
      (reached_no c xs l c.reference (reference_rests_in c.mode (size c) P e s.some_size (reference_spins e)))

  -- the law of the step
  pub turned : (i k : ℕ) → i < c.lattice.n → k < size c → seen_at c ys i k ≡ seen_at c xs i (turn c p xs l i k)
  unfolding acts
  turned i k hi hk =
      gauge_ext c.mode (pattern c ys c.reference) P (pattern c ys i) (after c p xs l i) k (λ e. reference_kept e k hk) (s.group i k hi hk)
      ∙ go (reached c xs l i) refl
    where
      -- the pattern after, if the site is reached or not
      new : Bool → Pattern
      new t k = cond t (act_by c.mode c p P (label_of l i) (pattern c xs i) k) (pattern c xs i k)

      go : (t : Bool) → reached c xs l i ≡ t → gauge c.mode P (new t) k ≡ seen_at c xs i (cond t (chosen c p (label_of l i) k) k)
      go true e =
          act_gauged c.mode c p (label_of l i) P (pattern c xs i) s.reversible (permutes_at i hi e) reference_spins (s.spins i hi)
          (reached_acts c xs l i e) k hk
      go false e = refl

  pub spins_kept : (i : ℕ) → i < c.lattice.n → Spinning (size c) (pattern c ys i)
  spins_kept i hi k hk = rw (s.group i k hi hk) (go (reached c xs l i) refl)
    where
      go : (t : Bool) → reached c xs l i ≡ t → Spin (after c p xs l i k)
      go true e =
          rw e
          (act_spin c.mode c p (label_of l i) P (pattern c xs i) s.reversible (permutes_at i hi e) reference_spins (s.spins i hi) k hk)
      go false e = rw e (s.spins i hi k hk)

  pub acts_kept : (i : ℕ) → i < c.lattice.n → acts c ys i ≡ acts c xs i
  unfolding acts
  acts_kept i hi = go (reached c xs l i) refl
    where
      Q : Pattern
      Q = pattern c ys c.reference

      go : (t : Bool) → reached c xs l i ≡ t → acts_by c.mode (size c) Q (pattern c ys i) ≡ acts_by c.mode (size c) P (pattern c xs i)
      go true e =
          acts_chosen c.mode c p (label_of l i) Q P (pattern c ys i) (pattern c xs i) s.some_size s.reversible (permutes_at i hi e)
          (λ k hk. rw e at (turned i k hi hk))
      go false e = acts_same c.mode (size c) Q P (pattern c ys i) (pattern c xs i) s.some_size (λ k hk. rw e at (turned i k hi hk))

  pub holds_kept : (i e : ℕ) → i < c.lattice.n → e < c.lattice.d → holds c ys i e ≡ holds c xs i e
  unfolding holds
  holds_kept i e hi he = by_ends ys ∙ (rw (acts_kept i hi, acts_kept (ahead c i e) (s.inside i e hi he)) refl ∙ sym (by_ends xs))
    where
      by_ends : (zs : List ℤ) → holds c zs i e ≡ both_act c zs i e
      by_ends zs = holds_both c.mode (size c) s.reversible c zs i e

  -- so component numbers are those of the spins after the step too, and how many there are
  alike : HoldAlike (graph c) (holds c xs) (holds c ys)
  alike i e hi he = sym (holds_kept i e hi he)

  pub labels_kept : {found : ℕ} → Labels (graph c) (holds c xs) l found → Labels (graph c) (holds c ys) l found
  labels_kept = labels_ext (graph c) (holds c xs) (holds c ys) l alike

  pub numbered_kept : {found : List ℕ} → Numbered (graph c) (holds c xs) l found → Numbered (graph c) (holds c ys) l found
  numbered_kept {found} = numbered_ext (graph c) (holds c xs) (holds c ys) l found alike

  -- and what is counted by them
  module _ (f : labels_by c.form ≡ true) where
    marks_kept : (i : ℕ) → i < length l → acts c xs i ≡ acts c ys i
    marks_kept i h = sym (acts_kept i (rw (s.told.labels f).1.long at h))

    pub counts_kept : {counts : List ℕ} → Counted (acts c xs) l counts → Counted (acts c ys) l counts
    counts_kept = counts_ext l marks_kept

    pub sizes_kept : {sizes : List ℕ} → Largest (acts c xs) l sizes → Largest (acts c ys) l sizes
    sizes_kept = sizes_ext l marks_kept
