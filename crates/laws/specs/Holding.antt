-- Which components are held, told by their labels or their members and told by the bonds.
use Rattle.std.specs.Prelude.{ℕ, zero, suc, ◌<◌, ◌≡◌, refl, ◌↔◌, Bool, true, false, ◌&&◌, List, ltb, length, ℤ}
use Rattle.std.proofs.Common.{sym, ap, arith}
use borrow.Author.Tests.{eq-eqb, eqb-true, ltb-true, lt-ltb}
use Rattle.std.proofs.Math.Dec.{eqb}
use Rattle.lemmas.specs.Bools.{and_left, and_right}
use Rattle.lemmas.specs.Counts.{count_where, count_pos, count_ext}
use Rattle.paper.specs.Panel.Input.{graph, Call, pinned}
use Rattle.paper.specs.Site.Bonds.{holds}
use Rattle.paper.specs.Component.Labels.{Labels}
use Rattle.paper.specs.Component.Members.{Members}
use Rattle.paper.specs.Component.Sizes.{label_of}
use Rattle.paper.specs.Move.Moving.{has_one, held}
use Rattle.paper.specs.Answer.Move.{SeedHeld}

-- a place below m that passes the test
abbrev pub Passes : (ℕ → Bool) → ℕ → Type 0
Passes f m = (j : ℕ) × (j < m) × (f j ≡ true)

counted_some : (f : ℕ → Bool) (m : ℕ) → 0 < count_where f m → Passes f m
unfolding count_where
counted_some f zero h = absurd (omega arith)
counted_some f (suc m) h = at (f m) refl (λ (q : 0 < count_where f m). counted_some f m q)
  where
    at : (t : Bool) → f m ≡ t → (0 < count_where f m → Passes f m) → Passes f (suc m)
    at true e ih = (m, omega arith, e)
    at false e ih = let r = ih (omega (arith, rw e at h)) in (r.0, omega (arith, r.1), r.2)

module _ (mark : ℕ → Bool) (l : List ℕ) (r : ℕ) where
  -- a site with the label r that has the mark
  pub record One : Type 0 where
    pub site : ℕ
    pub below : site < length l
    pub label : label_of l site ≡ r
    pub marked : mark site ≡ true

  pub one_is : has_one mark l r ≡ true → One
  unfolding has_one
  one_is e =
      let q = counted_some (λ j. eqb (label_of l j) r && mark j) (length l) (ltb-true _ _ e) in
      record {
        site = q.0;
        below = q.1;
        label = eqb-true _ _ (and_left (eqb (label_of l q.0) r) (mark q.0) q.2);
        marked = and_right (eqb (label_of l q.0) r) (mark q.0) q.2;
      }

  pub one_has : One → has_one mark l r ≡ true
  unfolding has_one
  one_has o =
      lt-ltb _ _ (count_pos (λ j. eqb (label_of l j) r && mark j) (length l) o.site o.below (rw (eq-eqb _ _ o.label, o.marked)))

-- two lists that tell the same component
pub one_ext :
    (mark : ℕ → Bool) (l m : List ℕ) (r s : ℕ)
    → length l ≡ length m
    → ((j : ℕ) → j < length l → eqb (label_of l j) r ≡ eqb (label_of m j) s)
    → has_one mark l r ≡ has_one mark m s
unfolding has_one
one_ext mark l m r s long same =
    rw (← long)
    (ap (ltb 0)
    (count_ext (λ j. eqb (label_of l j) r && mark j) (λ j. eqb (label_of m j) s && mark j) (length l) (λ j h. ap (λ (t : Bool). t && mark j) (same j h))))

-- the seed's component, by labels and by members
module _ (c : Call) (xs : List ℤ) (inside : c.seed < c.lattice.n) where
  pub held_labels : {found : ℕ} (l : List ℕ) → Labels (graph c) (holds c xs) l found → (held c l c.seed ≡ true) ↔ SeedHeld c xs
  held_labels l w = (there, home)
    where
      there : held c l c.seed ≡ true → SeedHeld c xs
      there e =
          let o = one_is (pinned c) l (label_of l c.seed) e in
          let h = rw w.long at o.below in
          record { site = o.site; below = h; pin = o.marked; joined = w.joined c.seed o.site inside h (sym o.label) }

      home : SeedHeld c xs → held c l c.seed ≡ true
      home s =
          one_has (pinned c) l (label_of l c.seed) (record {
            site = s.site;
            below = rw w.long s.below;
            label = sym (w.same c.seed s.site inside s.below s.joined);
            marked = s.pin;
          })

  pub held_members : (l : List ℕ) → Members (graph c) (holds c xs) c.seed l → (has_one (pinned c) l 1 ≡ true) ↔ SeedHeld c xs
  held_members l w = (there, home)
    where
      there : has_one (pinned c) l 1 ≡ true → SeedHeld c xs
      there e =
          let o = one_is (pinned c) l 1 e in
          let h = rw w.long at o.below in
          record { site = o.site; below = h; pin = o.marked; joined = w.joined o.site h o.label }

      home : SeedHeld c xs → has_one (pinned c) l 1 ≡ true
      home s =
          one_has (pinned c) l 1 (record {
            site = s.site;
            below = rw w.long s.below;
            label = w.marked s.site s.below s.joined;
            marked = s.pin;
          })
