-- What a move counts: components that act. Whether a site acts is one on a component (`acts_one`, `both_act_lem`), and an idle move counts none (`idle_counts`,
-- `idle_sizes`). That the sizes of all that is counted add up to the number of acting sites is `acting_total`, in `label`.
use Rattle.std.specs.Prelude.{ℕ, ◌≤◌, ◌<◌, ◌≡◌, ◌⊎◌, ◌≢◌, Bool, false, ◌&&◌, List, eqb, leb, length, get_or, ℤ}
use Rattle.std.proofs.Math.Path.{refl}
use Rattle.std.proofs.Common.{sym, ◌∙◌, inl, inr, not-suc-le-zero}
use Rattle.std.proofs.Math.Bool.{true}
use Rattle.lemmas.specs.Bools.{and_left, and_right}
use Rattle.lemmas.specs.Counts.{count_where, count_zero}
use Rattle.paper.specs.declared.Mode.{Mode}
use Rattle.paper.specs.declared.Mode.TheVariants.{Houd, Pair, Perm, Gperm, Jorg, Cmr}
use Rattle.paper.specs.Answer.Cases.{Answer.Idle}
use Rattle.paper.specs.Panel.Input.{graph, ahead, Call, Choices, Buffers}
use Rattle.paper.specs.Panel.Takes.{grows_by, labels_by}
use Rattle.paper.specs.Site.Acting.{acts}
use Rattle.paper.specs.Site.Bonds.{both_act, holds_by, holds}
use Rattle.paper.specs.Component.Links.{Linked.stay, Linked.along, Linked.against}
use Rattle.paper.specs.Component.Labels.{Bond, Joined}
use Rattle.paper.specs.Component.Sizes.{label_of, is_first, counted, size_of, at_least}
use Rattle.paper.specs.Refusal.Kept.{valid_of}
use Rattle.paper.specs.Answer.Move.{SeenAll, Answers}
use Rattle.laws.specs.Forms.{grows_one}

-- ---- acts is one on a component
module _ (c : Call) (xs : List ℤ) where
  pub cmr_acts : c.mode ≡ Cmr → (i : ℕ) → acts c xs i ≡ true
  unfolding acts
  cmr_acts e i = rw e refl

  -- both ends of a bond that holds act
  held_acts : (m : Mode) → c.mode ≡ m → (i e : ℕ) → holds_by m c xs i e ≡ true → both_act c xs i e ≡ true
  held_acts Houd q i e h = h
  held_acts Pair q i e h = h
  held_acts Perm q i e h = h
  held_acts Gperm q i e h = h
  held_acts Jorg q i e h = and_left (both_act c xs i e) _ h
  held_acts Cmr q i e h = rw (cmr_acts q i) (cmr_acts q (ahead c i e))

  bond_acts : {i j : ℕ} → Bond (graph c) (holds c xs) i j → (acts c xs i ≡ true) × (acts c xs j ≡ true)
  unfolding holds
  bond_acts {i} {j} b = (and_left (acts c xs i) _ both, rw b.leads at (and_right (acts c xs i) _ both))
    where
      both : both_act c xs i b.dir ≡ true
      both = held_acts c.mode refl i b.dir b.on

  -- joined sites both act or neither does: so the smallest site tells of its whole component
  pub acts_one : {i j : ℕ} → Joined (graph c) (holds c xs) i j → acts c xs i ≡ acts c xs j
  acts_one stay = refl
  acts_one (along b r) = (bond_acts b).0 ∙ (sym (bond_acts b).1 ∙ acts_one r)
  acts_one (against b r) = (bond_acts b).1 ∙ (sym (bond_acts b).0 ∙ acts_one r)

  -- and if they are two, both act
  pub both_act_lem : {i j : ℕ} → Joined (graph c) (holds c xs) i j → i ≢ j → (acts c xs i ≡ true) × (acts c xs j ≡ true)
  both_act_lem stay ne = absurd (ne refl)
  both_act_lem (along b r) ne = ((bond_acts b).0, sym (acts_one (along b r)) ∙ (bond_acts b).0)
  both_act_lem (against b r) ne = ((bond_acts b).1, sym (acts_one (against b r)) ∙ (bond_acts b).1)

-- ---- an idle move: every count and every size is 0, and so is every member's byte
module _ (c : Call) (p : Choices) (b b' : Buffers) (w : Answers c p b Idle b') where
  pub idle_members : grows_by c.form ≡ true → (i : ℕ) → i < c.lattice.n → get_or b'.members i 0 ≡ 0
  idle_members g = ((w.seen.one g).none (w.none c.seed ((valid_of c p b w.valid).fit.seeded.below (grows_one c.form g)))).zeros

module _ (c : Call) (p : Choices) (b b' : Buffers) (w : Answers c p b Idle b') (labelled : labels_by c.form ≡ true) where
  seen : SeenAll c b b'
  seen = w.seen.all labelled

  none : (test : ℕ → Bool)
      → count_where (λ i. counted (acts c b.spins) b'.labels i && test (size_of b'.labels (label_of b'.labels i))) (length b'.labels) ≡ 0
  none test =
      count_zero (λ i. counted (acts c b.spins) b'.labels i && test (size_of b'.labels (label_of b'.labels i))) (length b'.labels)
      (λ i h. off (is_first b'.labels i) _ _ (w.none i (rw seen.labels.labels.long at h)))
    where
      off : (own mark tested : Bool) → mark ≡ false → ((own && mark) && tested) ≡ false
      off true mark tested e = rw e refl
      off false mark tested e = refl

  pub idle_counts : (s : ℕ) → s ≤ c.lattice.n → get_or b'.counts s 0 ≡ 0
  idle_counts s h = seen.counts.each s (rw seen.labels.labels.long h) ∙ none (λ x. eqb x s)

  pub idle_sizes : (t : ℕ) → t < 4 → get_or b'.sizes t 0 ≡ 0
  idle_sizes t h = go (get_or b'.sizes t 0) (seen.sizes.each t h).reached
    where
      go : (a : ℕ) → (a ≡ 0) ⊎ (t < at_least (acts c b.spins) b'.labels a) → a ≡ 0
      go a (inl e) = e
      go a (inr k) = absurd (not-suc-le-zero (rw (none (leb a)) at k))
