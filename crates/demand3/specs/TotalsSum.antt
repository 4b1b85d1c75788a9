-- Pair, perm, gperm and houd of two keep the sum of the group's totals: such a move keeps every bond's sum over the group, and the group's energies
-- are minus these sums, each times its coupling. In every form that moves: also where the seed's component is grown.
use Rattle.std.specs.Prelude.{ℕ, ◌<◌, ◌≡◌, refl, ◌⊎◌, Bool, true, false, List, get_or, ℤ, pos, neg_ℤ, ◌+ℤ◌, ◌*ℤ◌}
use Rattle.std.proofs.Common.{sym, ◌∙◌, ap, inl, inr}
use Rattle.std.proofs.Math.IntN.{+ℤ_idr, +ℤ_invr}
use Rattle.lemmas.specs.Sums.{sum, sum_ext, sum_add, sum_swap}
use Rattle.paper.specs.Answer.Cases.{Answer, Answer.Refused, Answer.Idle, Answer.Held, Answer.Moved}
use Rattle.paper.specs.Panel.Input.{Call, Choices, Buffers, pattern, size, system, ahead, bond}
use Rattle.paper.specs.Panel.Takes.{grows_by, labels_by}
use Rattle.paper.specs.Site.Energy.{energy, bond_sum}
use Rattle.paper.specs.Refusal.Rules.{Grouped}
use Rattle.paper.specs.Refusal.Kept.{Valid, valid_of}
use Rattle.paper.specs.Answer.Move.{Goes, Answers}
use Rattle.paper.specs.Answer.Task.{Sweep, tasks, masked, task_call, task_choices, areas}
use Rattle.paper.specs.Answer.Sweep.{Done}
use Rattle.paper.specs.Answer.Totals.{total, TotalsAfter, kept_valid, KeepAccepts, KeepAnswers, SweepKeeps}
use Rattle.laws.specs.Forms.{by_form}
use Rattle.laws.specs.SweepTasks.{task_valid}
use Rattle.demand3.specs.Statement.{Reversible, Move}
use Rattle.demand3.specs.Step.{step, step_grown}
use Rattle.demand3.specs.BondSums.{sum_kept}
use Rattle.demand3.specs.Products.{times_assoc, sum_times, sum_neg}

-- ---- every bond's sum over the group stays, whatever the form
abbrev pub SumsStay : Call → List ℤ → List ℤ → Type 0
SumsStay c xs ys = (i e : ℕ) → i < c.lattice.n → e < c.lattice.d → bond_sum c ys i e ≡ bond_sum c xs i e

module _ (c : Call) (p : Choices) (b b' : Buffers) (v : Reversible c.mode (size c)) where
  goes_sums : Goes c p b b' → SumsStay c b.spins b'.spins
  goes_sums w = go (by_form c.form)
    where
      go : (labels_by c.form ≡ true) ⊎ (grows_by c.form ≡ true) → SumsStay c b.spins b'.spins
      go (inl f) = sum_kept (step v f (Move.moved w))
      go (inr g) = sum_kept (step_grown v g w)

  pub bond_sums_stay : (a : Answer) → Answers c p b a b' → SumsStay c b.spins b'.spins
  bond_sums_stay (Refused r) w i e hi he = ap (λ (z : Buffers). bond_sum c z.spins i e) w.kept
  bond_sums_stay Idle w i e hi he = ap (λ (zs : List ℤ). bond_sum c zs i e) w.still
  bond_sums_stay Held w i e hi he = ap (λ (zs : List ℤ). bond_sum c zs i e) w.still
  bond_sums_stay Moved w i e hi he = goes_sums w i e hi he

-- ---- the group's energies
module _ (c : Call) where
  abbrev coupling : ℕ → ℕ → ℤ
  coupling i e = get_or c.lattice.couplings (bond c i e) (pos 0)

  -- one bond's part of the energy of the system at the place k, without its sign
  abbrev part : List ℤ → ℕ → ℕ → ℕ → ℤ
  part xs k i e = coupling i e *ℤ pattern c xs i k *ℤ pattern c xs (ahead c i e) k

  part_sum : (xs : List ℤ) (i e : ℕ) → sum (size c) (λ k. part xs k i e) ≡ coupling i e *ℤ bond_sum c xs i e
  part_sum xs i e =
      sum_ext (size c) (λ k. part xs k i e) (λ k. coupling i e *ℤ (pattern c xs i k *ℤ pattern c xs (ahead c i e) k))
      (λ k _. times_assoc (coupling i e) (pattern c xs i k) (pattern c xs (ahead c i e) k))
      ∙ sum_times (size c) (coupling i e) (λ k. pattern c xs i k *ℤ pattern c xs (ahead c i e) k)

  by_bonds : (xs : List ℤ)
      → sum (size c) (λ k. energy c.lattice xs (system c k))
      ≡ neg_ℤ (sum c.lattice.n (λ i. sum c.lattice.d (λ e. coupling i e *ℤ bond_sum c xs i e)))
  by_bonds xs =
      sum_neg (size c) (λ k. sum c.lattice.n (λ i. sum c.lattice.d (λ e. part xs k i e)))
      ∙ ap neg_ℤ
      (sum_swap (size c) c.lattice.n (λ k i. sum c.lattice.d (λ e. part xs k i e))
      ∙ sum_ext c.lattice.n _ _
      (λ i _. sum_swap (size c) c.lattice.d (λ k e. part xs k i e) ∙ sum_ext c.lattice.d _ _ (λ e _. part_sum xs i e)))

  pub energies_stay :
      (xs ys : List ℤ)
      → SumsStay c xs ys
      → sum (size c) (λ k. energy c.lattice ys (system c k)) ≡ sum (size c) (λ k. energy c.lattice xs (system c k))
  energies_stay xs ys h =
      by_bonds ys
      ∙ (ap neg_ℤ
      (sum_ext c.lattice.n _ _ (λ i hi. sum_ext c.lattice.d _ _ (λ e he. ap (λ (z : ℤ). coupling i e *ℤ z) (h i e hi he))))
      ∙ sym (by_bonds xs))

  -- ---- and its totals
  abbrev pub group_total : List ℤ → ℤ
  group_total ts = sum (size c) (λ k. total ts (system c k))

  brought_sum :
      (keeping : Bool) (xs ts ys us : List ℤ)
      → Grouped c.lattice.s c.group
      → SumsStay c xs ys
      → TotalsAfter keeping c.lattice xs ts ys us
      → group_total us ≡ group_total ts
  brought_sum false xs ts ys us g h t = ap group_total (t.left refl)
  brought_sum true xs ts ys us g h t =
      sum_ext N _ (λ k. total ts (system c k) +ℤ (after k +ℤ neg_ℤ (before k))) (λ k l. (t.brought refl).each (system c k) (g.below k l))
      ∙ (sum_add N (λ k. total ts (system c k)) (λ k. after k +ℤ neg_ℤ (before k))
      ∙ (ap (λ (x : ℤ). group_total ts +ℤ x) none ∙ +ℤ_idr (group_total ts)))
    where
      N : ℕ
      N = size c

      before : ℕ → ℤ
      before k = energy c.lattice xs (system c k)

      after : ℕ → ℤ
      after k = energy c.lattice ys (system c k)

      none : sum N (λ k. after k +ℤ neg_ℤ (before k)) ≡ pos 0
      none =
          sum_add N after (λ k. neg_ℤ (before k))
          ∙ (cc (sum_neg N before, energies_stay xs ys h) ∙ +ℤ_invr (sum N before))

-- "For pair, perm, gperm and houd of two the group's sum of totals does not change": in any call, whatever the totals were
pub group_total_kept :
    (keeping : Bool) (c : Call) (p : Choices) (b b' : Buffers) (ts us : List ℤ) (a : Answer)
    → Reversible c.mode (size c)
    → KeepAnswers keeping c p b ts a b' us
    → sum (size c) (λ k. total us (system c k)) ≡ sum (size c) (λ k. total ts (system c k))
group_total_kept keeping c p b b' ts us a v = go a
  where
    accepted : (a : Answer) → KeepAccepts keeping c p b ts a b' us → group_total c us ≡ group_total c ts
    accepted a f =
        brought_sum c keeping b.spins ts b'.spins us (kept_valid keeping c p b ts f.valid).sound.grouped
        (bond_sums_stay c p b b' v a f.answers) f.totals

    go : (a : Answer) → KeepAnswers keeping c p b ts a b' us → group_total c us ≡ group_total c ts
    go (Refused r) f = ap (group_total c) f.totals_kept
    go Idle f = accepted Idle f
    go Held f = accepted Held f
    go Moved f = accepted Moved f

-- and in an accepted sweep that of each task's group
pub task_total_kept :
    (keeping : Bool) (w : Sweep) (b b' : Buffers) (ts us : List ℤ) (idle moved held : ℕ)
    → Reversible w.mode w.members
    → SweepKeeps keeping w b ts idle moved held b' us
    → (k : ℕ)
    → k < tasks w
    → masked w k ≡ false
    → sum w.members (λ x. total us (system (task_call w k) x)) ≡ sum w.members (λ x. total ts (system (task_call w k) x))
task_total_kept keeping w b b' ts us idle moved held v f k below unmasked =
    brought_sum c keeping b.spins ts b'.spins us valid.sound.grouped sums f.totals
  where
    c : Call
    c = task_call w k

    done : Done w b b' k (f.answers.answered k)
    done = f.answers.each k below unmasked

    valid : Valid (task_call w k) (task_choices w k) (areas w b b.spins k)
    valid = valid_of (task_call w k) (task_choices w k) (areas w b b.spins k) (task_valid w b f.answers.valid k below unmasked)

    -- the group's rows are those that the task alone would leave
    sums : SumsStay (task_call w k) b.spins b'.spins
    sums i e hi he =
        let hj = (valid.sound.inverse.there i e hi he).inside in
        sum_ext w.members _ _ (λ x hx. cc (done.rows i x hi hx, done.rows (ahead (task_call w k) i e) x hj hx))
        ∙ bond_sums_stay (task_call w k) (task_choices w k) (areas w b b.spins k) (areas w b' done.spins k) v (f.answers.answered k) done.answers
        i e hi he
