-- The totals of a sweep: what its tasks do to them one after another, and what each task asks of them.
use Rattle.std.specs.Prelude.{ℕ, ◌<◌, ◌≡◌, refl, Bool, true, false, List, length, ℤ, ◌+ℤ◌, neg_ℤ}
use Rattle.std.proofs.Common.{sym, ◌∙◌, ap}
use Rattle.std.proofs.Math.IntN.{+ℤ_assoc, +ℤ_comm, +ℤ_idl, +ℤ_idr, +ℤ_invl, +ℤ_invr}
use Rattle.lemmas.specs.Sums.{sum_ext}
use Rattle.paper.specs.Panel.Input.{Lattice, Buffers, spin, system, ahead_of}
use Rattle.paper.specs.Site.Energy.{energy}
use Rattle.paper.specs.Refusal.Rule.{Kept}
use Rattle.paper.specs.Refusal.Rules.{order_names, Named, Inverse}
use Rattle.paper.specs.Answer.Task.{Sweep, tasks, group_of, task_call}
use Rattle.paper.specs.Answer.Sweep.{sweep_rules}
use Rattle.paper.specs.Answer.Totals.{total, TotalsAsked, TotalsReady, Brought, TotalsAfter}
use Rattle.laws.specs.SweepKept.{sweep_valid_of}
use Rattle.laws.specs.SweepTasks.{system_is, listed, named_in}
use Rattle.sweep_tasks.specs.Ascending.{Ran, own_rows}

-- ---- one change after another
-- y less x and z less y are z less x
between : (x y z : ℤ) → (y +ℤ neg_ℤ x) +ℤ (z +ℤ neg_ℤ y) ≡ z +ℤ neg_ℤ x
between x y z =
    +ℤ_comm (y +ℤ neg_ℤ x) (z +ℤ neg_ℤ y)
    ∙ (+ℤ_assoc z (neg_ℤ y) (y +ℤ neg_ℤ x)
    ∙ ap (λ (q : ℤ). z +ℤ q) (sym (+ℤ_assoc (neg_ℤ y) y (neg_ℤ x)) ∙ (ap (λ (q : ℤ). q +ℤ neg_ℤ x) (+ℤ_invl y) ∙ +ℤ_idl (neg_ℤ x))))

no_change : (a x : ℤ) → a +ℤ (x +ℤ neg_ℤ x) ≡ a
no_change a x = ap (λ (q : ℤ). a +ℤ q) (+ℤ_invr x) ∙ +ℤ_idr a

pub totals_none : (keeping : Bool) (g : Lattice) (xs ts : List ℤ) → TotalsAfter keeping g xs ts xs ts
totals_none keeping g xs ts = record {
  brought = λ _. record { long = refl; each = λ t l. sym (no_change (total ts t) (energy g xs t)) };
  left = λ _. refl;
}

-- kept or not, they stay as many
pub totals_long : (keeping : Bool) (g : Lattice) (xs ts ys us : List ℤ) → TotalsAfter keeping g xs ts ys us → length us ≡ length ts
totals_long true g xs ts ys us h = (h.brought refl).long
totals_long false g xs ts ys us h = ap length (h.left refl)

module _ (g : Lattice) (xs ts ys us zs vs : List ℤ) where
  brought_then : Brought g xs ts ys us → Brought g ys us zs vs → Brought g xs ts zs vs
  brought_then p q = record { long = q.long ∙ p.long; each = each }
    where
      each : (t : ℕ) → t < g.s → total vs t ≡ total ts t +ℤ (energy g zs t +ℤ neg_ℤ (energy g xs t))
      each t l =
          q.each t l
          ∙ (ap (λ (z : ℤ). z +ℤ (energy g zs t +ℤ neg_ℤ (energy g ys t))) (p.each t l)
          ∙ (+ℤ_assoc (total ts t) (energy g ys t +ℤ neg_ℤ (energy g xs t)) (energy g zs t +ℤ neg_ℤ (energy g ys t))
          ∙ ap (λ (z : ℤ). total ts t +ℤ z) (between (energy g xs t) (energy g ys t) (energy g zs t))))

  -- the changes of the energy add up
  pub totals_then : (keeping : Bool) → TotalsAfter keeping g xs ts ys us → TotalsAfter keeping g ys us zs vs → TotalsAfter keeping g xs ts zs vs
  totals_then keeping p q = record { brought = λ e. brought_then (p.brought e) (q.brought e); left = λ e. q.left e ∙ p.left e }

-- ---- a system that has not moved
energy_same :
    (g : Lattice) (xs ys : List ℤ) (t : ℕ) → Inverse g.n g.d g.fwd g.bwd
    → ((i : ℕ) → i < g.n → spin g.n ys t i ≡ spin g.n xs t i) → energy g ys t ≡ energy g xs t
energy_same g xs ys t inverse same =
    ap neg_ℤ
    (sum_ext g.n _ _ (λ i hi. sum_ext g.d _ _ (λ e he. cc (same i hi, same (ahead_of g i e) (inverse.there i e hi he).inside))))

-- b and ts before the sweep, b' and us when the first K tasks have run
pub record RanKeeping (keeping : Bool) (w : Sweep) (b : Buffers) (ts : List ℤ) (K idle moved held : ℕ) (b' : Buffers) (us : List ℤ) : Type 0 where
  pub ran : Ran w b K idle moved held b'
  pub totals : TotalsAfter keeping w.lattice b.spins ts b'.spins us

module _
    (keeping : Bool) (w : Sweep) (b : Buffers) (ts : List ℤ) (v : Kept (sweep_rules w b)) (a : TotalsAsked keeping w.lattice (order_names w.order) ts)
    (K ni nm nh : ℕ) (b' : Buffers) (us : List ℤ) (below : K < tasks w) (h : RanKeeping keeping w b ts K ni nm nh b' us)
  where
    own_system : (x : ℕ) → x < w.members → system (task_call w K) x < w.lattice.s
    own_system x l = rw (system_is w b v K below x l) ((sweep_valid_of w b v).order.below _ (listed w b v K below x l))

    own_named : (x : ℕ) → x < w.members → Named w.lattice.s (order_names w.order) (system (task_call w K) x)
    own_named x l = named_in w b v K below _ (record { place = x; below = l; is = refl; inside = own_system x l })

    own_energy :
        (x : ℕ) → x < w.members
        → energy w.lattice b'.spins (system (task_call w K) x) ≡ energy w.lattice b.spins (system (task_call w K) x)
    own_energy x l =
        energy_same w.lattice b.spins b'.spins (system (task_call w K) x) (sweep_valid_of w b v).inverse
        (λ i hi. own_rows w b v K ni nm nh b' below h.ran i hi x l)

    -- a task that has not run meets its totals as they were before the sweep, also where others have grown past what a sweep accepts
    own_total : keeping ≡ true → (x : ℕ) → x < w.members → total us (system (task_call w K) x) ≡ total ts (system (task_call w K) x)
    own_total e x l =
        (h.totals.brought e).each (system (task_call w K) x) (own_system x l)
        ∙ (ap (λ (z : ℤ). total ts (system (task_call w K) x) +ℤ (z +ℤ neg_ℤ (energy w.lattice b.spins (system (task_call w K) x)))) (own_energy x l)
        ∙ no_change (total ts (system (task_call w K) x)) (energy w.lattice b.spins (system (task_call w K) x)))

    pub task_ready : TotalsReady keeping w.lattice (group_of w K) us
    task_ready = record {
      lengths = λ e. record { couplings = (a.lengths e).couplings; totals = (h.totals.brought e).long ∙ (a.lengths e).totals };
      couplings = a.couplings;
      small = λ e x l. rw (own_total e x l) (a.small e (system (task_call w K) x) (own_named x l));
    }
