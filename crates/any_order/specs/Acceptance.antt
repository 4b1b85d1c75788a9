-- A team's acceptance is the same before, between and after the other team's steps.
use Rattle.std.specs.Prelude.{ℕ, ◌<◌, ◌≡◌, Bool, false, List, length, ℤ}
use Rattle.std.proofs.Common.{sym, ◌∙◌, ap, subst}
use Rattle.paper.specs.Panel.Input.{Buffers, spin}
use Rattle.paper.specs.Refusal.Rule.{Kept}
use Rattle.paper.specs.Answer.Totals.{swept_rules}
use Rattle.paper.specs.Answer.Task.{Sweep}
use Rattle.paper.specs.Answer.Sweep.{Unmoved}
use Rattle.paper.specs.Answer.Team.{Team, own, read_sweep}
use Rattle.laws.specs.AnswersLocal.{with_spins}
use Rattle.laws.specs.Matched.{SameVerdict}
use Rattle.laws.specs.NamedOnly.{Leaves}
use Rattle.laws.specs.SweepNamedOnly.{sweep_rules_isolated}
use Rattle.laws.specs.Isolated.{lists_own, OtherTeam, other_not_own}
use Rattle.any_order.specs.Tasks.{Holding, Merged}
use Rattle.any_order.specs.Mixed.{unmoved}

pub other_way : {o e : Team} → OtherTeam o e → OtherTeam e o
other_way h = record { owners = sym h.owners; other = λ f. h.other (sym f) }

-- a sweep w of the team o
module _ (o e : Team) (other : OtherTeam o e) (keeping : Bool) (w : Sweep) (b : Buffers) (ts : List ℤ) where
  -- is tested with one verdict on two panels that differ in rows and totals of e's systems alone
  pub acceptance_stays :
      (ys us : List ℤ)
      → length ys ≡ length b.spins
      → length us ≡ length ts
      → Leaves w.lattice.n (own e) b.spins ts ys us
      → SameVerdict (swept_rules keeping (read_sweep o w) b ts) (swept_rules keeping (read_sweep o w) (with_spins b ys) us)
  acceptance_stays ys us long many f =
      sweep_rules_isolated (own o) (read_sweep o w) (lists_own o w) b ys long (λ t i q hi. f.rows t i (other_not_own (other_way other) t q) hi)
      keeping ts us many (λ t q. f.totals t (other_not_own (other_way other) t q))

  -- so at any moment of e's accepted sweep x it is what it was at the start: `held` is whatever e's tasks hold then, before, between or after their
  -- steps, and d' and us are the panel with that in its places
  pub acceptance_between :
      (keeping' : Bool) (x : Sweep) (d : Buffers)
      → x.lattice.n ≡ w.lattice.n
      → d.spins ≡ b.spins
      → Kept (swept_rules keeping' (read_sweep e x) d ts)
      → (held : ℕ → Holding) (d' : Buffers) (us : List ℤ)
      → Merged (read_sweep e x) d ts held d' us
      → SameVerdict (swept_rules keeping (read_sweep o w) b ts) (swept_rules keeping (read_sweep o w) (with_spins b d'.spins) us)
  acceptance_between keeping' x d one_size one_panel accepted held d' us m =
      acceptance_stays d'.spins us (m.outputs.lengths.spins ∙ ap length one_panel) m.totals_long
      (record { rows = subst Stay one_size rows; totals = λ t q. m.other_totals t (still t q) })
    where
      still : (t : ℕ) → own e t ≡ false → Unmoved (read_sweep e x) t
      still = unmoved (own e) (read_sweep e x) (lists_own e x) keeping' d ts accepted

      Stay : ℕ → Type 0
      Stay n = (t i : ℕ) → own e t ≡ false → i < n → spin n d'.spins t i ≡ spin n b.spins t i

      rows : Stay x.lattice.n
      rows t i q hi = m.other_rows i t hi (still t q) ∙ ap (λ (zs : List ℤ). spin x.lattice.n zs t i) one_panel
