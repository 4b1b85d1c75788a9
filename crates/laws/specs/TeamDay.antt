-- A team's totals that are current stay so over any list of calls of both teams, mixed in any order, accepted and refused.
use Rattle.std.specs.Prelude.{ℕ, ◌≡◌, List, ℤ}
use Rattle.std.proofs.Common.{sym, ◌∙◌, ap}
use Rattle.paper.specs.declared.Keeps.TheVariants.{Totals}
use Rattle.paper.specs.Answer.Cases.{Answer}
use Rattle.paper.specs.Answer.Cases.{SweepAnswer}
use Rattle.paper.specs.Panel.Input.{Lattice, Call, Choices, Buffers}
use Rattle.paper.specs.Panel.Takes.{keeps_by}
use Rattle.paper.specs.Refusal.Rule.{Kept}
use Rattle.paper.specs.Refusal.Rules.{When}
use Rattle.paper.specs.Answer.Task.{Sweep}
use Rattle.paper.specs.Answer.Totals.{Current}
use Rattle.paper.specs.Answer.Team.{Team, Unchanged, Ours, read_call, read_sweep, TeamAnswers, TeamSweepAnswers, hand_over_rules}
use Rattle.laws.specs.Day.{Called, called_current}
use Rattle.laws.specs.Owners.{owned_cases}

-- one call of a team o, which is one of the two or is refused: before it the spins are xs and the totals ts, after it ys and us. It is a move or a sweep
-- of any mode, form, systems and choices that keeps totals, on the lattice g, or one that observes, which keeps none, whatever it is lent
pub data TeamCalled (g : Lattice) (owners : List ℕ) (xs ts ys us : List ℤ) : Type 0 where
  move :
      (o : Team) (c : Call) (p : Choices) (b b' : Buffers) (a : Answer)
      → o.owners ≡ owners
      → When (keeps_by Totals c.form) (c.lattice ≡ g)
      → b.spins ≡ xs
      → b'.spins ≡ ys
      → TeamAnswers o (keeps_by Totals c.form) c p b ts a b' us
      → TeamCalled g owners xs ts ys us
  sweep :
      (o : Team) (w : Sweep) (b b' : Buffers) (a : SweepAnswer)
      → o.owners ≡ owners
      → When (keeps_by Totals w.form) (w.lattice ≡ g)
      → b.spins ≡ xs
      → b'.spins ≡ ys
      → TeamSweepAnswers o (keeps_by Totals w.form) w b ts a b' us
      → TeamCalled g owners xs ts ys us

-- any number of them, of either team in turn, each lent the spins and the totals that the one before left
pub data TeamDay (g : Lattice) (owners : List ℕ) : (xs ts ys us : List ℤ) → Type 0 where
  over : {xs ts : List ℤ} → TeamDay g owners xs ts xs ts
  first : {xs ts ys us zs vs : List ℤ} → TeamCalled g owners xs ts ys us → TeamDay g owners ys us zs vs → TeamDay g owners xs ts zs vs

module _ (o : Team) (g : Lattice) (owners : List ℕ) where
  -- a call that an owner test refuses changes nothing
  untouched :
      {xs ts ys us : List ℤ} (b b' : Buffers)
      → Current (Ours o g.s) g xs ts
      → b.spins ≡ xs
      → b'.spins ≡ ys
      → Unchanged b ts b' us
      → Current (Ours o g.s) g ys us
  untouched b b' h before after q =
      rw (sym after ∙ (ap (λ (z : Buffers). z.spins) q.0 ∙ before), q.1) h

  pub team_called_current : {xs ts ys us : List ℤ} → Current (Ours o g.s) g xs ts → TeamCalled g owners xs ts ys us → Current (Ours o g.s) g ys us
  team_called_current h (TeamCalled.move e c p b b' a _ same before after f) =
      owned_cases (λ _ w. called_current (λ _ q. q.0) h (Called.move (read_call e c) p b b' a same before after w))
      (λ k w _ q. untouched b b' h before after q) f
  team_called_current h (TeamCalled.sweep e w b b' a _ same before after f) =
      owned_cases (λ _ v. called_current (λ _ q. q.0) h (Called.sweep (read_sweep e w) b b' a same before after v))
      (λ k v _ q. untouched b b' h before after q) f

  -- those of the team o, by its own calls and by the other's
  pub team_totals_stay_current : {xs ts ys us : List ℤ} → Current (Ours o g.s) g xs ts → TeamDay g owners xs ts ys us → Current (Ours o g.s) g ys us
  team_totals_stay_current h TeamDay.over = h
  team_totals_stay_current h (TeamDay.first x rest) = team_totals_stay_current (team_called_current h x) rest

  -- from an accepted hand-over on
  pub handed_over_current : {xs ts ys us : List ℤ} → Kept (hand_over_rules o g xs ts) → TeamDay g owners xs ts ys us → Current (Ours o g.s) g ys us
  handed_over_current h = team_totals_stay_current h.1.1.1.1.1.1.1.0
