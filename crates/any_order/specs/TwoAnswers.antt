-- Two teams' sweeps, each accepted or refused: how they end together, and what it says that no step of theirs is refused.
use Rattle.std.specs.Prelude.{ℕ, zero, suc, ◌≡◌, Bool, true, false, cond, List, eqb, ℤ}
use Rattle.paper.specs.Panel.Input.{Buffers}
use Rattle.paper.specs.Answer.Task.{Sweep}
use Rattle.laws.specs.AnswersLocal.{with_spins}
use Rattle.any_order.specs.Schedule.{Step}
use Rattle.any_order.specs.EachTurn.{Claim}
use Rattle.any_order.specs.Tasks.{Holding, DoesFor, Merged}
use Rattle.any_order.specs.NoRefusal.{Unrefused}
use Rattle.any_order.specs.Mixed.{MergedTwo}
use Rattle.any_order.specs.TwoTeams.{TwoSteps}

-- the panel is put together from what the tasks of accepted sweeps hold; a refused sweep's areas are what they were, with the rows of the panel
abbrev pub EndsTwo : ℕ → ℕ → Sweep → Sweep → Buffers → Buffers → List ℤ → (ℕ → Holding) → (ℕ → Holding) → Buffers → Buffers → List ℤ → Type 0
EndsTwo zero zero w x b d ts held held' b' d' us = MergedTwo w x b d ts held held' b' d' us
EndsTwo zero (suc r') w x b d ts held held' b' d' us = Merged w b ts held b' us × (d' ≡ with_spins d b'.spins)
EndsTwo (suc r) zero w x b d ts held held' b' d' us = Merged x d ts held' d' us × (b' ≡ with_spins b d'.spins)
EndsTwo (suc r) (suc r') w x b d ts held held' b' d' us = (b' ≡ b) × (d' ≡ d) × (us ≡ ts)

-- a step of a team's sweep is not refused
abbrev pub EitherUnrefused :
    (t : Bool) (keeping : Bool) (w : Sweep) (keeping' : Bool) (x : Sweep) (k : ℕ) (s : Step) (h h' : Holding)
    → cond t (DoesFor keeping w k) (DoesFor keeping' x k) s h h'
    → Type 0
EitherUnrefused true keeping w keeping' x k s h h' d = Unrefused keeping w k s h h' d
EitherUnrefused false keeping w keeping' x k s h h' d = Unrefused keeping' x k s h h' d

abbrev pub TwoUnrefused : (team : ℕ) (keeping : Bool) (w : Sweep) (keeping' : Bool) (x : Sweep) → Claim (TwoSteps team keeping w keeping' x)
TwoUnrefused team keeping w keeping' x q = EitherUnrefused (eqb q.team team) keeping w keeping' x q.task
