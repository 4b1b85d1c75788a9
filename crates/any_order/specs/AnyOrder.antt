-- One sweep whose tasks take their steps in some order: how it begins, how it ends, and what it answers. The tasks of a refused one hold
-- what they held.
use Rattle.std.specs.Prelude.{ℕ, zero, suc, ◌<◌, ◌≡◌, Bool, false, List, ℤ}
use Rattle.paper.specs.Answer.Cases.{SweepAnswer, SweepAnswer.Fault}
use Rattle.paper.specs.Panel.Input.{Buffers}
use Rattle.paper.specs.Answer.Task.{Sweep, tasks, masked}
use Rattle.any_order.specs.Schedule.{Key, Turn, Steps, Run, Ordered}
use Rattle.any_order.specs.Commute.{others_untouched}
use Rattle.any_order.specs.EachTurn.{Claim}
use Rattle.any_order.specs.Tasks.{Holding, DoesFor, Holds, Merged, swept_by}
use Rattle.any_order.specs.NoRefusal.{Unrefused}
use Rattle.any_order.specs.Unmasked.{stepping}

-- the steps of one sweep, whatever the team
abbrev pub SweepSteps : Bool → Sweep → Steps Holding
SweepSteps keeping w q = DoesFor keeping w q.task

abbrev pub NotRefused : (keeping : Bool) (w : Sweep) → Claim (SweepSteps keeping w)
NotRefused keeping w q = Unrefused keeping w q.task

-- the unmasked tasks hold what is theirs of the panel
abbrev pub Starts : Sweep → Buffers → List ℤ → (ℕ → Holding) → Type 0
Starts w b ts held = (k : ℕ) → k < tasks w → masked w k ≡ false → Holds w b ts k (held k)

-- ---- accepted or not: the tests of the sweep, on the state at the start, answer the number r

-- of an accepted sweep the tasks are handed what is theirs, of a refused one nothing is asked
abbrev pub Begins : ℕ → Sweep → Buffers → List ℤ → (ℕ → Holding) → Type 0
Begins zero w b ts held = Starts w b ts held
Begins (suc r) w b ts held = Unit {0}

-- of an accepted sweep the panel is put together from what the tasks hold, of a refused one it is what it was
abbrev pub Ends : ℕ → Sweep → Buffers → List ℤ → (ℕ → Holding) → Buffers → List ℤ → Type 0
Ends zero w b ts held b' us = Merged w b ts held b' us
Ends (suc r) w b ts held b' us = (b' ≡ b) × (us ≡ ts)

abbrev pub answer_of : ℕ → Sweep → (ℕ → Holding) → SweepAnswer
answer_of zero w held = swept_by w held
answer_of (suc r) w held = Fault (suc r)

-- no task of a refused sweep holds anything else than it did
pub refused_untouched :
    (keeping : Bool) (w : Sweep) (team : ℕ) (xs : List Turn) (st st' : Key → Holding) (r : ℕ)
    → Ordered (stepping (suc r) team w) xs
    → Run (SweepSteps keeping w) xs st st'
    → (q : Key)
    → st' q ≡ st q
refused_untouched keeping w team xs st st' r o run q = others_untouched (stepping (suc r) team w) xs tt o run q (λ h. h)
