-- `all_current` meets its contract: after t turns the flag tells of the systems below t.
use mathlib.Core.Path.{◌≡◌}
use mathlib.Core.Bool.{true}
use Rattle.lemmas.specs.Tells.{Flagged}
use Rattle.paper.specs.Answer.Team.{own}
use Rattle.systems.specs.Owners.{team_of}
use Rattle.meter.specs.Part.{CurrentAt}
use Rattle.meter.proofs.all_current.Given as goal

abbrev pub invariant-loop-t : goal.invariant-loop-t
invariant-loop-t l = Flagged l.s (λ k. own (team_of l.team l.owners) k ≡ true → CurrentAt l.n l.d l.fwd l.js l.spins l.totals k) l.t l.ok
