-- `owners::own_rows_ok` meets its contract: after t turns the flag tells of the systems before t.
use mathlib.Core.Path.{◌≡◌}
use mathlib.Core.Bool.{true}
use Rattle.lemmas.specs.Tells.{Flagged}
use Rattle.paper.specs.Answer.Team.{own}
use Rattle.systems.specs.Rows.{RowSpins}
use Rattle.systems.specs.Owners.{team_of}
use Rattle.systems.proofs.owners.own_rows_ok.Given as goal

abbrev pub invariant-loop-t : goal.invariant-loop-t
invariant-loop-t l = Flagged l.s (λ u. own (team_of l.team l.owners) u ≡ true → RowSpins l.n l.s l.spins u) l.t l.ok
