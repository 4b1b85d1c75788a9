-- `owners::read_order` meets its contract: after k turns the first k entries are written.
use Prim.Native.Nat.{◌≤◌}
use lib.ListN.{get_or}
use Rattle.lemmas.specs.Stores.{Filled}
use Rattle.paper.specs.Answer.Team.{read}
use Rattle.systems.specs.Owners.{team_of}
use Rattle.systems.proofs.owners.read_order.Given as goal

abbrev pub invariant-loop-k : goal.invariant-loop-k
invariant-loop-k l = (l.k ≤ l.len) × Filled 0 (λ j. read (team_of l.team l.owners) l.s (get_or l.order j 0)) l.k l.initial.named l.named
