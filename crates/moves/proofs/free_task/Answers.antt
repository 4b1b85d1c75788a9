-- `free_task` meets its contract: where no site acts, where the form moves nothing, and where it moves.
use mathlib.Core.Path.{◌≡◌, sym, ◌∙◌}
use mathlib.Core.Bool.{true}
use Rattle.paper.specs.Panel.Takes.{moves}
use Rattle.moves.specs.Freeing.{free_moves}
use mathlib.Core.Bool.{not}
use mathlib.Core.Path.{ap}
use Rattle.moves.proofs.free_task.Goals as goal

pub returns-then-moves : goal.returns-then-moves
returns-then-moves c =
    let moving : moves c.args.t.form ≡ true = sym c.moves.ensures ∙ c.if-moves.true in
    free_moves c.requires c.hold_back.ensures (ap not c.if-not-some.false) moving c.free_greys.ensures c.seed_held-held.ensures c.answered.ensures
