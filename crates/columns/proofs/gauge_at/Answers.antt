-- `gauge_at` meets its contract, by the mode.
use mathlib.Core.Path.{◌≡◌, sym, ◌∙◌}
use mathlib.Core.Bool.{true}
use Rattle.paper.specs.Panel.Takes.{is_gperm}
use Rattle.columns.proofs.gauge_at.Goals as goal

pub returns-then-is_gperm : goal.returns-then-is_gperm
returns-then-is_gperm c =
    let gperm : is_gperm c.args.mode ≡ true = sym c.is_gperm.ensures ∙ c.if-is_gperm.true in
    rw gperm (rw c.column_at.ensures at c.negated.ensures)
