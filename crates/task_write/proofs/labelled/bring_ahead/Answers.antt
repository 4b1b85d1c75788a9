-- `bring_ahead` meets its contract: the rows have the columns that are packed, and those after are the area's.
use mathlib.Core.Path.{◌≡◌, sym, ◌∙◌}
use mathlib.Core.Bool.{true}
use Rattle.paper.specs.Panel.Takes.{keeps_by}
use Rattle.totals.specs.Contract.{lattice_for}
use Rattle.task_write.specs.Wrote.{ahead_kept}
use Rattle.task_write.proofs.labelled.bring_ahead.Goals as goal

pub returns : goal.returns
returns c =
    let keeps : let t = c.args.t in keeps_by t.keeps t.form ≡ true = sym c.totals.ensures ∙ c.if-not-totals.false in
    let a = c.args in
    ahead_kept {g = lattice_for a.t a.fwd.now a.bwd.now a.couplings.now} keeps
    c.pack.ensures c.requires.spins c.bring_all.ensures
