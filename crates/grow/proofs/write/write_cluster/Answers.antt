-- `write_cluster` meets its contract: the rows are written, and where totals are kept all else is `bring_listed`'s.
use mathlib.Core.Path.{◌≡◌, sym, ◌∙◌}
use mathlib.Core.Bool.{true}
use Rattle.paper.specs.Panel.Takes.{keeps_by}
use Rattle.grow.specs.Totals.{spun, totals_kept}
use Rattle.grow.proofs.write.write_cluster.Goals as goal

pub bring_listed-requires-clause-spun : goal.bring_listed-requires-clause-spun
bring_listed-requires-clause-spun c = spun c.requires.writable c.write_listed.ensures _ _ _

pub returns-then-totals-clause-totals_after : goal.returns-then-totals-clause-totals_after
returns-then-totals-clause-totals_after c =
    let keeps : keeps_by c.args.t.keeps c.args.t.form ≡ true = sym c.totals.ensures ∙ c.if-totals.true in
    totals_kept c.requires.writable c.write_listed.ensures (c.requires.olds_read keeps) keeps c.bring_listed.ensures
