-- `gather` meets its contract. The invariant: the sites next to the first of the list are gathered.
use mathlib.Core.Path.{◌∙◌}
use Rattle.totals.proofs.Fronts.{front_at}
use Rattle.totals.proofs.Gathered.{gathered_as, gathered_both, some_more}
use Rattle.totals.proofs.gather.Goals as goal

pub loop-site-preserved : goal.loop-site-preserved
loop-site-preserved c =
    let read = c.wide.ensures ∙ front_at _ c.requires.gather_in.sites.long c.loop-site-test.true in
    gathered_as (gathered_both c.loop-site.invariant c.gather_near.ensures) (some_more c.args.list.now read)
