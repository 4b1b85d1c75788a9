-- `fill_rows` meets its contract: refused by the verdict, or written.
use Rattle.std.proofs.Common.{length}
use Rattle.paper.specs.Refusal.Rule.{Kept}
use Rattle.draws.specs.Rows.{Members}
use Rattle.draws.specs.Fill.{row_rules}
use Rattle.draws.proofs.Choosing.{within_low, within_top}
use Rattle.draws.proofs.Placing.{fits_whole}
use Rattle.draws.proofs.fills.fill_rows.Goals as goal

pub write_rows-requires : goal.write_rows-requires
write_rows-requires c =
    let kept : let a = c.args in Kept (row_rules a.single a.moving a.members (length a.rows.now) a.source) = c.in_ok-row_verdict.ensures in
    let members : Members c.args.members = record { low = within_low 2 8 _ kept.1.0; top = within_top 2 8 _ kept.1.0 } in
    let a = c.args in
    record { members = members; long = fits_whole a.single a.members (length a.rows.now) kept.1.1.0 }
