-- `group_rows_ok` meets its contract: after k turns the flag tells of the systems before k.
use native.Mathlib.Omega.{arith}
use Rattle.std.proofs.Common.{◌<◌, ◌≡◌, length, take}
use Rattle.std.proofs.lemmas.List.{length-take-le, get_or-take}
use Rattle.lemmas.specs.Tells.{same, said, flag_more, flag_end}
use Rattle.paper.specs.Refusal.Rules.{group_names, Named, Spins}
use Rattle.systems.specs.Rows.{spins_of, spins_each}
use Rattle.systems.proofs.group_rows_ok.Goals as goal

pub loop-t-preserved : goal.loop-t-preserved
loop-t-preserved c = let g = c.args.group in
    let long : length (take g.len g.systems) ≡ g.len = length-take-le g.len g.systems (omega arith) in
    let here : c.loop-t.t-index < g.len = omega arith in
    flag_more c.loop-t.invariant here (said c.row_ok-ok.result _ (rw (get_or-take g.len g.systems c.loop-t.t-index 0 here) at c.row_ok-ok.ensures))

pub returns : goal.returns
returns c = let a = c.args in
    let names = group_names a.group in
    let long : length (take a.group.len a.group.systems) ≡ a.group.len = length-take-le a.group.len a.group.systems (omega arith) in
    let each = said c.loop-t.ok _ (flag_end c.loop-t.invariant (omega arith)) in
    (same (Spins a.n (Named a.s names) a.spins.now) (spins_of a.n a.s names a.spins.now)
    (spins_each a.n a.s names a.spins.now) each).says
