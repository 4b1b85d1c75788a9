-- `choose::permute_columns` meets its contract. The invariant: the columns below i are new, the others are old.
use Prim.Native.Nat.{ℕ, ◌+◌, ◌*◌, ◌≤◌}
use mathlib.Core.Path.{◌≡◌}
use native.Mathlib.Omega.{arith}
use lib.ListN.{length, get_or}
use Rattle.lemmas.specs.Stores.{filled_more, filled_skip}
use Rattle.paper.specs.Panel.Takes.{entry}
use Rattle.choose.proofs.Entries.{row_fits}
use Rattle.choose.proofs.Row.{row_at, moved, kept}
use Rattle.choose.proofs.permute_columns.Goals as goal
use Rattle.choose.proofs.permute_columns.Goals.{then-reached-i-eq1, else-reached-i-eq1}

pub loop-i-preserved : goal.loop-i-preserved
loop-i-preserved c =
    let start : ℕ = entry c.args.form (get_or c.args.labels.now c.loop-i.i 0) * c.args.group.len in
    let within : start + c.args.group.len ≤ length c.args.perms.now =
    rw c.requires.lent (row_fits c.args.form _ _ c.args.group.len c.requires.moving (c.requires.sites.below c.loop-i.i c.loop-i-test.true)) in
    let same : get_or c.loop-i.cols c.loop-i.i 0 ≡ get_or c.args.cols.now c.loop-i.i 0 = c.loop-i.invariant.rest c.loop-i.i (omega arith) in
    let a = c.args in
    let l = c.loop-i in
    let m = a.group.len in
    elim c.if-reached-i-eq1.branch [
      | then-reached-i-eq1 w ↦
          let e = row_at a.form _ m w.wide.ensures w.entry_of.ensures in
          rw w.cols-is
          (filled_more l.invariant c.loop-i-test.true
          (moved a.form m a.gauge a.reached.now a.labels.now a.perms.now a.cols.now l.i _ _ w.permute_group_site.result
          w.if-reached-i-eq1.true
          e
          same
          (omega (arith, e, within))
          w.permute_group_site.ensures))
      | else-reached-i-eq1 w ↦ rw w.cols-is
          (filled_skip l.invariant (kept a.form m a.gauge a.reached.now a.labels.now a.perms.now a.cols.now l.i w.if-reached-i-eq1.false))
    ]
