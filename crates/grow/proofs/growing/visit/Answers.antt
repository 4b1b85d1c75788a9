-- `visit` meets its contract.
use Prim.Native.Nat.{◌+◌, ◌*◌, ◌<◌}
use lib.ListN.{get_or}
use mathlib.Core.Path.{◌≡◌}
use Rattle.judge.specs.Judged.{column_for}
use Rattle.judge.specs.Drawn.{judged_on}
use Rattle.grow.specs.Members.{inside}
use Rattle.grow.specs.Kept.{Keeping, known_to_act}
use Rattle.grow.specs.Growth.{Met, Met.known, Halfway}
use Rattle.grow.specs.Contract.{graph_for, ruled}
use Rattle.grow.proofs.Turns.{met_same, cell, behind_lt, turn_ahead, turn_behind}
use Rattle.grow.proofs.growing.visit.Goals as goal
use Rattle.grow.proofs.growing.visit.Goals.{then-members-to-ne1, else-members-to-ne1, then-members-from-ne1, else-members-from-ne1}

pub bounds-fwd-base : goal.bounds-fwd-base
bounds-fwd-base c =
    let first : c.args.i < c.args.rule.task.n = rw (← c.requires.growing.long) (inside c.args.members.now c.args.i c.requires.i_value) in
    let here : c.args.i < c.args.rule.task.n = first in
    let place : c.args.i * c.args.rule.task.d + c.loop-e.e < c.args.rule.task.n * c.args.rule.task.d = cell c.requires.grounds here c.loop-e-test.true in
    rw c.requires.grounds.tables.fwd_long place

pub meet-len-requires-clause-known_to_act : goal.meet-len-requires-clause-known_to_act
meet-len-requires-clause-known_to_act c =
    let first : c.args.i < c.args.rule.task.n = rw (← c.requires.growing.long) (inside c.args.members.now c.args.i c.requires.i_value) in
    known_to_act c.requires.grounds.ready first (c.requires.kept.at c.args.i c.requires.i_value) (c.requires.kept.acts c.args.i c.requires.i_value)

pub bounds-bwd-base : goal.bounds-bwd-base
bounds-bwd-base c =
    let first : c.args.i < c.args.rule.task.n = rw (← c.requires.growing.long) (inside c.args.members.now c.args.i c.requires.i_value) in
    let here : c.args.i < c.args.rule.task.n = first in
    let place : c.args.i * c.args.rule.task.d + c.loop-e.e < c.args.rule.task.n * c.args.rule.task.d = cell c.requires.grounds here c.loop-e-test.true in
    rw c.requires.grounds.tables.bwd_long place

pub meet-len-requires-then-members-from-ne1-clause-known_to_act : goal.meet-len-requires-then-members-from-ne1-clause-known_to_act
meet-len-requires-then-members-from-ne1-clause-known_to_act c =
    let first : c.args.i < c.args.rule.task.n = rw (← c.requires.growing.long) (inside c.args.members.now c.args.i c.requires.i_value) in
    known_to_act c.requires.grounds.ready first (c.requires.kept.at c.args.i c.requires.i_value) (c.requires.kept.acts c.args.i c.requires.i_value)

pub meet-len-requires-then-members-from-ne1-clause-meeting : goal.meet-len-requires-then-members-from-ne1-clause-meeting
meet-len-requires-then-members-from-ne1-clause-meeting c =
    let first : c.args.i < c.args.rule.task.n = rw (← c.requires.growing.long) (inside c.args.members.now c.args.i c.requires.i_value) in
    let below : c.wide-from.result < c.args.rule.task.n = behind_lt c.requires.grounds first c.loop-e-test.true c.wide-from.ensures in
    let own_is : let a = c.args in get_or a.cols.now a.i 0 ≡ column_for a.rule.task a.spins.now a.i = c.requires.kept.at c.args.i c.requires.i_value in
    let met-ahead : let a = c.args in let was = c.loop-e in Keeping
    (Met (judged_on a.rule a.couplings.now a.cuts.now a.i was.e (get_or a.cols.now a.i 0) (column_for a.rule.task a.spins.now c.wide-to.result))
    c.wide-to.result was.members was.list was.len c.if-members-to-ne1.members c.if-members-to-ne1.list c.if-members-to-ne1.len) a.rule.task a.spins.now
    c.if-members-to-ne1.members c.if-members-to-ne1.cols =
    elim c.if-members-to-ne1.branch [
      | then-members-to-ne1 w ↦ met_same w.members-is w.list-is w.cols-is w.len-is w.meet-len.ensures
      | else-members-to-ne1 w ↦ met_same w.members-is w.list-is w.cols-is w.len-is
          (record { grown = known w.if-members-to-ne1.false; kept = c.loop-e.invariant.kept })
    ] in
    let halfway : let a = c.args in Halfway (graph_for a.rule.task a.fwd.now) (ruled a.rule a.fwd.now a.spins.now a.couplings.now a.cuts.now)
    a.rule.task.seed a.i a.members.now a.list.now a.start c.loop-e.e c.if-members-to-ne1.members c.if-members-to-ne1.list c.if-members-to-ne1.len =
    turn_ahead c.requires.grounds c.loop-e-test.true own_is c.loop-e.invariant.grown c.wide-to.ensures met-ahead.grown in
    let growing = halfway.visiting.growing in
    record { long = growing.long; site = below; listed = growing.listed; new = c.if-members-from-ne1.true }

pub loop-e-preserved : goal.loop-e-preserved
loop-e-preserved c =
    let own_is : let a = c.args in get_or a.cols.now a.i 0 ≡ column_for a.rule.task a.spins.now a.i = c.requires.kept.at c.args.i c.requires.i_value in
    let met-ahead : let a = c.args in let was = c.loop-e in Keeping
    (Met (judged_on a.rule a.couplings.now a.cuts.now a.i was.e (get_or a.cols.now a.i 0) (column_for a.rule.task a.spins.now c.wide-to.result))
    c.wide-to.result was.members was.list was.len c.if-members-to-ne1.members c.if-members-to-ne1.list c.if-members-to-ne1.len) a.rule.task a.spins.now
    c.if-members-to-ne1.members c.if-members-to-ne1.cols =
    elim c.if-members-to-ne1.branch [
      | then-members-to-ne1 w ↦ met_same w.members-is w.list-is w.cols-is w.len-is w.meet-len.ensures
      | else-members-to-ne1 w ↦ met_same w.members-is w.list-is w.cols-is w.len-is
          (record { grown = known w.if-members-to-ne1.false; kept = c.loop-e.invariant.kept })
    ] in
    let halfway : let a = c.args in Halfway (graph_for a.rule.task a.fwd.now) (ruled a.rule a.fwd.now a.spins.now a.couplings.now a.cuts.now)
    a.rule.task.seed a.i a.members.now a.list.now a.start c.loop-e.e c.if-members-to-ne1.members c.if-members-to-ne1.list c.if-members-to-ne1.len =
    turn_ahead c.requires.grounds c.loop-e-test.true own_is c.loop-e.invariant.grown c.wide-to.ensures met-ahead.grown in
    let met-behind : let a = c.args in Keeping
    (Met (judged_on a.rule a.couplings.now a.cuts.now c.wide-from.result c.loop-e.e (get_or a.cols.now a.i 0)
    (column_for a.rule.task a.spins.now c.wide-from.result)) c.wide-from.result c.if-members-to-ne1.members c.if-members-to-ne1.list c.if-members-to-ne1.len
    c.if-members-from-ne1.members c.if-members-from-ne1.list c.if-members-from-ne1.len) a.rule.task a.spins.now c.if-members-from-ne1.members
    c.if-members-from-ne1.cols =
    elim c.if-members-from-ne1.branch [
      | then-members-from-ne1 w ↦ met_same w.members-is w.list-is w.cols-is w.len-is w.meet-len-then-members-from-ne1.ensures
      | else-members-from-ne1 w ↦ met_same w.members-is w.list-is w.cols-is w.len-is
          (record { grown = known w.if-members-from-ne1.false; kept = met-ahead.kept })
    ] in
    let met = met-behind in
    record {
      grown = turn_behind c.requires.grounds c.loop-e-test.true own_is halfway c.wide-from.ensures met.grown;
      kept = met.kept;
    }
