-- `meet` meets its contract.
use Prim.Native.Nat.{ℕ, ◌<◌}
use mathlib.Core.Path.{◌≡◌, sym, ◌∙◌, ap}
use native.Mathlib.Omega.{arith}
use lib.ListN.{length}
use Rattle.judge.specs.Judged.{column_for}
use Rattle.judge.specs.Drawn.{judged_on}
use Rattle.grow.specs.Kept.{end_acts, kept_more}
use Rattle.grow.specs.Listed.{fits}
use Rattle.grow.specs.Growth.{Met.loose, Met.joins}
use Rattle.grow.proofs.growing.meet.Goals as goal

pub offset_bounds-list-len : goal.offset_bounds-list-len
offset_bounds-list-len c =
    let inside : c.args.found < length c.args.members.now = let h = c.requires.meeting in rw h.long h.site in
    let room : c.args.len < length c.args.list.now = let h = c.requires.meeting in fits h.listed inside h.new in
    omega (arith, room)

pub bounds-list-len : goal.bounds-list-len
bounds-list-len c =
    let inside : c.args.found < length c.args.members.now = let h = c.requires.meeting in rw h.long h.site in
    let room : c.args.len < length c.args.list.now = let h = c.requires.meeting in fits h.listed inside h.new in
    room

pub overflow_add-result : goal.overflow_add-result
overflow_add-result c =
    let inside : c.args.found < length c.args.members.now = let h = c.requires.meeting in rw h.long h.site in
    let room : c.args.len < length c.args.list.now = let h = c.requires.meeting in fits h.listed inside h.new in
    omega (arith, room)

pub returns-then-judge : goal.returns-then-judge
returns-then-judge c =
    let inside : c.args.found < length c.args.members.now = let h = c.requires.meeting in rw h.long h.site in
    let cell : c.args.found < length c.args.cols.now = omega (arith, c.requires.meeting.site, c.requires.ready.growable.panel.n_high, c.requires.kept.long) in
    let is : let a = c.args in c.judge.result ≡ judged_on a.rule a.couplings.now a.cuts.now a.bond.0 a.bond.1 a.own (column_for a.rule.task a.spins.now a.found) = let a = c.args in
    c.judge.ensures
    ∙ ap (λ (x : ℕ). judged_on a.rule a.couplings.now a.cuts.now a.bond.0 a.bond.1 a.own x) c.quick_column_at-other.ensures in
    let a = c.args in
    let h = c.requires.meeting in
    let k = c.requires.kept in
    let acts = end_acts c.requires.ready h.site c.quick_column_at-other.ensures a.bond.0 a.bond.1 a.own (sym c.judge.ensures ∙ c.if-judge.true) in
    record {
      grown = joins (sym is ∙ c.if-judge.true) h.new;
      kept = kept_more a.members.now a.cols.now a.found _ inside cell k.long c.quick_column_at-other.ensures acts k;
    }

pub returns : goal.returns
returns c =
    let is : let a = c.args in c.judge.result ≡ judged_on a.rule a.couplings.now a.cuts.now a.bond.0 a.bond.1 a.own (column_for a.rule.task a.spins.now a.found) = let a = c.args in
    c.judge.ensures
    ∙ ap (λ (x : ℕ). judged_on a.rule a.couplings.now a.cuts.now a.bond.0 a.bond.1 a.own x) c.quick_column_at-other.ensures in
    record { grown = loose (sym is ∙ c.if-judge.false); kept = c.requires.kept }
