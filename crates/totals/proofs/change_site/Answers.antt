-- `change_site` meets its contract. The invariant: the sums have the changes of the bonds of the first e directions, in both senses.
use Prim.Native.Nat.{ℕ, ◌+◌, ◌*◌, ◌≤◌, ◌<◌}
use native.Mathlib.Omega.{arith}
use lib.IntN.{nat_abs}
use Rattle.totals.specs.Gain.{Change, change_of, gain_at, Room}
use Rattle.totals.proofs.Sums.{room_after, room_within, added_none, added_both, added_as, added_more}
use Rattle.totals.proofs.Site.{turn_gain, cell, to_ends, from_ends, turn_by, at_small, turns_small}
use Rattle.totals.proofs.change_site.Goals as goal

pub loop-e-init : goal.loop-e-init
loop-e-init c = added_none _

pub bond_at-requires : goal.bond_at-requires
bond_at-requires c =
    let e : ℕ = c.loop-e.e in
    let room : Room 80016000000 c.args.len c.loop-e.sums = room_after 16000000 c.requires.room c.loop-e.invariant
    (λ k h. turns_small c.requires.ground c.args.i c.requires.below e k c.loop-e.auto.e-end) in
    to_ends c.requires.ground c.args.i e c.requires.below c.loop-e-test.true c.wide-to.ensures (room_within room (omega arith))

pub still_at-requires : goal.still_at-requires
still_at-requires c =
    let e : ℕ = c.loop-e.e in
    let room : Room 80016000000 c.args.len c.loop-e.sums = room_after 16000000 c.requires.room c.loop-e.invariant
    (λ k h. turns_small c.requires.ground c.args.i c.requires.below e k c.loop-e.auto.e-end) in
    let w : Change = change_of c.args.d c.args.fwd.now c.args.bwd.now c.args.couplings.now c.args.olds.now c.args.news.now in
    let at : c.args.i * c.args.d + e < c.args.n * c.args.d = cell c.requires.ground c.args.i e c.requires.below c.loop-e-test.true in
    let first_small : (k : ℕ) → nat_abs (gain_at w.couplings w.old w.new (c.args.i * c.args.d + e) c.args.i c.wide-to.result k) ≤ 2000000 =
    λ k. at_small c.requires.ground (c.args.i * c.args.d + e) c.args.i c.wide-to.result k
    (omega (arith, at, c.requires.ground.js_long)) in
    from_ends c.requires.ground c.args.i e c.requires.below c.loop-e-test.true c.wide-from.ensures
    (room_within (room_after 2000000 room c.bond_at.ensures (λ k h. first_small k)) (omega arith))

pub loop-e-preserved : goal.loop-e-preserved
loop-e-preserved c =
    let e : ℕ = c.loop-e.e in
    let w : Change = change_of c.args.d c.args.fwd.now c.args.bwd.now c.args.couplings.now c.args.olds.now c.args.news.now in
    added_more (turn_gain w c.args.i) c.loop-e.invariant
    (added_as (added_both c.bond_at.ensures c.still_at.ensures)
    (λ k h. turn_by c.requires.ground c.args.i e c.requires.below c.loop-e-test.true k c.wide-to.ensures c.wide-from.ensures))
