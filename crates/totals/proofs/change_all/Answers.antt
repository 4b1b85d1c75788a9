-- `change_all` meets its contract. The invariant: the sums have the changes that are looked at from the first i sites.
use native.Mathlib.Omega.{arith}
use Rattle.totals.specs.Gain.{Change, change_of, site_gain, Room}
use Rattle.totals.proofs.Sums.{room_noughts, room_after, room_within, added_none, added_more}
use Rattle.totals.proofs.Site.{sites_small}
use Rattle.totals.proofs.change_all.Goals as goal

pub loop-i-init : goal.loop-i-init
loop-i-init c = added_none _

pub change_site-requires : goal.change_site-requires
change_site-requires c =
    let room : Room 80000000000 c.args.len c.loop-i.sums = room_within
    (room_after 65536000000 (room_noughts c.requires.len_bound) c.loop-i.invariant (λ k h. sites_small c.requires.ground c.loop-i.i k c.loop-i.auto.i-end))
    (omega arith) in
    record { ground = c.requires.ground; below = c.loop-i-test.true; room = room }

pub loop-i-preserved : goal.loop-i-preserved
loop-i-preserved c =
    let w : Change = change_of c.args.d c.args.fwd.now c.args.bwd.now c.args.couplings.now c.args.olds.now c.args.news.now in
    added_more (λ k. site_gain w k) c.loop-i.invariant c.change_site.ensures
