-- `change_listed` meets its contract. The invariant: the sums have the changes that are looked at from the first a sites of the list.
use Prim.Native.Nat.{ℕ}
use mathlib.Core.Path.{ap, ◌∙◌}
use native.Mathlib.Omega.{arith}
use lib.IntN.{ℤ}
use Rattle.totals.specs.Gain.{Change, change_of, at_site, site_gain, Room}
use Rattle.totals.proofs.Sums.{room_noughts, room_after, room_within, added_none, added_as, added_more}
use Rattle.totals.proofs.Fronts.{front_lt, front_at}
use Rattle.totals.proofs.Site.{listed_small}
use Rattle.totals.proofs.change_listed.Goals as goal

pub loop-site-init : goal.loop-site-init
loop-site-init c = added_none _

pub change_site-requires : goal.change_site-requires
change_site-requires c =
    let long = c.requires.sites_in.long in
    let within = c.loop-site-test.true in
    let room : Room 80000000000 c.args.len c.loop-site.sums = room_within
    (room_after 65536000000 (room_noughts c.requires.len_bound) c.loop-site.invariant
    (λ k h. listed_small c.requires.ground c.requires.sites_in c.loop-site.site-index k
    (omega (arith, front_lt _ c.requires.sites_in.long c.loop-site-test.true))))
    (omega arith) in
    record {
      ground = c.requires.ground;
      below = rw (c.wide.ensures, front_at _ long within) (c.requires.sites_in.below c.loop-site.site-index (front_lt _ long within));
      room = room;
    }

pub loop-site-preserved : goal.loop-site-preserved
loop-site-preserved c =
    let w : Change = change_of c.args.d c.args.fwd.now c.args.bwd.now c.args.couplings.now c.args.olds.now c.args.news.now in
    let term : ℕ → ℕ → ℤ = λ k b. site_gain w k (at_site c.args.list.now b) in
    added_more term c.loop-site.invariant
    (added_as c.change_site.ensures (λ k h. ap (λ (i : ℕ). site_gain w k i) (c.wide.ensures ∙ front_at _ c.requires.sites_in.long c.loop-site-test.true)))
