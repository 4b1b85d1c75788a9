-- `tsorvenk_test_sweep` meets its contract: the owner tests, then the sweep's on the order that is read.
use Prim.Native.Nat.{ℕ}
use lib.ListN.{length-replicate}
use Rattle.paper.specs.Panel.Input.{Buffers}
use Rattle.paper.specs.Panel.Made.{buffers_of}
use Rattle.paper.specs.Refusal.Verdict.{verdict_kept}
use Rattle.paper.specs.Refusal.Numbers.{verdict_of}
use mathlib.Core.Path.{◌≡◌}
use Rattle.paper.specs.Answer.Task.{Sweep}
use Rattle.paper.specs.Answer.Made.{sweep_of}
use Rattle.paper.specs.Answer.Team.{Team, owner_rules}
use Rattle.systems.specs.Owners.{team_of}
use Rattle.tsorvenk.specs.Number.{mode_of, form_of, keeps_of, taken_of}
use Rattle.tsorvenk.specs.Sweep.{plan_for}
use Rattle.tsorvenk.proofs.Teams.{not_refused, owner_told}
use Rattle.tsorvenk.proofs.Tasks.{test_read}
use Rattle.tsorvenk.proofs.testing.tsorvenk_test_sweep.Goals as goal

pub returns : goal.returns
returns c =
    let team : Team = team_of c.args.team c.args.owners.now in
    let W : Sweep = let a = c.args in
    sweep_of (plan_for (mode_of a.mode) (form_of a.form) (keeps_of a.keeps) a.n a.d a.s a.s a.t a.r a.members) a.fwd.now
    a.bwd.now a.pins.now a.couplings.now a.order.now a.masks.now a.temperatures.now a.cuts.now a.references.now
    a.seeds.now (taken_of (mode_of a.mode) a.flips.now a.perms.now) a.greys.now in
    let B : Buffers = let a = c.args in
    buffers_of a.spins.now a.labels.now a.grey_labels.now a.counts.now a.sizes.now a.member_sites.now a.found.now
    a.grey_found.now in
    let accepted : verdict_of c.test_owners.result ≡ 0 = not_refused c.test_owners.result c.in_default.not-Err in
    let a = c.args in
    owner_told team a.s (verdict_of c.test_owners.result) c.test.result accepted c.test_owners.ensures
    (test_read team W a.mode a.form a.keeps B a.totals.now c.test.result c.own_count-systems.result c.read_order-len.result _ _
    (verdict_kept (owner_rules team c.args.s) (verdict_of c.test_owners.result) accepted c.test_owners.ensures) c.own_count-systems.ensures (length-replicate {A = ℕ} 64 0)
    c.read_order-len.ensures c.test.ensures)
