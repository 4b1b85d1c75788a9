-- `tsorvenk_sweep` meets its contract: the owner tests, then the sweep on the order that is read.
use Prim.Native.Nat.{ℕ}
use lib.ListN.{length-replicate}
use Rattle.paper.specs.Refusal.Verdict.{verdict_kept}
use Rattle.paper.specs.Refusal.Numbers.{verdict_of}
use mathlib.Core.Path.{◌≡◌}
use Rattle.paper.specs.Answer.Task.{Sweep}
use Rattle.paper.specs.Answer.Made.{sweep_of}
use Rattle.paper.specs.Answer.Team.{Team, owner_rules}
use Rattle.systems.specs.Owners.{team_of}
use Rattle.tsorvenk.specs.Number.{mode_of, form_of, keeps_of, taken_of}
use Rattle.tsorvenk.specs.Sweep.{plan_for}
use Rattle.tsorvenk.proofs.Teams.{not_refused, owner_told, sweep_read}
use Rattle.tsorvenk.proofs.sweeping.tsorvenk_sweep.Goals as goal

pub returns : goal.returns
returns c =
    let team : Team = team_of c.args.team c.args.owners.now in
    let W : Sweep = let a = c.args in
    sweep_of (plan_for (mode_of a.mode) (form_of a.form) (keeps_of a.keeps) a.n a.d a.s a.s a.t a.r a.members) a.fwd.now
    a.bwd.now a.pins.now a.couplings.now a.order.now a.masks.now a.temperatures.now a.cuts.now a.references.now
    a.seeds.now (taken_of (mode_of a.mode) a.flips.now a.perms.now) a.greys.now in
    let accepted : verdict_of c.test_owners.result ≡ 0 = not_refused c.test_owners.result c.in_default.not-Err in
    let a = c.args in
    owner_told team a.s (verdict_of c.test_owners.result) c.sweep.result accepted c.test_owners.ensures
    (sweep_read team W a.mode a.form a.coding a.keeps _ _ c.sweep.result c.own_count-systems.result c.read_order-len.result _ _
    (verdict_kept (owner_rules team c.args.s) (verdict_of c.test_owners.result) accepted c.test_owners.ensures) c.own_count-systems.ensures (length-replicate {A = ℕ} 64 0)
    c.read_order-len.ensures c.sweep.ensures)
