-- `tsorvenk_check_vendor` meets its contract: without a place for a fault test 1 decides, else the check answers.
use Rattle.std.specs.Prelude.{◌≡◌, Ok, Some, None}
use mathlib.Core.Path.{refl, ap}
use lib.Ieee.{binary32, of_bits}
use Rattle.paper.specs.Panel.Input.{Call}
use Rattle.paper.specs.Refusal.Numbers.{number_of}
use Rattle.vendor.specs.Checked.{checked_of}
use Rattle.tsorvenk.proofs.Checked.{one, called, same_called, no_place, refused, denied, accepted}
use Rattle.tsorvenk.proofs.checking.tsorvenk_check_vendor.Goals as goal

pub returns-then-fault-ne1 : goal.returns-then-fault-ne1
returns-then-fault-ne1 c = same_called c.mode_at-m.ensures one (no_place _ _ _ _ _ _ refl c.if-fault-ne1.true c.roomless.ensures)

pub returns-in-Err : goal.returns-in-Err
returns-in-Err c =
    let C : Call = let a = c.args in
    called c.mode_at-m.result (of_bits binary32 1065353216) a.n a.d a.members a.reference a.fwd.now a.bwd.now a.pins.now in
    let a = c.args in
    rw c.number.ensures
    (same_called c.mode_at-m.ensures one
    (refused C a.before.now a.after.now a.rows.now a.fault.now _ c.if-fault-ne1.false
    (number_of c.in-Err.refusal) (ap checked_of c.in-Err.is) c.check_vendor.ensures))

pub returns-in-Ok-Some : goal.returns-in-Ok-Some
returns-in-Ok-Some c =
    let C : Call = let a = c.args in
    called c.mode_at-m.result (of_bits binary32 1065353216) a.n a.d a.members a.reference a.fwd.now a.bwd.now a.pins.now in
    let found : c.check_vendor.result ≡ Ok (Some c.in-Ok-Some.r) = cc in
    let a = c.args in
    same_called c.mode_at-m.ensures one
    (denied C a.before.now a.after.now a.rows.now a.fault.now _ c.if-fault-ne1.false
    c.in-Ok-Some.r (ap checked_of found) c.check_vendor.ensures)

pub returns-in-Ok-None : goal.returns-in-Ok-None
returns-in-Ok-None c =
    let C : Call = let a = c.args in
    called c.mode_at-m.result (of_bits binary32 1065353216) a.n a.d a.members a.reference a.fwd.now a.bwd.now a.pins.now in
    let none : c.check_vendor.result ≡ Ok None = cc in
    let a = c.args in
    same_called c.mode_at-m.ensures one
    (accepted C a.before.now a.after.now a.rows.now a.fault.now _ c.if-fault-ne1.false
    (ap checked_of none) c.check_vendor.ensures)
