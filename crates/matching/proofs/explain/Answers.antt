-- `explain` meets its contract.
use Prim.Native.Nat.{◌*◌, ◌≤◌}
use native.Mathlib.Omega.{arith}
use native.Mathlib.Nat.{mul-le-mul}
use lib.ListN.{length}
use lib.Seq.{length-take-le}
use Rattle.matching.proofs.Found.{explains_all, explains_none}
use Rattle.matching.proofs.explain.Goals as goal

pub returns-then-r-n : goal.returns-then-r-n
returns-then-r-n c =
    let room : length c.args.rows.now ≤ 32768 = let most : length c.args.olds.now * c.args.size ≤ 4096 * 8 = mul-le-mul c.requires.sites c.requires.members.high in
    omega (arith, c.requires.rows_long, most) in
    explains_all c.settle-r.ensures (length-take-le _ _ room) c.if-r-n.true c.copy.ensures

pub returns-else-r-n : goal.returns-else-r-n
returns-else-r-n c = explains_none c.settle-r.ensures c.if-r-n.false
