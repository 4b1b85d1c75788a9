-- `add_totals` meets its contract. The invariant: the totals of the first k members are paid.
use Rattle.std.proofs.Common.{◌≤◌, ℤ, pos, nat_abs, ◌+ℤ◌, w64, to_z, of_z, get_or, arith, sym, ap, subst}
use mir.Val.{SFits}
use Rattle.lemmas.specs.Held.{Value, given, reads, stored, held_add_to, small_fits}
use Rattle.lemmas.specs.Ints.{abs_add}
use Rattle.paper.specs.Panel.Input.{member}
use Rattle.paper.specs.Answer.Totals.{total}
use Rattle.totals.proofs.Paid.{unpaid, paid_more}
use Rattle.totals.proofs.add_totals.Goals as goal

pub loop-k-preserved : goal.loop-k-preserved
loop-k-preserved c =
    let k = c.loop-k.k in
    let l = c.loop-k-test.true in
    let system = member c.args.group k in
    let was = total c.args.totals.now system in
    let sum = get_or c.args.sums.now k (pos 0) in
    let room = c.requires.room k l in
    let small = c.requires.small k l in
    let same = unpaid c.requires l c.loop-k.invariant in
    let after_small : nat_abs (was +ℤ sum) ≤ 96384000000 = omega (arith, abs_add was sum) in
    let was_fits : SFits w64 was = small_fits w64 was 16384000000 small tt in
    let next : Value w64 (to_z w64 (of_z w64 (total c.loop-k.totals system)) +ℤ to_z w64 (of_z w64 sum)) (was +ℤ sum) =
    held_add_to (given (subst (SFits w64) (sym same) was_fits)) (given (small_fits w64 sum 80000000000 room tt))
    (ap (λ (z : ℤ). z +ℤ sum) same) (small_fits w64 (was +ℤ sum) 96384000000 after_small tt) in
    paid_more c.requires l c.loop-k.invariant (reads (stored next))
