-- `write` meets its contract. The invariant: the first places have taken what is drawn for them.
use Rattle.std.proofs.Common.{◌≡◌, length, rules, arith}
use Rattle.draws.proofs.Filling.{drawn_none, drawn_more}
use Rattle.draws.proofs.passes.write.Goals as goal

pub loop-place-init : goal.loop-place-init
loop-place-init g c = (search rules, drawn_none)

pub loop-place-preserved : goal.loop-place-preserved
loop-place-preserved g c =
    let h = c.loop-place.invariant in
    (h.0, drawn_more c.draw-value.result h.1 c.loop-place-test.true c.draw-value.ensures)

pub returns : goal.returns
returns g c =
    let e : c.loop-place.place-index ≡ length c.args.places.now = omega arith in
    rw e at c.loop-place.invariant.1
