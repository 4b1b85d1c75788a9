-- `identity` meets its contract. The invariant: the first k places are tested.
use Rattle.std.proofs.Common.{Bool, ◌&&◌, eqb, get_or, refl, ap, add-one}
use Rattle.draws.specs.Rows.{is_identity}
use Rattle.draws.proofs.rows.identity.Goals as goal

pub loop-k-init : goal.loop-k-init
unfolding is_identity
loop-k-init c = refl

pub loop-k-preserved : goal.loop-k-preserved
unfolding is_identity
loop-k-preserved c = rw add-one (ap (λ (b : Bool). b && eqb (get_or c.args.row c.loop-k.k 0) c.loop-k.k) c.loop-k.invariant)
