-- `energy` meets its contract: each place past a test knows that test's rule, and each refusal that the next one is broken.
use mathlib.Core.Path.{refl, ap}
use mathlib.Core.Logic.{inl, inr}
use native.Mathlib.Omega.{arith}
use Rattle.lemmas.specs.Tells.{Tells, passed, refused, said, same}
use Rattle.paper.specs.Panel.Input.{Lattice}
use Rattle.paper.specs.Refusal.Rules.{Sizes, one_name, Named, Spins}
use Rattle.paper.specs.Answer.Meter.{MeterExact}
use Rattle.systems.specs.Rows.{spins_of, spins_each}
use Rattle.paper.specs.Panel.Made.{lattice_of}
use Rattle.meter.specs.Part.{exact_of}
use mathlib.Core.Bool.{not}
use Rattle.meter.proofs.energy.Goals as goal

pub returns-then-not-row_ok : goal.returns-then-not-row_ok
returns-then-not-row_ok c =
    let sized : Sizes c.args.n c.args.d c.args.s = passed c.sizes_ok.result (ap not c.if-not-sizes_ok.false) c.sizes_ok.ensures in
    let lent : Lattice = lattice_of c.args.n c.args.d c.args.s c.args.fwd.now c.args.bwd.now c.args.couplings.now in
    let exactly : MeterExact lent c.args.spins.now = exact_of lent c.args.spins.now (passed c.exact.result (ap not c.if-not-exact.false) c.exact.ensures) in
    let rows_tell : let a = c.args in Tells c.row_ok.result (Spins a.n (Named a.s (one_name a.system)) a.spins.now) = let a = c.args in
    let names = one_name a.system in
    (same (Spins a.n (Named a.s names) a.spins.now) (λ h. spins_of a.n a.s names a.spins.now (λ k l. h))
    (λ h. spins_each a.n a.s names a.spins.now h 0 (omega arith)) (said c.row_ok.result _ c.row_ok.ensures)).says in
    let wrong = refused c.row_ok.result (ap not c.if-not-row_ok.true) rows_tell in
    inr (sized, inr (exactly, inl (wrong, refl)))
