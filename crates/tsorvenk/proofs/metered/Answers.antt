-- `metered` meets its contract: without room for the energy the sizes decide, else the meter answers.
use borrow.Author.Rules.{rules}
use mir.Val.{SFits}
use mir.Syntax.{w64}
use mir.ValLaws.{to_z-of_z}
use Rattle.lemmas.specs.Tells.{told, denied}
use Rattle.paper.specs.Panel.Input.{Lattice}
use Rattle.paper.specs.Panel.Made.{lattice_of}
use Rattle.paper.specs.Refusal.Numbers.{number_of}
use Rattle.tsorvenk.proofs.Told.{no_sizes, no_room, unmetered, metered}
use Rattle.tsorvenk.proofs.metered.Goals as goal

pub returns-then-sizes_ok : goal.returns-then-sizes_ok
returns-then-sizes_ok c = no_room _ _ _ _ (told c.if-sizes_ok.true c.sizes_ok.ensures) c.if-energy-ne1.true

pub returns-then-energy-ne1 : goal.returns-then-energy-ne1
returns-then-energy-ne1 c = no_sizes _ _ _ _ (denied c.if-sizes_ok.false c.sizes_ok.ensures)

pub returns-in-Ok : goal.returns-in-Ok
returns-in-Ok c =
    let panel : Lattice = lattice_of c.args.n c.args.d c.args.s c.args.fwd.now c.args.bwd.now c.args.couplings.now in
    let fits : SFits w64 c.in-Ok.e = search rules in
    rw (to_z-of_z w64 c.in-Ok.e fits)
    (metered panel c.args.spins.now c.args.system c.args.energy.now c.in-Ok.e c.if-energy-ne1.false c.in-Ok.ensures)

pub returns-in-Err : goal.returns-in-Err
returns-in-Err c =
    let panel : Lattice = lattice_of c.args.n c.args.d c.args.s c.args.fwd.now c.args.bwd.now c.args.couplings.now in
    rw c.number.ensures
    (unmetered panel c.args.spins.now c.args.system c.args.energy.now (number_of c.in-Err.refusal) c.if-energy-ne1.false c.in-Err.ensures)
