-- `tsorvenk_write_edges` meets its contract: without room for the length the sizes decide, else the writer answers.
use mathlib.Core.Path.{ap}
use Rattle.lemmas.specs.Tells.{told, denied}
use Rattle.paper.specs.Refusal.Numbers.{number_of}
use Rattle.edges.specs.Cases.{listing_of}
use Rattle.edges.specs.Answer.{Net, net_of}
use Rattle.tsorvenk.proofs.Listed.{list_no_sizes, list_no_place, not_listed, list_wrote}
use Rattle.tsorvenk.proofs.listing.tsorvenk_write_edges.Goals as goal

pub returns-then-sizes_ok : goal.returns-then-sizes_ok
returns-then-sizes_ok c =
    let net : Net = net_of c.args.n c.args.d c.args.fwd.now c.args.bwd.now in
    list_no_place net c.args.couplings.now c.args.text.now c.args.written.now
    (told c.if-sizes_ok.true c.sizes_ok.ensures) c.if-written-ne1.true

pub returns-then-written-ne1 : goal.returns-then-written-ne1
returns-then-written-ne1 c =
    let net : Net = net_of c.args.n c.args.d c.args.fwd.now c.args.bwd.now in
    list_no_sizes net c.args.couplings.now c.args.text.now c.args.written.now (denied c.if-sizes_ok.false c.sizes_ok.ensures)

pub returns-in-Ok : goal.returns-in-Ok
returns-in-Ok c =
    let net : Net = net_of c.args.n c.args.d c.args.fwd.now c.args.bwd.now in
    list_wrote net c.args.couplings.now c.args.text.now c.args.written.now c.in-Ok.length _ c.if-written-ne1.false
    (ap listing_of c.in-Ok.is) c.write_edges.ensures

pub returns-in-Err : goal.returns-in-Err
returns-in-Err c =
    let net : Net = net_of c.args.n c.args.d c.args.fwd.now c.args.bwd.now in
    rw c.number.ensures
    (not_listed net c.args.couplings.now c.args.text.now c.args.written.now (number_of c.in-Err.refusal) _ c.if-written-ne1.false
    (ap listing_of c.in-Err.is) c.write_edges.ensures)
