-- `edges::fill::Neighbours::load` meets its contract.
use Rattle.edges.proofs.Loading.{no_head, load_as}
use Rattle.edges.proofs.fill.Neighbours.load.Goals as goal

pub returns-in_default : goal.returns-in_default
returns-in_default c =
    let a = c.args in
    no_head a.self.now.n a.self.now.d a.self.now.fwd.now a.text.now c.in_default.ensures

pub returns : goal.returns
returns c =
    let a = c.args in
    load_as a.self.now.n a.self.now.d a.self.now.fwd.now a.text.now _ c.in-Some.ensures c.fill.result c.fill.ensures
