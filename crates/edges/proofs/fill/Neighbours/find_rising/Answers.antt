-- `edges::fill::Neighbours::find_rising` meets its contract.
use Rattle.lemmas.specs.Cells.{cell_lt}
use Rattle.edges.proofs.Find.{found_first}
use Rattle.edges.proofs.fill.Neighbours.find_rising.Goals as goal

pub returns-in-Some : goal.returns-in-Some
returns-in-Some c =
    let a = c.args in
    let s = c.in-Some.ensures in
    (cell_lt a.self.now.n a.self.now.d a.i c.in-Some.way c.requires.pair.first s.0, found_first c.requires _ s.1 s.0)
