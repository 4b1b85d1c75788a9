-- `tables_ok` meets its contract: after i turns the flag tells of the sites below i, in one sense, and that gives both.
use Rattle.lemmas.specs.Tells.{same, said, flag_end}
use Rattle.paper.specs.Refusal.Rules.{Inverse}
use Rattle.neighbours.specs.Tables.{inverse_of}
use Rattle.neighbours.proofs.tables_ok.Goals as goal

pub returns : goal.returns
returns c = let a = c.args in
    let all = said c.loop-i.ok _ (flag_end c.loop-i.invariant c.loop-i-test.false) in
    (same (Inverse a.n a.d a.fwd.now a.bwd.now)
    (λ h. inverse_of a.n a.d a.fwd.now a.bwd.now (λ i e l he. h i l e he))
    (λ v i l e he. v.there i e l he) all).says
