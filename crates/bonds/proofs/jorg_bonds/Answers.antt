-- `bonds::jorg_bonds` meets its contract.
use borrow.Author.Tests.{ne_eqb}
use Rattle.bonds.specs.Table.{jorg_at}
use Rattle.bonds.proofs.Rows.{marking_more, marking_skip}
use Rattle.bonds.proofs.jorg_bonds.Goals as goal
use Rattle.bonds.proofs.jorg_bonds.Goals.{then-acts-i-eq1, else-acts-i-eq1}

pub loop-i-preserved : goal.loop-i-preserved
loop-i-preserved c =
    let l = c.loop-i in
    let a = c.args in
    let f = jorg_at a.d a.fwd.now a.couplings.now a.cuts.now a.group.len a.sampler a.acts.now a.cols.now in
    elim c.if-acts-i-eq1.branch [
      | then-acts-i-eq1 w ↦ rw w.holds-is (marking_more _ _ f l.i _ l.invariant _ w.jorg_site.ensures)
      | else-acts-i-eq1 w ↦ rw w.holds-is (marking_skip _ _ f l.i _ l.invariant (λ e. rw (ne_eqb _ 1 w.if-acts-i-eq1.false)))
    ]
