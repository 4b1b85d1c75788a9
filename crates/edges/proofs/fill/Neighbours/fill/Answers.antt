-- `edges::fill::Neighbours::fill` meets its contract.
use mathlib.Core.Path.{refl}
use Rattle.edges.proofs.Going.{going_none, going_bad, going_full, going_more, going_end}
use Rattle.edges.proofs.fill.Neighbours.fill.Goals as goal

pub loop-init : goal.loop-init
loop-init c = going_none _ c.requires

pub returns-in_default : goal.returns-in_default
returns-in_default c = going_bad _ c.requires c.loop.invariant c.loop-test.true c.in_default.ensures

pub returns-in_default-find : goal.returns-in_default-find
returns-in_default-find c = going_full _ c.requires c.loop.invariant c.loop-test.true c.in-Some.ensures c.in_default-find.ensures refl

pub loop-preserved : goal.loop-preserved
loop-preserved c =
    let found = c.in-Some-find.ensures in
    going_more _ c.requires c.loop.invariant c.loop-test.true c.in-Some.ensures found.1 found.0

pub returns : goal.returns
returns c = going_end _ c.requires c.loop.invariant c.loop-test.false _ refl
