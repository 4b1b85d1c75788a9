-- `test_label` meets its contract: each test is reached past those before it.
use mathlib.Core.Path.{◌≡◌}
use mathlib.Core.Bool.{◌&&◌}
use Rattle.lemmas.specs.Tells.{Tells, passed}
use Rattle.paper.specs.Panel.Input.{Choices}
use Rattle.paper.specs.Panel.Made.{choices_of}
use Rattle.paper.specs.Panel.Takes.{grows_by, greys_by}
use Rattle.paper.specs.Refusal.Rules.{When}
use Rattle.paper.specs.Refusal.Numbers.{verdict_of}
use Rattle.task_label.specs.Tested.{call_tested}
use mathlib.Core.Bool.{not}
use mathlib.Core.Path.{ap}
use Rattle.task_label.proofs.tested.test_label.Goals as goal

pub returns : goal.returns
returns c =
    let choicesAt : Choices = choices_of c.args.choices.now c.args.greys.now in
    let blue-told : let a = c.args in Tells c.fits.result (When (grows_by a.t.form && greys_by a.t.mode a.t.form) (a.blue ≡ a.t.n)) = rw (c.grows.ensures, c.takes_greys.ensures) at c.fits.ensures in
    let a = c.args in
    call_tested a.t a.fwd.now a.bwd.now a.pins.now a.couplings.now a.cuts.now choicesAt a.rows.now a.l a.blue
    c.requires.keeps (verdict_of c.test_call.result) (passed c.fits.result (ap not c.if-not-fits.false) blue-told) c.test_call.ensures
