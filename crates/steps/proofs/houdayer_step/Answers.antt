-- `houdayer_step` meets its contract: it is `overlap_step` on empty totals, couplings, cuts, grey numbers and all that is told of grey components, and
-- keeps nothing.
use mathlib.Core.Path.{◌≡◌, refl}
use lib.Ieee.{binary32, of_bits, of_int}
use Rattle.paper.specs.Site.Bonds.{whole}
use Rattle.paper.specs.Answer.Cases.{answer_of}
use Rattle.laws.specs.KeepsPlain.{keeps_none}
use Rattle.steps.specs.Empty.{empty}
use Rattle.steps.proofs.houdayer_step.Goals as goal

-- the literal 1.0, by its bits
one : of_bits binary32 1065353216 ≡ whole 1
unfolding of_bits of_int
one = refl

pub returns : goal.returns
returns c =
    let o = c.overlap_step in
    let e = (keeps_none _ _ _ _ (answer_of o.result) _ _ o.ensures).answers in
    let f = rw (empty o.new.grey_labels o.auto.grey_labels) at e in
    let g = rw (empty o.new.grey_found o.auto.grey_found) at f in
    rw one at (rw c.mode_of-mode.ensures at g)
