-- `choose::hold_back` meets its contract: with no pin the tally stays as it is.
use mathlib.Core.Bool.{not}
use mathlib.Core.Path.{ap}
use Rattle.lemmas.specs.Tells.{passed}
use Rattle.choose.proofs.Back.{none_back}
use Rattle.choose.proofs.hold_back.Goals as goal

pub returns-else-not-none_pinned : goal.returns-else-not-none_pinned
returns-else-not-none_pinned c = none_back _ _ _ c.requires (passed c.none_pinned.result (ap not c.if-not-none_pinned.false) c.none_pinned.ensures)
