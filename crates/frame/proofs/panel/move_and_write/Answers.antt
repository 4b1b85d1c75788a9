-- `frame::panel::move_and_write` meets its contract: all spins are tested first; what an accepted move leaves, two bytes hold.
use mathlib.Core.Logic.{inr}
use mathlib.Core.List.{[]}
use Rattle.lemmas.specs.Tells.{passed}
use Rattle.paper.specs.Panel.Made.{buffers_of}
use Rattle.paper.specs.Answer.Cases.{answer_of}
use Rattle.frame.specs.Run.{writable}
use mathlib.Core.Bool.{not}
use mathlib.Core.Path.{ap}
use Rattle.frame.proofs.panel.move_and_write.Goals as goal

pub write_answer-requires : goal.write_answer-requires
write_answer-requires c = writable (answer_of c.perm_move-r.result) c.requires.n_high c.perm_move-r.ensures

pub returns : goal.returns
returns c = inr (record {
  all = passed c.spins_ok.result (ap not c.if-not-spins_ok.false) c.spins_ok.ensures;
  answer = answer_of c.perm_move-r.result;
  bwd = _;
  after = buffers_of _ _ [] _ _ [] [] [];
  moved = c.perm_move-r.ensures;
  written = c.write_answer.ensures;
})
