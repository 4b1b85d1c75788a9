-- `frame::panel::run_panel` meets its contract: the used parts of the buffers are the text's, as long as its sizes ask.
use Rattle.frame.specs.Run.{panel_answers}
use Rattle.frame.proofs.panel.run_panel.Goals as goal

pub returns : goal.returns
returns c = λ text b h.
    panel_answers h c.requires.blank c.requires.n_high c.move_and_write.ensures
