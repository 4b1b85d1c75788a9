-- `frame::run_in` meets its contract: a text is refused by its spelling, or its move answers.
use Rattle.frame.proofs.run_in.Goals as goal

pub returns-in-Ok : goal.returns-in-Ok
returns-in-Ok c = c.run_panel.ensures _ _ c.in-Ok.ensures
