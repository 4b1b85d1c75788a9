-- `lead_back` meets its contract: it writes the way back, where the neighbour is a site.
use Rattle.neighbours.specs.Backward.{led_more}
use Rattle.neighbours.proofs.lead_back.Goals as goal

pub returns-then-f-n : goal.returns-then-f-n
returns-then-f-n c = let p = c.requires in led_more p.filling.so_far p.site p.way c.wide-f.ensures c.if-f-n.true
