-- `edge_text::writing::put_number` ends: a tenth of a number that is not 0 is less than it.
use Rattle.edge_text.proofs.writing.+put_number.Given as goal

abbrev pub decreases-put_number : goal.decreases-put_number
decreases-put_number l = l.v
