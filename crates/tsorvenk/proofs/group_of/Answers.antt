-- `group_of` meets its contract.
use Rattle.lemmas.specs.Cells.{table}
use Rattle.tsorvenk.proofs.group_of.Goals as goal

pub returns : goal.returns
unfolding table
returns c = cc
