-- `label` meets its contract.
use Rattle.forest.proofs.Whole.{labelled}
use Rattle.forest.proofs.label.Goals as goal

pub returns : goal.returns
returns c = record {
  labels = labelled (rw c.requires.labels_long at c.start.ensures) c.uf_bonds.ensures
      c.uf_flatten_counts.ensures;
  sized = c.uf_flatten_counts.ensures.sized;
}
