-- `free_greys` meets its contract: outside CMR nothing is written.
use mathlib.Core.Path.{sym, ◌∙◌}
use Rattle.laws.specs.Unique.{label_lt}
use Rattle.moves.proofs.free_greys.Goals as goal

pub hold_back-requires : goal.hold_back-requires
hold_back-requires c = let long = c.label.ensures.labels.long ∙ sym c.requires.pins_long in
    record {
      labelled = long;
      tallied = c.label.ensures.sized.long ∙ long;
      below = λ i h. rw c.requires.pins_long (label_lt _ _ _ c.label.ensures.labels i (rw c.requires.pins_long at h));
    }
