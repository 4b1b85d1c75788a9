-- `label_and_count` meets its contract.
use mathlib.Core.Path.{◌≡◌, ◌∙◌}
use native.Mathlib.Omega.{arith}
use lib.ListN.{length}
use lib.Seq.{take_at}
use Rattle.laws.specs.Numbering.{ranked, found_firsts}
use Rattle.label.proofs.label_and_count.Goals as goal

pub count-requires : goal.count-requires
count-requires c =
    let tally_long : length c.label-found.new.tally ≡ c.args.n = c.label-found.ensures.sized.long ∙ c.label-found.ensures.labels.long in
    rw (take_at c.label-found.new.tally _ _ tally_long) (record {
      n_high = omega (arith, c.label-found.ensures.labels.long, c.requires.given.n_high);
      ranked = ranked c.label-found.ensures.labels;
      firsts = rw c.label-found.ensures.labels.long (found_firsts c.label-found.ensures.labels);
      sized = c.label-found.ensures.sized;
      marked = omega (arith, c.requires.marks_long, c.label-found.ensures.labels.long);
      counts_long = omega (arith, c.label-found.ensures.labels.long, c.requires.counts_long);
      sizes_long = c.requires.sizes_long;
    })
