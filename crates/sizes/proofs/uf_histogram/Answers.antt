-- `uf_histogram` meets its contract.
use native.Mathlib.Omega.{arith}
use lib.ListN.{length}
use Rattle.sizes.specs.Steps.{Histogramming}
use Rattle.sizes.proofs.Tallies.{bins_none, bin_fits, bins_more}
use Rattle.sizes.proofs.uf_histogram.Goals as goal

pub loop-size-init : goal.loop-size-init
loop-size-init c = bins_none _ _ _ _ (rw (← c.start_counts.ensures.long) at c.start_counts.ensures)

pub overflow_add-counts : goal.overflow_add-counts
overflow_add-counts c =
    let asked : Histogramming c.args.sizes.now c.args.ones (length c.start_counts.new.counts) = rw (← c.start_counts.ensures.long) at c.requires in
    omega
    (arith, bin_fits c.loop-size.invariant asked c.loop-size-test.true _ c.wide.ensures)

pub loop-size-preserved : goal.loop-size-preserved
loop-size-preserved c =
    let asked : Histogramming c.args.sizes.now c.args.ones (length c.start_counts.new.counts) = rw (← c.start_counts.ensures.long) at c.requires in
    bins_more c.loop-size.invariant asked c.loop-size-test.true _ c.wide.ensures
