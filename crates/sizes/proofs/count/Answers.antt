-- `count` meets its contract.
use Prim.Native.Nat.{ℕ, ◌≤◌}
use mathlib.Core.Path.{◌≡◌, sym}
use mathlib.Core.List.{List}
use native.Mathlib.Omega.{arith}
use lib.ListN.{length}
use Rattle.sizes.specs.Contract.{Countable}
use Rattle.sizes.specs.Steps.{Picked}
use Rattle.sizes.proofs.Reports.{found_le, found_as, marking, part_long, histogramming, counted_are, largest_are, largest_written}
use Rattle.sizes.proofs.count.Goals as goal

-- the list holds what is listed
fits : {labels tally marks bytes list : List ℕ} {found counts sizes ones len : ℕ} → Countable labels found tally marks counts sizes
    → Picked found tally bytes list ones len → length list ≡ 4096 → len ≤ length list
fits asked picked long = omega (arith, asked.n_high, found_le asked, picked.short)

pub component_marks-requires : goal.component_marks-requires
component_marks-requires c = marking c.requires

pub gather_sizes-ones-requires : goal.gather_sizes-ones-requires
gather_sizes-ones-requires c =
    let p = found_as c.requires _ c.wide.ensures in
    record {
      high = omega (arith, p.n_high, found_le p);
      tallied = omega (arith, p.sized.long, found_le p);
      decided = omega (arith, p.n_high, found_le p);
      fits = omega (arith, p.n_high, found_le p);
    }

pub slice_bounds-list-end : goal.slice_bounds-list-end
slice_bounds-list-end c = fits (found_as c.requires _ c.wide.ensures) c.gather_sizes-ones.ensures c.gather_sizes-ones.auto.list

pub slice_bounds-several-end : goal.slice_bounds-several-end
slice_bounds-several-end c =
    let asked = found_as c.requires _ c.wide.ensures in
    let picked = c.gather_sizes-ones.ensures in
    sym (part_long asked c.component_marks.ensures picked (fits asked picked c.gather_sizes-ones.auto.list))

pub uf_histogram-requires : goal.uf_histogram-requires
uf_histogram-requires c =
    let asked = found_as c.requires _ c.wide.ensures in
    let picked = c.gather_sizes-ones.ensures in
    rw asked.counts_long (histogramming asked c.component_marks.ensures picked (fits asked picked c.gather_sizes-ones.auto.list))

pub returns : goal.returns
returns c =
    let asked = found_as c.requires _ c.wide.ensures in
    let marked = c.component_marks.ensures in
    let picked = c.gather_sizes-ones.ensures in
    let long = fits asked picked c.gather_sizes-ones.auto.list in
    record {
      counted = counted_are asked marked picked long (rw asked.counts_long at c.uf_histogram.ensures);
      largest = largest_written c.args.labels.now c.args.sizes.now asked.sizes_long (largest_are asked marked picked long c.top4_sizes-t.ensures);
    }
