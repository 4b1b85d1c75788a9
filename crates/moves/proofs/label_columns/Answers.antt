-- `label_columns` meets its contract: what look_columns, hold, label and count leave, taken together.
use native.Mathlib.Omega.{arith}
use Rattle.laws.specs.Numbering.{ranked, found_firsts}
use Rattle.column_rules.specs.Sight.{Sights, rows_look, look_sights}
use Rattle.moves.specs.Tested.{sighted}
use Rattle.moves.specs.Held.{label_leaves}
use Rattle.moves.proofs.label_columns.Goals as goal

pub look_columns-some-requires : goal.look_columns-some-requires
look_columns-some-requires c = rows_look (sighted c.requires.tested c.requires.reference) c.requires.columns c.requires.lent.flags_long

pub count-requires : goal.count-requires
count-requires c =
    let saw : let a = c.args in Sights a.t.mode a.t.n a.t.group a.t.reference c.requires.rows a.cols.now c.look_columns-some.new.acts c.look_columns-some.result = look_sights (sighted c.requires.tested c.requires.reference) c.requires.columns c.look_columns-some.ensures in
    let long = c.label-many.ensures.labels.long in
    record {
      n_high = omega (arith, long, c.requires.tested.n_high);
      sized = c.label-many.ensures.sized;
      ranked = ranked c.label-many.ensures.labels;
      firsts = rw long (found_firsts c.label-many.ensures.labels);
      marked = omega (arith, long, saw.flagged.long);
      counts_long = omega (arith, long, c.requires.lent.counts_long);
      sizes_long = c.requires.lent.sizes_long;
    }

pub returns : goal.returns
returns c = λ bwd pins xs tested w.
    label_leaves bwd pins c.args.found.now c.hold.ensures tested
    (look_sights (sighted tested c.requires.reference) w c.look_columns-some.ensures) c.label-many.ensures c.count.ensures
    c.requires.lent.found_long
