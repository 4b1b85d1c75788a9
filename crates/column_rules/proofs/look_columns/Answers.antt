-- `look_columns` meets its contract: the table of acting columns, read through the gauge.
use mathlib.Core.Path.{◌∙◌}
use Rattle.columns.specs.Gauge.{gauge_is}
use Rattle.column_rules.specs.Laws.{looked_flags, looked_tells}
use Rattle.column_rules.proofs.look_columns.Goals as goal

pub returns : goal.returns
returns c = let a = c.args in
    record {
      flagged = λ f w.
          looked_flags a.mode a.group.len _ (f a.reference) f c.requires.size_low (λ e k l. w.spins a.reference k (c.requires.reference e) l)
          (λ i h k l. w.spins i k h l) c.acts_table.ensures w.columns
          (c.gauge-gauge.ensures ∙ gauge_is a.mode a.group.len _ a.reference f w.columns c.requires.reference) c.mark_active.ensures;
      some = λ f w.
          looked_tells a.mode a.group.len _ (f a.reference) f c.requires.size_low (λ e k l. w.spins a.reference k (c.requires.reference e) l)
          (λ i h k l. w.spins i k h l) c.acts_table.ensures w.columns
          (c.gauge-gauge.ensures ∙ gauge_is a.mode a.group.len _ a.reference f w.columns c.requires.reference) c.mark_active.ensures;
    }
