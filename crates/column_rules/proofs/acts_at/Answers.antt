-- `acts_at` meets its contract: the site's column, seen through the gauge, acts just if the site does.
use mathlib.Core.Path.{◌∙◌}
use Rattle.column_rules.specs.Sight.{column_acts_lem}
use Rattle.column_rules.proofs.acts_at.Goals as goal

pub returns : goal.returns
returns c = c.acts_column.ensures ∙ column_acts_lem c.requires.panel c.requires.below c.column_at-column.ensures c.gauge_at-gauge.ensures
