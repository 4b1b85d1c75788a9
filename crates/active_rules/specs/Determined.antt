-- A rule has one mode.
use Rattle.std.specs.Prelude.{◌≡◌}
use Rattle.lemmas.specs.Determined.{one_value}
use Rattle.paper.specs.declared.Mode.{Mode}
use Rattle.active_rules.specs.declared.ActiveRule.{ActiveRule}
use Rattle.active_rules.specs.Rule.{mode_of}

pub mode_of_determined : (rule : ActiveRule) (a b : Mode) → a ≡ mode_of rule → b ≡ mode_of rule → a ≡ b
mode_of_determined rule a b = one_value
