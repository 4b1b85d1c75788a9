-- `choose_cluster` meets its contract: with a pin behind the blue sites the grey number is 0.
use mathlib.Core.Path.{refl}
use Rattle.lemmas.specs.Tells.{told, denied}
use Rattle.turn.specs.Laws.{choosable}
use Rattle.grow.specs.Pinned.{GreyBy.free, GreyBy.held, none_turnable, chosen_with}
use Rattle.grow.proofs.held.choose_cluster.Goals as goal

pub turn_columns-requires : goal.turn_columns-requires
turn_columns-requires c = choosable (none_turnable c.requires.turnable) c.requires.n_in_bounds

pub turn_columns-requires-else-some_pinned : goal.turn_columns-requires-else-some_pinned
turn_columns-requires-else-some_pinned c = choosable c.requires.turnable c.requires.n_in_bounds

pub returns-then-some_pinned : goal.returns-then-some_pinned
returns-then-some_pinned c = let pin = told c.if-some_pinned.true c.some_pinned.ensures in
    chosen_with c.gauge_at-gauge.ensures (held pin refl) c.turn_columns.ensures

pub returns-else-some_pinned : goal.returns-else-some_pinned
returns-else-some_pinned c = let none = denied c.if-some_pinned.false c.some_pinned.ensures in
    chosen_with c.gauge_at-gauge.ensures (free none refl) c.turn_columns-else-some_pinned.ensures
