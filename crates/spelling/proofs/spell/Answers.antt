-- `spell` meets its contract.
use mathlib.Core.Path.{refl}
use borrow.Author.Tests.{lt-ltb, le-ltb}
use Rattle.spelling.specs.Rows.{spelt}
use Rattle.spelling.proofs.spell.Goals as goal

pub returns-then-number-lt120 : goal.returns-then-number-lt120
unfolding spelt
returns-then-number-lt120 c = rw (lt-ltb c.args.number 120 c.if-number-lt120.true) c.entry_in.ensures

pub returns-else-number-lt120 : goal.returns-else-number-lt120
unfolding spelt
returns-else-number-lt120 c = rw (le-ltb c.args.number 120 c.if-number-lt120.false) refl
