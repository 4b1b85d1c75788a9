-- `perms_fit` meets its contract: rows that are not taken are not tested.
use Rattle.lemmas.specs.Tells.{when_taken}
use Rattle.tests.specs.Choices.{PermRows}
use Rattle.tests.proofs.choices.perms_fit.Goals as goal

pub returns-then-taken : goal.returns-then-taken
returns-then-taken c = let a = c.args in
    when_taken c.permutations_ok.result (PermRows a.rows a.m a.perms.now) c.if-taken.true c.permutations_ok.ensures
