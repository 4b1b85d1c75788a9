-- `backward` meets its contract: where there is an inverse the filled table is one, so the test that fails says that there is none.
use borrow.Author.Rules.{rules}
use Rattle.lemmas.specs.Tells.{denied}
use Rattle.neighbours.specs.Backward.{led_inverse}
use Rattle.neighbours.proofs.backward.Goals as goal

pub returns : goal.returns
returns c = let filled = c.lead_all_back.ensures in
    record {
      none = λ w v. denied c.if-tables_ok.false c.tables_ok.ensures (led_inverse filled w v);
      long = search rules;
      zeros = search rules;
    }
