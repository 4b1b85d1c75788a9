-- `flips_if` meets its contract: refused by the verdict, or written.
use Rattle.std.proofs.Common.{rules}
use Rattle.draws.specs.Draw.{flipped}
use Rattle.draws.specs.Fill.{go_on}
use Rattle.draws.proofs.Filling.{written_by}
use Rattle.draws.proofs.fills.flips_if.Goals as goal

pub returns : goal.returns
returns c = record {
  valid = search rules;
  written = written_by (λ t. (flipped t).value) (go_on flipped) (λ t r k. search rules) c.write.ensures;
}
