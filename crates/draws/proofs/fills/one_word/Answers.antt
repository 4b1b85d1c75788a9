-- `one_word` meets its contract: refused by the verdict, or written.
use Rattle.std.specs.Prelude.{Ok}
use Rattle.std.proofs.Common.{eqb, length, eqb-true}
use Rattle.paper.specs.Refusal.Rule.{Kept}
use Rattle.draws.specs.Answer.{drawn_of}
use Rattle.draws.specs.Words.{stepped}
use Rattle.draws.specs.Fill.{word_rules}
use Rattle.draws.proofs.Answering.{one_written}
use Rattle.draws.proofs.fills.one_word.Goals as goal

pub returns : goal.returns
returns c =
    let s = c.args.source in
    let xs = c.args.word.now in
    let kept : Kept (word_rules (eqb (length xs) 1) s) = c.in_ok-word_verdict.ensures in
    record { valid = kept; written = one_written stepped s xs (drawn_of s (Ok c.step-d.result)) (eqb-true (length xs) 1 kept.1.0) c.step-d.ensures }
