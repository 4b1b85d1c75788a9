-- `number_verdict` meets its contract: the draws are made past the tests before them.
use Rattle.std.proofs.Common.{ℕ, ◌≡◌, true, [], ◌∷◌, subst}
use Rattle.paper.specs.Refusal.Rule.{rule}
use Rattle.paper.specs.Refusal.Verdict.{Verdict, verdict_later}
use Rattle.paper.specs.Refusal.Numbers.{verdict_of}
use Rattle.draws.specs.Words.{Live}
use Rattle.draws.specs.Draw.{number, Within}
use Rattle.draws.specs.Fill.{NumbersGo}
use Rattle.draws.proofs.Choosing.{so}
use Rattle.draws.proofs.passes.number_verdict.Goals as goal

pub returns : goal.returns
returns c =
    let a = c.args in
    let r = verdict_of c.numbers_go.result in
    verdict_later (rule 12 (Live a.s) ∷ rule 12 (Within 1 a.most a.m) ∷ rule 2 (a.fits ≡ true) ∷ []) (rule 12 (NumbersGo (number a.m) a.count a.s) ∷ []) r
    (so _ c.is_blank.ensures c.if-is_blank.false, (so _ c.number_ok.ensures c.if-not-number_ok.false, (c.if-not-fits.false, tt)))
    (subst (λ (x : ℕ). Verdict (rule 12 (NumbersGo (number x) a.count a.s) ∷ []) r) c.from-n.ensures c.numbers_go.ensures)
