-- `numbers_go` meets its contract. The invariant: the first i draws are made, and none is refused.
use Rattle.std.specs.Prelude.{Err}
use Rattle.std.proofs.Common.{◌≡◌, [], ◌∷◌, ap, sym, inl, arith}
use Rattle.std.proofs.lemmas.Grind.{common_steps}
use Rattle.paper.specs.declared.Refusal.{Refusal}
use Rattle.paper.specs.Refusal.Rule.{rule}
use Rattle.paper.specs.Refusal.Numbers.{refuses}
use Rattle.draws.specs.Answer.{Drawn}
use Rattle.draws.specs.declared.Source.{Source}
use Rattle.draws.specs.Draw.{number}
use Rattle.draws.specs.Fill.{NumbersGo}
use Rattle.draws.proofs.Telling.{number_not, number_twelve}
use Rattle.draws.proofs.Filling.{stop_none, stop_more, goes_more, goes_not}
use Rattle.draws.proofs.passes.numbers_go.Goals as goal

pub loop-init : goal.loop-init
loop-init c = (stop_none, λ i l. absurd (omega arith))

pub returns-in_err-d : goal.returns-in_err-d
returns-in_err-d c = let h = c.loop in
    let m = c.args.m in
    let e : Refusal = c.in_err-d.field-0.0 in
    let back : c.from_residual.result ≡ Err e = grind (arith, common_steps) in
    rw back
    (refuses (rule 12 (NumbersGo (number m) c.args.count c.args.s) ∷ []) e
    (inl (
      goes_not (λ (t : Source). (number m t).refusal) h.invariant.0 (omega arith) (number_not m h.source e c.in_err-d.ensures),
      number_twelve m h.source e c.in_err-d.ensures,
    )))

pub loop-preserved : goal.loop-preserved
loop-preserved c =
    let h = c.loop in (
      stop_more c.in_ok-d.d.source h.invariant.0 (ap (λ (d : Drawn). d.source) c.in_ok-d.ensures),
      goes_more (λ (t : Source). (number c.args.m (t)).refusal) h.invariant.1 h.invariant.0
          (sym (ap (λ (d : Drawn). d.refusal) c.in_ok-d.ensures)),
    )
