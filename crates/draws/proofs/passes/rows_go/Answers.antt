-- `rows_go` meets its contract. The invariant: the first i draws are made, and none is refused.
use Rattle.std.specs.Prelude.{Err}
use Rattle.std.proofs.Common.{◌≡◌, [], ◌∷◌, ap, sym, inl, arith}
use Rattle.std.proofs.lemmas.Grind.{common_steps}
use Rattle.paper.specs.declared.Refusal.{Refusal}
use Rattle.paper.specs.Refusal.Rule.{rule}
use Rattle.paper.specs.Refusal.Numbers.{refuses}
use Rattle.draws.specs.Answer.{Row}
use Rattle.draws.specs.declared.Source.{Source}
use Rattle.draws.specs.Rows.{row_by}
use Rattle.draws.specs.Fill.{RowsGo}
use Rattle.draws.proofs.Telling.{row_not, row_twelve}
use Rattle.draws.proofs.Filling.{stop_none, stop_more, goes_more, goes_not}
use Rattle.draws.proofs.passes.rows_go.Goals as goal

pub loop-init : goal.loop-init
loop-init c = (stop_none, λ i l. absurd (omega arith))

pub returns-in_err-r : goal.returns-in_err-r
returns-in_err-r c = let h = c.loop in
    let a = c.args in
    let e : Refusal = c.in_err-r.field-0.0 in
    let back : c.from_residual.result ≡ Err e = grind (arith, common_steps) in
    rw back
    (refuses (rule 12 (RowsGo a.moving a.members a.count a.s) ∷ []) e
    (inl (
      goes_not (λ (t : Source). (row_by a.moving a.members t).refusal) h.invariant.0 (omega arith)
          (row_not a.members h.source e a.moving c.in_err-r.ensures),
      row_twelve a.members h.source e a.moving c.in_err-r.ensures,
    )))

pub loop-preserved : goal.loop-preserved
loop-preserved c =
    let h = c.loop in (
      stop_more c.in_ok-r.r.source h.invariant.0 (ap (λ (d : Row). d.source) c.in_ok-r.ensures),
      goes_more (λ (t : Source). (row_by c.args.moving c.args.members (t)).refusal)
          h.invariant.1 h.invariant.0 (sym (ap (λ (d : Row). d.refusal) c.in_ok-r.ensures)),
    )
