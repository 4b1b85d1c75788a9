-- `moving_row` meets its contract. The invariant: with the permutations left to try, the present source gives what the lent one gives.
use Rattle.std.specs.Prelude.{Ok, Err}
use Rattle.std.proofs.Common.{◌≡◌, ℕ, ◌+◌, ◌-◌, [], ◌∷◌, sym, refl, ap, ◌∙◌, arith}
use Rattle.std.proofs.lemmas.Grind.{common_steps}
use Rattle.paper.specs.declared.Refusal.{Refusal}
use Rattle.draws.specs.Answer.{row_of}
use Rattle.draws.specs.Rows.{drawn_row, retried}
use Rattle.draws.proofs.Choosing.{so}
use Rattle.draws.proofs.Telling.{not_zero, permuted_twelve}
use Rattle.draws.proofs.Shuffling.{row_refused, row_moved, row_again}
use Rattle.draws.proofs.rows.moving_row.Goals as goal

pub returns-in_err-r : goal.returns-in_err-r
returns-in_err-r c =
    let a = c.args in
    let e : Refusal = c.in_err-r.field-0.0 in
    let back : c.from_residual.result ≡ Err e = grind (arith, common_steps) in
    rw back
    (ap (λ (x : ℕ). drawn_row x (0 ∷ 0 ∷ 0 ∷ 0 ∷ 0 ∷ 0 ∷ 0 ∷ 0 ∷ []) a.s) (sym (permuted_twelve a.members c.loop.source e c.in_err-r.ensures))
    ∙ (row_refused a.s a.members c.loop.source (row_of c.loop.source (Err e)) c.in_err-r.ensures (a.budget - c.loop.counter) (omega arith) (not_zero e)
    ∙ c.loop.invariant))

pub returns-then-not-identity : goal.returns-then-not-identity
returns-then-not-identity c =
    let a = c.args in
    row_moved a.s a.members c.loop.source (row_of c.loop.source (Ok c.in_ok-r.r)) c.in_ok-r.ensures (a.budget - c.loop.counter) (omega arith)
    refl (so _ c.identity.ensures c.if-not-identity.true)
    ∙ c.loop.invariant

pub loop-preserved : goal.loop-preserved
loop-preserved c =
    let a = c.args in
    row_again a.s a.members c.loop.source (row_of c.loop.source (Ok c.in_ok-r.r)) c.in_ok-r.ensures
    (a.budget - c.loop.counter) (a.budget - (c.loop.counter + 1)) (omega arith)
    refl (so _ c.identity.ensures c.if-not-identity.false)
    ∙ c.loop.invariant

pub returns : goal.returns
unfolding retried
returns c =
    let none : c.args.budget - c.loop.counter ≡ 0 = omega arith in
    rw none at c.loop.invariant
