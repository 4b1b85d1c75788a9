-- `observe` meets its contract: it is `packed_step` on empty totals, couplings, cuts, choices and grey outputs.
use Prim.Native.Nat.{◌+◌, ◌≤◌}
use mathlib.Core.Path.{◌≡◌, refl}
use Rattle.std.specs.Prelude.{Err}
use Rattle.std.proofs.lemmas.Grind.{common_steps}
use Rattle.paper.specs.declared.Refusal.{Refusal}
use Rattle.paper.specs.declared.Outcome.{Outcome}
use Rattle.paper.specs.declared.Outcome.TheVariants as Outcome
use Rattle.paper.specs.Answer.Cases.{answer_by, answer_of}
use Rattle.paper.specs.Answer.Number.{number}
use native.Mathlib.Omega.{arith}
use lib.Seq.{length-take-le}
use Rattle.vendor.specs.Asked.{observes}
use Rattle.vendor.proofs.observed.observe.Goals as goal

accepted_number : (o : Outcome) → number (answer_by o) ≡ 0
accepted_number Outcome.Idle = refl
accepted_number Outcome.Held = refl
accepted_number Outcome.Moved = refl

pub returns-in_err-packed_step : goal.returns-in_err-packed_step
returns-in_err-packed_step c =
    let room : c.args.t.n + 1 ≤ 4097 = omega (arith, c.requires.ranged.lattice.n_high) in
    let e : Refusal = c.in_err-packed_step.field-0.0 in
    let back : c.from_residual.result ≡ Err e = grind (arith, common_steps) in
    rw back
    (observes _ _ _ _ _ _ _ _ _ c.requires (length-take-le _ _ room) refl refl _ _ _ _ _ _ _ _ _ _ (answer_of (Err e)) c.in_err-packed_step.ensures)

pub returns : goal.returns
returns c =
    let room : c.args.t.n + 1 ≤ 4097 = omega (arith, c.requires.ranged.lattice.n_high) in
    let o : Outcome = c.in_ok-packed_step.field-0 in
    rw (accepted_number o) at
    (observes _ _ _ _ _ _ _ _ _ c.requires (length-take-le _ _ room) refl refl _ _ _ _ _ _ _ _ _ _ (answer_by o) c.in_ok-packed_step.ensures)
