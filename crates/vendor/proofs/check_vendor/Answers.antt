-- `check_vendor` meets its contract: the tests that come first, then the comparison.
use Rattle.std.specs.Prelude.{ℕ, ◌≡◌, [], Err}
use Rattle.std.proofs.Common.{sym, subst}
use Rattle.std.proofs.lemmas.Grind.{common_steps}
use native.Mathlib.Omega.{arith}
use Rattle.paper.specs.declared.Refusal.{Refusal}
use Rattle.paper.specs.Refusal.Verdict.{Verdict}
use Rattle.paper.specs.Refusal.Numbers.{number_of, refused}
use Rattle.vendor.specs.Offered.{head_of}
use Rattle.vendor.proofs.Compared.{refuses_head}
use Rattle.vendor.proofs.check_vendor.Goals as goal

-- a refusal has a number
not_zero : (e : Refusal) → number_of e ≡ 0 → ⊥
not_zero e h = refused [] e (subst (Verdict []) (sym h) tt)

pub returns-in_err-test_offer : goal.returns-in_err-test_offer
returns-in_err-test_offer c =
    let a = c.args in
    let e : Refusal = c.in_err-test_offer.field-0.0 in
    let back : c.from_residual.result ≡ Err e = grind (arith, common_steps) in
    rw back
    (refuses_head (number_of e) (not_zero e)
    (head_of a.t a.fwd.now a.bwd.now a.pins.now a.before.now a.after.now a.rows.now (number_of e) c.in_err-test_offer.ensures))
