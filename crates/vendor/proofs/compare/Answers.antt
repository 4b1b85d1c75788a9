-- `compare` meets its contract.
use Prim.Native.Nat.{◌≤◌}
use Rattle.std.specs.Prelude.{◌≡◌, refl, [], Err}
use Rattle.std.proofs.Common.{sym, subst}
use Rattle.std.proofs.lemmas.Grind.{common_steps}
use native.Mathlib.Omega.{arith}
use Rattle.paper.specs.declared.Refusal.{Refusal}
use Rattle.paper.specs.Refusal.Verdict.{Verdict}
use Rattle.paper.specs.Refusal.Numbers.{number_of, refused}
use lib.Seq.{length-take-le}
use Rattle.vendor.specs.Observed.{packed_still, labelled_still, tables_kept}
use Rattle.vendor.proofs.Compared.{refuses_table, observable, panel, denies, accepts}
use Rattle.vendor.proofs.compare.Goals as goal

pub observe-requires : goal.observe-requires
observe-requires c =
    let room : c.args.t.n ≤ 4096 = c.requires.ranged.lattice.n_high in
    observable _ _ _ _ _ _ _ c.requires c.pack.ensures (length-take-le _ _ room)

-- a refusal has a number
not_zero : (e : Refusal) → number_of e ≡ 0 → ⊥
not_zero e h = refused [] e (subst (Verdict []) (sym h) tt)

pub returns-in_err-observe : goal.returns-in_err-observe
returns-in_err-observe c =
    let e : Refusal = c.in_err-observe.field-0.0 in
    let back : c.from_residual.result ≡ Err e = grind (arith, common_steps) in
    rw back (refuses_table (number_of e) (not_zero e) c.requires c.in_err-observe.ensures.verdict)

pub explain-r-requires : goal.explain-r-requires
explain-r-requires c =
    panel c.args.t _ _ _ _ _ _ c.requires (packed_still c.in_ok-observe.ensures c.pack.ensures) c.pack-2.ensures
    (tables_kept c.in_ok-observe.ensures refl) (labelled_still c.in_ok-observe.ensures refl)

pub returns-then-r-n : goal.returns-then-r-n
returns-then-r-n c =
    denies c.args.t _ _ _ _ _ _ c.requires (packed_still c.in_ok-observe.ensures c.pack.ensures) c.pack-2.ensures
    (tables_kept c.in_ok-observe.ensures refl) (labelled_still c.in_ok-observe.ensures refl)
    c.gauge-gauge.ensures
    c.explain-r.ensures c.if-r-n.true

pub returns : goal.returns
returns c =
    accepts c.args.t _ _ _ _ _ _ c.requires (packed_still c.in_ok-observe.ensures c.pack.ensures) c.pack-2.ensures
    (tables_kept c.in_ok-observe.ensures refl) (labelled_still c.in_ok-observe.ensures refl)
    c.gauge-gauge.ensures
    c.explain-r.ensures c.if-r-n.false
