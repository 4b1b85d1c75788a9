-- `test_choices` meets its contract: the seed is tested past the choices.
use Rattle.std.specs.Prelude.{◌≡◌, Err}
use Rattle.std.proofs.lemmas.Grind.{common_steps}
use mathlib.Core.Path.{refl}
use mathlib.Core.List.{[]}
use mathlib.Core.Logic.{inl}
use lib.Ieee.{nan}
use native.Mathlib.Omega.{arith}
use Rattle.lemmas.specs.Tells.{passed, refused}
use Rattle.paper.specs.Panel.Made.{choices_of}
use Rattle.paper.specs.Refusal.Rule.{Kept}
use Rattle.paper.specs.Refusal.Verdict.{verdict_later}
use Rattle.paper.specs.Refusal.Numbers.{refused_first}
use Rattle.tests.specs.Choices.{EveryCall, chosen_rules, seed_rules}
use mathlib.Core.Bool.{not}
use mathlib.Core.Path.{ap}
use Rattle.tests.proofs.choices.test_choices.Goals as goal

pub returns-in_err-test_chosen : goal.returns-in_err-test_chosen
returns-in_err-test_chosen c =
    let back : c.from_residual.result ≡ Err c.in_err-test_chosen.field-0.0 = grind (arith, common_steps) in
    λ d s temperature fwd bwd pins couplings.
    let a = c.args in
    rw back
    (refused_first (chosen_rules _ (choices_of a.choices.now a.greys.now)) (seed_rules _ a.spins.now) c.in_err-test_chosen.field-0.0
    (c.in_err-test_chosen.ensures d s temperature fwd bwd pins couplings))

pub seed_ok-requires : goal.seed_ok-requires
seed_ok-requires c =
    let k9 : let a = c.args in EveryCall a.t a.cuts.now (λ c. Kept (chosen_rules c (choices_of a.choices.now a.greys.now))) = λ d s temperature fwd bwd pins couplings. c.in_ok-test_chosen.ensures d s temperature fwd bwd pins couplings in
    record {
      n_high = c.requires.n_high;
      size_low = omega (arith, c.requires.size_low);
      size_high = c.requires.size_high;
      inside = c.requires.inside;
      spins = c.requires.spins;
      reference = (k9 0 0 nan [] [] [] []).1.0.reference;
    }

pub returns-then-not-seed_ok : goal.returns-then-not-seed_ok
returns-then-not-seed_ok c =
    let k9 : let a = c.args in EveryCall a.t a.cuts.now (λ c. Kept (chosen_rules c (choices_of a.choices.now a.greys.now))) = λ d s temperature fwd bwd pins couplings. c.in_ok-test_chosen.ensures d s temperature fwd bwd pins couplings in
    λ d s temperature fwd bwd pins couplings.
    let a = c.args in
    let t = c.seed_ok.ensures a.cuts.now d s temperature fwd bwd pins couplings in
    verdict_later (chosen_rules _ (choices_of _ _)) (seed_rules _ a.spins.now) 10 (k9 d s temperature fwd bwd pins couplings)
    (inl (refused c.seed_ok.result (ap not c.if-not-seed_ok.true) t, refl))

pub returns : goal.returns
returns c =
    let k9 : let a = c.args in EveryCall a.t a.cuts.now (λ c. Kept (chosen_rules c (choices_of a.choices.now a.greys.now))) = λ d s temperature fwd bwd pins couplings. c.in_ok-test_chosen.ensures d s temperature fwd bwd pins couplings in
    λ d s temperature fwd bwd pins couplings.
    let a = c.args in
    let t = c.seed_ok.ensures a.cuts.now d s temperature fwd bwd pins couplings in
    verdict_later (chosen_rules _ (choices_of _ _)) (seed_rules _ a.spins.now) 0 (k9 d s temperature fwd bwd pins couplings)
    (passed c.seed_ok.result (ap not c.if-not-seed_ok.false) t, tt)
