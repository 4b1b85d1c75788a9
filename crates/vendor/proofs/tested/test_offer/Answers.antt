-- `test_offer` meets its contract: each test is reached past those before it.
use mathlib.Core.Path.{◌≡◌, refl, sym, ◌∙◌}
use mathlib.Core.Logic.{inl, inr}
use mathlib.Core.Bool.{true}
use Rattle.lemmas.specs.Tells.{Tells, passed, refused}
use Rattle.lattice.specs.Spinning.{all_rows}
use Rattle.paper.specs.Panel.Takes.{is_perm}
use Rattle.paper.specs.Refusal.Rules.{Ranged, AllSystems, Spins}
use Rattle.vendor.specs.Offered.{Fitting}
use mathlib.Core.Bool.{not}
use mathlib.Core.Path.{ap}
use Rattle.vendor.proofs.tested.test_offer.Goals as goal

pub returns-then-not-spins_ok : goal.returns-then-not-spins_ok
returns-then-not-spins_ok c =
    let k1 : let t = c.args.t in Ranged t.n t.d t.group.len t.mode t.group.len = passed c.ranged.result (ap not c.if-not-ranged.false) c.ranged.ensures in
    let kp : is_perm c.args.t.mode ≡ true = sym c.is_perm.ensures ∙ c.if-not-is_perm.false in
    let k2 : let a = c.args in Fitting a.t.n a.t.d a.t.group.len a.l = passed c.fitting.result (ap not c.if-not-fitting.false) c.fitting.ensures in
    let before-tells : let a = c.args in Tells c.spins_ok.result (Spins a.t.n (AllSystems a.t.group.len) a.before.now) = all_rows c.args.t.n c.args.t.group.len c.args.before.now (sym c.requires.before_is ∙ k2.before) c.spins_ok.result
    c.spins_ok.ensures in
    inr (k1, inr (kp, inr (k2, inl (refused c.spins_ok.result (ap not c.if-not-spins_ok.true) before-tells, refl))))

pub returns-then-not-spins_ok-2 : goal.returns-then-not-spins_ok-2
returns-then-not-spins_ok-2 c =
    let k1 : let t = c.args.t in Ranged t.n t.d t.group.len t.mode t.group.len = passed c.ranged.result (ap not c.if-not-ranged.false) c.ranged.ensures in
    let kp : is_perm c.args.t.mode ≡ true = sym c.is_perm.ensures ∙ c.if-not-is_perm.false in
    let k2 : let a = c.args in Fitting a.t.n a.t.d a.t.group.len a.l = passed c.fitting.result (ap not c.if-not-fitting.false) c.fitting.ensures in
    let before-tells : let a = c.args in Tells c.spins_ok.result (Spins a.t.n (AllSystems a.t.group.len) a.before.now) = all_rows c.args.t.n c.args.t.group.len c.args.before.now (sym c.requires.before_is ∙ k2.before) c.spins_ok.result
    c.spins_ok.ensures in
    let k3 : let a = c.args in Spins a.t.n (AllSystems a.t.group.len) a.before.now = passed c.spins_ok.result (ap not c.if-not-spins_ok.false) before-tells in
    let after-tells : let a = c.args in Tells c.spins_ok-2.result (Spins a.t.n (AllSystems a.t.group.len) a.after.now) = all_rows c.args.t.n c.args.t.group.len c.args.after.now (sym c.requires.after_is ∙ k2.after) c.spins_ok-2.result
    c.spins_ok-2.ensures in
    inr (k1, inr (kp, inr (k2, inr (k3, inl (refused c.spins_ok-2.result (ap not c.if-not-spins_ok-2.true) after-tells, refl)))))
