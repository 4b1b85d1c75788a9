-- `test_packed` meets its contract: each test is reached past those before it.
use Prim.Native.Nat.{ℕ, ◌-◌, ◌^◌, ◌≤◌}
use mathlib.Core.Path.{◌≡◌, refl, sym, ◌∙◌, ap, subst}
use mathlib.Core.Logic.{inl}
use mathlib.Core.List.{List, ◌++◌}
use native.Mathlib.Omega.{arith}
use lib.ListN.{length}
use lib.IntN.{ℤ}
use Rattle.lemmas.specs.Tells.{Tells, passed, refused}
use Rattle.paper.specs.Panel.Input.{Call, Choices}
use Rattle.paper.specs.Panel.Made.{call_of, choices_of}
use Rattle.paper.specs.Panel.Takes.{keeps_by}
use Rattle.paper.specs.Refusal.Rule.{Rule, Kept}
use Rattle.paper.specs.Refusal.Rules.{When, group_names, Named, Spins, Seeded}
use Rattle.paper.specs.declared.Refusal.{Refusal}
use Rattle.paper.specs.Refusal.Verdict.{Verdict, verdict_later}
use Rattle.paper.specs.Refusal.Numbers.{number_of, refused_first}
use Rattle.paper.specs.Answer.Totals.{SmallTotals}
use Rattle.tests.specs.Choices.{chosen_rules}
use Rattle.std.specs.Prelude.{Err}
use Rattle.std.proofs.lemmas.Grind.{common_steps}
use Rattle.systems.specs.Rows.{small_named}
use Rattle.packing.specs.Bytes.{rows_of, Narrow}
use Rattle.packing.proofs.Laws.{spins_narrow}
use Rattle.packed.specs.Tested.{head_rules, spin_rules, panel_tables, seed_rules, total_rules, head_of, own_spins, spins_own, spins_tell}
use Rattle.packed.specs.Tested.{bytes_long, rows_sighted, rows_columned}
use mathlib.Core.Bool.{not}
use Rattle.packed.proofs.tested.test_packed.Goals as goal

pub returns-in_err-test_shape : goal.returns-in_err-test_shape
returns-in_err-test_shape c =
    let e : Refusal = c.in_err-test_shape.field-0.0 in
    let back : c.from_residual.result ≡ Err e = grind (arith, common_steps) in
    let call_at : Call = let a = c.args in call_of a.t a.fwd.now a.bwd.now a.pins.now a.couplings.now a.cuts.now in
    let rows_at : List ℤ = rows_of c.args.t.s c.args.columns.now in
    let r1 : List Rule = head_rules c.args.t rows_at c.args.totals.now call_at c.args.l in
    let r3 : List Rule = spin_rules c.args.t rows_at in
    let r4 : List Rule = panel_tables c.args.t call_at in
    let choicesAt : Choices = choices_of c.args.choices.now c.args.greys.now in
    let r8 : List Rule = chosen_rules call_at choicesAt in
    let r10 : List Rule = seed_rules call_at rows_at in
    let r14 : List Rule = total_rules c.args.t c.args.totals.now in
    let head : Verdict r1 (number_of e) = let a = c.args in
    head_of a.t a.columns.now a.totals.now call_at a.l c.requires.systems c.requires.spins_is c.requires.couplings_is refl refl refl
    (number_of e) c.in_err-test_shape.ensures in
    rw back (refused_first r1 (r3 ++ (r4 ++ (r8 ++ (r10 ++ r14)))) e head)

pub returns-then-not-bytes_at_most : goal.returns-then-not-bytes_at_most
returns-then-not-bytes_at_most c =
    let rows_at : List ℤ = rows_of c.args.t.s c.args.columns.now in
    let r3 : List Rule = spin_rules c.args.t rows_at in
    let call_at : Call = let a = c.args in call_of a.t a.fwd.now a.bwd.now a.pins.now a.couplings.now a.cuts.now in
    let r4 : List Rule = panel_tables c.args.t call_at in
    let choicesAt : Choices = choices_of c.args.choices.now c.args.greys.now in
    let r8 : List Rule = chosen_rules call_at choicesAt in
    let r10 : List Rule = seed_rules call_at rows_at in
    let r14 : List Rule = total_rules c.args.t c.args.totals.now in
    let r1 : List Rule = head_rules c.args.t rows_at c.args.totals.now call_at c.args.l in
    let head : Verdict r1 0 = let a = c.args in
    head_of a.t a.columns.now a.totals.now call_at a.l c.requires.systems c.requires.spins_is c.requires.couplings_is refl refl refl
    0 c.in_ok-test_shape.ensures in
    let k1 : Kept r1 = head in
    let some : 1 ≤ c.args.t.s = rw c.requires.systems (omega (arith, k1.0.size_low)) in
    let long : length c.args.columns.now ≡ c.args.t.n = bytes_long c.args.t.s c.args.t.n c.args.columns.now some k1.1.1.0.spins in
    let tell3 : Tells c.bytes_at_most.result (Spins c.args.t.n (Named c.args.t.s (group_names c.args.t.group)) rows_at) = own_spins c.args.t c.requires.systems c.requires.group k1.0.size_high rows_at c.bytes_at_most.result
    (spins_tell c.args.t.s c.args.t.n c.highest.result c.args.columns.now long some
    (c.highest.ensures ∙ ap (λ (x : ℕ). 2 ^ x - 1) (sym c.requires.systems)) c.bytes_at_most.result c.bytes_at_most.ensures) in
    let past1 : (rs : List Rule) (r : ℕ) → Verdict rs r → Verdict (r1 ++ rs) r = λ rs r v. verdict_later r1 rs r k1 v in
    past1 (r3 ++ (r4 ++ (r8 ++ (r10 ++ r14)))) 3 (inl (refused c.bytes_at_most.result (ap not c.if-not-bytes_at_most.true) tell3, refl))

pub returns-in_err-test_tables : goal.returns-in_err-test_tables
returns-in_err-test_tables c =
    let e : Refusal = c.in_err-test_tables.field-0.0 in
    let back : c.from_residual-in_err-test_tables.result ≡ Err e = grind (arith, common_steps) in
    let call_at : Call = let a = c.args in call_of a.t a.fwd.now a.bwd.now a.pins.now a.couplings.now a.cuts.now in
    let r4 : List Rule = panel_tables c.args.t call_at in
    let rows_at : List ℤ = rows_of c.args.t.s c.args.columns.now in
    let r1 : List Rule = head_rules c.args.t rows_at c.args.totals.now call_at c.args.l in
    let r3 : List Rule = spin_rules c.args.t rows_at in
    let choicesAt : Choices = choices_of c.args.choices.now c.args.greys.now in
    let r8 : List Rule = chosen_rules call_at choicesAt in
    let r10 : List Rule = seed_rules call_at rows_at in
    let r14 : List Rule = total_rules c.args.t c.args.totals.now in
    let head : Verdict r1 0 = let a = c.args in
    head_of a.t a.columns.now a.totals.now call_at a.l c.requires.systems c.requires.spins_is c.requires.couplings_is refl refl refl
    0 c.in_ok-test_shape.ensures in
    let k1 : Kept r1 = head in
    let some : 1 ≤ c.args.t.s = rw c.requires.systems (omega (arith, k1.0.size_low)) in
    let long : length c.args.columns.now ≡ c.args.t.n = bytes_long c.args.t.s c.args.t.n c.args.columns.now some k1.1.1.0.spins in
    let tell3 : Tells c.bytes_at_most.result (Spins c.args.t.n (Named c.args.t.s (group_names c.args.t.group)) rows_at) = own_spins c.args.t c.requires.systems c.requires.group k1.0.size_high rows_at c.bytes_at_most.result
    (spins_tell c.args.t.s c.args.t.n c.highest.result c.args.columns.now long some
    (c.highest.ensures ∙ ap (λ (x : ℕ). 2 ^ x - 1) (sym c.requires.systems)) c.bytes_at_most.result c.bytes_at_most.ensures) in
    let k3 : Spins c.args.t.n (Named c.args.t.s (group_names c.args.t.group)) rows_at = passed c.bytes_at_most.result (ap not c.if-not-bytes_at_most.false) tell3 in
    let past1 : (rs : List Rule) (r : ℕ) → Verdict rs r → Verdict (r1 ++ rs) r = λ rs r v. verdict_later r1 rs r k1 v in
    let past3 : (rs : List Rule) (r : ℕ) → Verdict rs r → Verdict (r1 ++ (r3 ++ rs)) r = λ rs r v. past1 (r3 ++ rs) r (verdict_later r3 rs r (k3, tt) v) in
    rw back
    (past3 (r4 ++ (r8 ++ (r10 ++ r14))) (number_of e)
    (refused_first r4 (r8 ++ (r10 ++ r14)) e c.in_err-test_tables.ensures))

pub returns-in_err-test_chosen : goal.returns-in_err-test_chosen
returns-in_err-test_chosen c =
    let e : Refusal = c.in_err-test_chosen.field-0.0 in
    let back : c.from_residual-in_err-test_chosen.result ≡ Err e = grind (arith, common_steps) in
    let call_at : Call = let a = c.args in call_of a.t a.fwd.now a.bwd.now a.pins.now a.couplings.now a.cuts.now in
    let choicesAt : Choices = choices_of c.args.choices.now c.args.greys.now in
    let r8 : List Rule = chosen_rules call_at choicesAt in
    let rows_at : List ℤ = rows_of c.args.t.s c.args.columns.now in
    let r1 : List Rule = head_rules c.args.t rows_at c.args.totals.now call_at c.args.l in
    let r3 : List Rule = spin_rules c.args.t rows_at in
    let r4 : List Rule = panel_tables c.args.t call_at in
    let r10 : List Rule = seed_rules call_at rows_at in
    let r14 : List Rule = total_rules c.args.t c.args.totals.now in
    let head : Verdict r1 0 = let a = c.args in
    head_of a.t a.columns.now a.totals.now call_at a.l c.requires.systems c.requires.spins_is c.requires.couplings_is refl refl refl
    0 c.in_ok-test_shape.ensures in
    let k1 : Kept r1 = head in
    let some : 1 ≤ c.args.t.s = rw c.requires.systems (omega (arith, k1.0.size_low)) in
    let long : length c.args.columns.now ≡ c.args.t.n = bytes_long c.args.t.s c.args.t.n c.args.columns.now some k1.1.1.0.spins in
    let tell3 : Tells c.bytes_at_most.result (Spins c.args.t.n (Named c.args.t.s (group_names c.args.t.group)) rows_at) = own_spins c.args.t c.requires.systems c.requires.group k1.0.size_high rows_at c.bytes_at_most.result
    (spins_tell c.args.t.s c.args.t.n c.highest.result c.args.columns.now long some
    (c.highest.ensures ∙ ap (λ (x : ℕ). 2 ^ x - 1) (sym c.requires.systems)) c.bytes_at_most.result c.bytes_at_most.ensures) in
    let k3 : Spins c.args.t.n (Named c.args.t.s (group_names c.args.t.group)) rows_at = passed c.bytes_at_most.result (ap not c.if-not-bytes_at_most.false) tell3 in
    let past1 : (rs : List Rule) (r : ℕ) → Verdict rs r → Verdict (r1 ++ rs) r = λ rs r v. verdict_later r1 rs r k1 v in
    let past3 : (rs : List Rule) (r : ℕ) → Verdict rs r → Verdict (r1 ++ (r3 ++ rs)) r = λ rs r v. past1 (r3 ++ rs) r (verdict_later r3 rs r (k3, tt) v) in
    let past4 : (rs : List Rule) (r : ℕ) → Verdict rs r → Verdict (r1 ++ (r3 ++ (r4 ++ rs))) r = λ rs r v. let k : Kept r4 = c.in_ok-test_tables.ensures in
    past3 (r4 ++ rs) r (verdict_later r4 rs r k v) in
    let own : Verdict r8 (number_of e) = let a = c.args in
    c.in_err-test_chosen.ensures a.t.d a.t.s a.t.temperature a.fwd.now a.bwd.now a.pins.now a.couplings.now in
    rw back
    (past4 (r8 ++ (r10 ++ r14)) (number_of e)
    (refused_first r8 (r10 ++ r14) e own))

pub seed_column_ok-requires : goal.seed_column_ok-requires
seed_column_ok-requires c =
    let call_at : Call = let a = c.args in call_of a.t a.fwd.now a.bwd.now a.pins.now a.couplings.now a.cuts.now in
    let rows_at : List ℤ = rows_of c.args.t.s c.args.columns.now in
    let r1 : List Rule = head_rules c.args.t rows_at c.args.totals.now call_at c.args.l in
    let head : Verdict r1 0 = let a = c.args in
    head_of a.t a.columns.now a.totals.now call_at a.l c.requires.systems c.requires.spins_is c.requires.couplings_is refl refl refl
    0 c.in_ok-test_shape.ensures in
    let k1 : Kept r1 = head in
    let some : 1 ≤ c.args.t.s = rw c.requires.systems (omega (arith, k1.0.size_low)) in
    let long : length c.args.columns.now ≡ c.args.t.n = bytes_long c.args.t.s c.args.t.n c.args.columns.now some k1.1.1.0.spins in
    let choicesAt : Choices = choices_of c.args.choices.now c.args.greys.now in
    let r8 : List Rule = chosen_rules call_at choicesAt in
    let own : Verdict r8 0 = let a = c.args in
    c.in_ok-test_chosen.ensures a.t.d a.t.s a.t.temperature a.fwd.now a.bwd.now a.pins.now a.couplings.now in
    let k8 : Kept r8 = own in
    let tell3 : Tells c.bytes_at_most.result (Spins c.args.t.n (Named c.args.t.s (group_names c.args.t.group)) rows_at) = own_spins c.args.t c.requires.systems c.requires.group k1.0.size_high rows_at c.bytes_at_most.result
    (spins_tell c.args.t.s c.args.t.n c.highest.result c.args.columns.now long some
    (c.highest.ensures ∙ ap (λ (x : ℕ). 2 ^ x - 1) (sym c.requires.systems)) c.bytes_at_most.result c.bytes_at_most.ensures) in
    let k3 : Spins c.args.t.n (Named c.args.t.s (group_names c.args.t.group)) rows_at = passed c.bytes_at_most.result (ap not c.if-not-bytes_at_most.false) tell3 in
    let narrow : Narrow c.args.t.s c.args.columns.now = spins_narrow c.args.t.s c.args.t.n c.args.columns.now long some
    (spins_own c.args.t c.requires.systems c.requires.group k1.0.size_high rows_at k3) in
    let low : Narrow c.args.t.group.len c.args.columns.now = subst (λ (m : ℕ). Narrow m c.args.columns.now) c.requires.systems narrow in
    let tiny : 1 ≤ c.args.t.group.len = omega (arith, k1.0.size_low) in
    let r = k1.0 in
    record {
      n_high = r.lattice.n_high;
      size_low = tiny;
      size_high = r.size_high;
      long = long;
      narrow = λ i h. low i (rw long h);
      reference = k8.1.0.reference;
    }

pub returns-then-not-seed_column_ok : goal.returns-then-not-seed_column_ok
returns-then-not-seed_column_ok c =
    let call_at : Call = let a = c.args in call_of a.t a.fwd.now a.bwd.now a.pins.now a.couplings.now a.cuts.now in
    let rows_at : List ℤ = rows_of c.args.t.s c.args.columns.now in
    let r10 : List Rule = seed_rules call_at rows_at in
    let r14 : List Rule = total_rules c.args.t c.args.totals.now in
    let r1 : List Rule = head_rules c.args.t rows_at c.args.totals.now call_at c.args.l in
    let r3 : List Rule = spin_rules c.args.t rows_at in
    let r4 : List Rule = panel_tables c.args.t call_at in
    let choicesAt : Choices = choices_of c.args.choices.now c.args.greys.now in
    let r8 : List Rule = chosen_rules call_at choicesAt in
    let head : Verdict r1 0 = let a = c.args in
    head_of a.t a.columns.now a.totals.now call_at a.l c.requires.systems c.requires.spins_is c.requires.couplings_is refl refl refl
    0 c.in_ok-test_shape.ensures in
    let k1 : Kept r1 = head in
    let some : 1 ≤ c.args.t.s = rw c.requires.systems (omega (arith, k1.0.size_low)) in
    let long : length c.args.columns.now ≡ c.args.t.n = bytes_long c.args.t.s c.args.t.n c.args.columns.now some k1.1.1.0.spins in
    let tell3 : Tells c.bytes_at_most.result (Spins c.args.t.n (Named c.args.t.s (group_names c.args.t.group)) rows_at) = own_spins c.args.t c.requires.systems c.requires.group k1.0.size_high rows_at c.bytes_at_most.result
    (spins_tell c.args.t.s c.args.t.n c.highest.result c.args.columns.now long some
    (c.highest.ensures ∙ ap (λ (x : ℕ). 2 ^ x - 1) (sym c.requires.systems)) c.bytes_at_most.result c.bytes_at_most.ensures) in
    let k3 : Spins c.args.t.n (Named c.args.t.s (group_names c.args.t.group)) rows_at = passed c.bytes_at_most.result (ap not c.if-not-bytes_at_most.false) tell3 in
    let past1 : (rs : List Rule) (r : ℕ) → Verdict rs r → Verdict (r1 ++ rs) r = λ rs r v. verdict_later r1 rs r k1 v in
    let past3 : (rs : List Rule) (r : ℕ) → Verdict rs r → Verdict (r1 ++ (r3 ++ rs)) r = λ rs r v. past1 (r3 ++ rs) r (verdict_later r3 rs r (k3, tt) v) in
    let past4 : (rs : List Rule) (r : ℕ) → Verdict rs r → Verdict (r1 ++ (r3 ++ (r4 ++ rs))) r = λ rs r v. let k : Kept r4 = c.in_ok-test_tables.ensures in
    past3 (r4 ++ rs) r (verdict_later r4 rs r k v) in
    let own : Verdict r8 0 = let a = c.args in
    c.in_ok-test_chosen.ensures a.t.d a.t.s a.t.temperature a.fwd.now a.bwd.now a.pins.now a.couplings.now in
    let k8 : Kept r8 = own in
    let past8 : (rs : List Rule) (r : ℕ) → Verdict rs r → Verdict (r1 ++ (r3 ++ (r4 ++ (r8 ++ rs)))) r = λ rs r v. past4 (r8 ++ rs) r (verdict_later r8 rs r k8 v) in
    let narrow : Narrow c.args.t.s c.args.columns.now = spins_narrow c.args.t.s c.args.t.n c.args.columns.now long some
    (spins_own c.args.t c.requires.systems c.requires.group k1.0.size_high rows_at k3) in
    let low : Narrow c.args.t.group.len c.args.columns.now = subst (λ (m : ℕ). Narrow m c.args.columns.now) c.requires.systems narrow in
    let tiny : 1 ≤ c.args.t.group.len = omega (arith, k1.0.size_low) in
    let tell10 : Tells c.seed_column_ok.result (Seeded call_at rows_at) = let a = c.args in
    let q = k1.0 in
    let g = k8.1.0.reference in
    subst (λ (m : ℕ). Tells c.seed_column_ok.result (Seeded call_at (rows_of m a.columns.now))) (sym c.requires.systems)
    (c.seed_column_ok.ensures a.cuts.now a.t.d a.t.s a.t.temperature a.fwd.now a.bwd.now a.pins.now a.couplings.now _
    (rows_sighted a.t a.columns.now c.requires.group tiny q.size_high q.lattice.n_high long low g)
    (rows_columned a.t a.columns.now c.requires.group tiny q.size_high q.lattice.n_high long low g)) in
    past8 (r10 ++ r14) 10 (inl (refused c.seed_column_ok.result (ap not c.if-not-seed_column_ok.true) tell10, refl))

pub returns-then-not-group_totals_fit : goal.returns-then-not-group_totals_fit
returns-then-not-group_totals_fit c =
    let r14 : List Rule = total_rules c.args.t c.args.totals.now in
    let call_at : Call = let a = c.args in call_of a.t a.fwd.now a.bwd.now a.pins.now a.couplings.now a.cuts.now in
    let rows_at : List ℤ = rows_of c.args.t.s c.args.columns.now in
    let r1 : List Rule = head_rules c.args.t rows_at c.args.totals.now call_at c.args.l in
    let r3 : List Rule = spin_rules c.args.t rows_at in
    let r4 : List Rule = panel_tables c.args.t call_at in
    let choicesAt : Choices = choices_of c.args.choices.now c.args.greys.now in
    let r8 : List Rule = chosen_rules call_at choicesAt in
    let r10 : List Rule = seed_rules call_at rows_at in
    let head : Verdict r1 0 = let a = c.args in
    head_of a.t a.columns.now a.totals.now call_at a.l c.requires.systems c.requires.spins_is c.requires.couplings_is refl refl refl
    0 c.in_ok-test_shape.ensures in
    let k1 : Kept r1 = head in
    let some : 1 ≤ c.args.t.s = rw c.requires.systems (omega (arith, k1.0.size_low)) in
    let long : length c.args.columns.now ≡ c.args.t.n = bytes_long c.args.t.s c.args.t.n c.args.columns.now some k1.1.1.0.spins in
    let tell3 : Tells c.bytes_at_most.result (Spins c.args.t.n (Named c.args.t.s (group_names c.args.t.group)) rows_at) = own_spins c.args.t c.requires.systems c.requires.group k1.0.size_high rows_at c.bytes_at_most.result
    (spins_tell c.args.t.s c.args.t.n c.highest.result c.args.columns.now long some
    (c.highest.ensures ∙ ap (λ (x : ℕ). 2 ^ x - 1) (sym c.requires.systems)) c.bytes_at_most.result c.bytes_at_most.ensures) in
    let k3 : Spins c.args.t.n (Named c.args.t.s (group_names c.args.t.group)) rows_at = passed c.bytes_at_most.result (ap not c.if-not-bytes_at_most.false) tell3 in
    let past1 : (rs : List Rule) (r : ℕ) → Verdict rs r → Verdict (r1 ++ rs) r = λ rs r v. verdict_later r1 rs r k1 v in
    let past3 : (rs : List Rule) (r : ℕ) → Verdict rs r → Verdict (r1 ++ (r3 ++ rs)) r = λ rs r v. past1 (r3 ++ rs) r (verdict_later r3 rs r (k3, tt) v) in
    let past4 : (rs : List Rule) (r : ℕ) → Verdict rs r → Verdict (r1 ++ (r3 ++ (r4 ++ rs))) r = λ rs r v. let k : Kept r4 = c.in_ok-test_tables.ensures in
    past3 (r4 ++ rs) r (verdict_later r4 rs r k v) in
    let own : Verdict r8 0 = let a = c.args in
    c.in_ok-test_chosen.ensures a.t.d a.t.s a.t.temperature a.fwd.now a.bwd.now a.pins.now a.couplings.now in
    let k8 : Kept r8 = own in
    let past8 : (rs : List Rule) (r : ℕ) → Verdict rs r → Verdict (r1 ++ (r3 ++ (r4 ++ (r8 ++ rs)))) r = λ rs r v. past4 (r8 ++ rs) r (verdict_later r8 rs r k8 v) in
    let narrow : Narrow c.args.t.s c.args.columns.now = spins_narrow c.args.t.s c.args.t.n c.args.columns.now long some
    (spins_own c.args.t c.requires.systems c.requires.group k1.0.size_high rows_at k3) in
    let low : Narrow c.args.t.group.len c.args.columns.now = subst (λ (m : ℕ). Narrow m c.args.columns.now) c.requires.systems narrow in
    let tiny : 1 ≤ c.args.t.group.len = omega (arith, k1.0.size_low) in
    let tell10 : Tells c.seed_column_ok.result (Seeded call_at rows_at) = let a = c.args in
    let q = k1.0 in
    let g = k8.1.0.reference in
    subst (λ (m : ℕ). Tells c.seed_column_ok.result (Seeded call_at (rows_of m a.columns.now))) (sym c.requires.systems)
    (c.seed_column_ok.ensures a.cuts.now a.t.d a.t.s a.t.temperature a.fwd.now a.bwd.now a.pins.now a.couplings.now _
    (rows_sighted a.t a.columns.now c.requires.group tiny q.size_high q.lattice.n_high long low g)
    (rows_columned a.t a.columns.now c.requires.group tiny q.size_high q.lattice.n_high long low g)) in
    let past10 : (rs : List Rule) (r : ℕ) → Verdict rs r → Verdict (r1 ++ (r3 ++ (r4 ++ (r8 ++ (r10 ++ rs))))) r = λ rs r v. past8 (r10 ++ rs) r
    (verdict_later r10 rs r (passed c.seed_column_ok.result (ap not c.if-not-seed_column_ok.false) tell10, tt) v) in
    let small : let a = c.args in Tells c.group_totals_fit.result (When (keeps_by a.t.keeps a.t.form) (SmallTotals (Named a.t.s (group_names a.t.group)) a.totals.now)) = let a = c.args in
    small_named (keeps_by a.t.keeps a.t.form) a.t.s (group_names a.t.group) a.totals.now (λ q. (k1.1.1.1.0 q).totals)
    c.group_totals_fit.result (rw c.totals.ensures at c.group_totals_fit.ensures) in
    past10 r14 14 (inl (refused c.group_totals_fit.result (ap not c.if-not-group_totals_fit.true) small, refl))

pub returns : goal.returns
returns c =
    let r14 : List Rule = total_rules c.args.t c.args.totals.now in
    let call_at : Call = let a = c.args in call_of a.t a.fwd.now a.bwd.now a.pins.now a.couplings.now a.cuts.now in
    let rows_at : List ℤ = rows_of c.args.t.s c.args.columns.now in
    let r1 : List Rule = head_rules c.args.t rows_at c.args.totals.now call_at c.args.l in
    let r3 : List Rule = spin_rules c.args.t rows_at in
    let r4 : List Rule = panel_tables c.args.t call_at in
    let choicesAt : Choices = choices_of c.args.choices.now c.args.greys.now in
    let r8 : List Rule = chosen_rules call_at choicesAt in
    let r10 : List Rule = seed_rules call_at rows_at in
    let head : Verdict r1 0 = let a = c.args in
    head_of a.t a.columns.now a.totals.now call_at a.l c.requires.systems c.requires.spins_is c.requires.couplings_is refl refl refl
    0 c.in_ok-test_shape.ensures in
    let k1 : Kept r1 = head in
    let some : 1 ≤ c.args.t.s = rw c.requires.systems (omega (arith, k1.0.size_low)) in
    let long : length c.args.columns.now ≡ c.args.t.n = bytes_long c.args.t.s c.args.t.n c.args.columns.now some k1.1.1.0.spins in
    let tell3 : Tells c.bytes_at_most.result (Spins c.args.t.n (Named c.args.t.s (group_names c.args.t.group)) rows_at) = own_spins c.args.t c.requires.systems c.requires.group k1.0.size_high rows_at c.bytes_at_most.result
    (spins_tell c.args.t.s c.args.t.n c.highest.result c.args.columns.now long some
    (c.highest.ensures ∙ ap (λ (x : ℕ). 2 ^ x - 1) (sym c.requires.systems)) c.bytes_at_most.result c.bytes_at_most.ensures) in
    let k3 : Spins c.args.t.n (Named c.args.t.s (group_names c.args.t.group)) rows_at = passed c.bytes_at_most.result (ap not c.if-not-bytes_at_most.false) tell3 in
    let past1 : (rs : List Rule) (r : ℕ) → Verdict rs r → Verdict (r1 ++ rs) r = λ rs r v. verdict_later r1 rs r k1 v in
    let past3 : (rs : List Rule) (r : ℕ) → Verdict rs r → Verdict (r1 ++ (r3 ++ rs)) r = λ rs r v. past1 (r3 ++ rs) r (verdict_later r3 rs r (k3, tt) v) in
    let past4 : (rs : List Rule) (r : ℕ) → Verdict rs r → Verdict (r1 ++ (r3 ++ (r4 ++ rs))) r = λ rs r v. let k : Kept r4 = c.in_ok-test_tables.ensures in
    past3 (r4 ++ rs) r (verdict_later r4 rs r k v) in
    let own : Verdict r8 0 = let a = c.args in
    c.in_ok-test_chosen.ensures a.t.d a.t.s a.t.temperature a.fwd.now a.bwd.now a.pins.now a.couplings.now in
    let k8 : Kept r8 = own in
    let past8 : (rs : List Rule) (r : ℕ) → Verdict rs r → Verdict (r1 ++ (r3 ++ (r4 ++ (r8 ++ rs)))) r = λ rs r v. past4 (r8 ++ rs) r (verdict_later r8 rs r k8 v) in
    let narrow : Narrow c.args.t.s c.args.columns.now = spins_narrow c.args.t.s c.args.t.n c.args.columns.now long some
    (spins_own c.args.t c.requires.systems c.requires.group k1.0.size_high rows_at k3) in
    let low : Narrow c.args.t.group.len c.args.columns.now = subst (λ (m : ℕ). Narrow m c.args.columns.now) c.requires.systems narrow in
    let tiny : 1 ≤ c.args.t.group.len = omega (arith, k1.0.size_low) in
    let tell10 : Tells c.seed_column_ok.result (Seeded call_at rows_at) = let a = c.args in
    let q = k1.0 in
    let g = k8.1.0.reference in
    subst (λ (m : ℕ). Tells c.seed_column_ok.result (Seeded call_at (rows_of m a.columns.now))) (sym c.requires.systems)
    (c.seed_column_ok.ensures a.cuts.now a.t.d a.t.s a.t.temperature a.fwd.now a.bwd.now a.pins.now a.couplings.now _
    (rows_sighted a.t a.columns.now c.requires.group tiny q.size_high q.lattice.n_high long low g)
    (rows_columned a.t a.columns.now c.requires.group tiny q.size_high q.lattice.n_high long low g)) in
    let past10 : (rs : List Rule) (r : ℕ) → Verdict rs r → Verdict (r1 ++ (r3 ++ (r4 ++ (r8 ++ (r10 ++ rs))))) r = λ rs r v. past8 (r10 ++ rs) r
    (verdict_later r10 rs r (passed c.seed_column_ok.result (ap not c.if-not-seed_column_ok.false) tell10, tt) v) in
    let small : let a = c.args in Tells c.group_totals_fit.result (When (keeps_by a.t.keeps a.t.form) (SmallTotals (Named a.t.s (group_names a.t.group)) a.totals.now)) = let a = c.args in
    small_named (keeps_by a.t.keeps a.t.form) a.t.s (group_names a.t.group) a.totals.now (λ q. (k1.1.1.1.0 q).totals)
    c.group_totals_fit.result (rw c.totals.ensures at c.group_totals_fit.ensures) in
    past10 r14 0 (passed c.group_totals_fit.result (ap not c.if-not-group_totals_fit.false) small, tt)
