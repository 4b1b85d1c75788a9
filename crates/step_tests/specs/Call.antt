-- The rules that a call's tests look at, in their order, and the way from one test to the next.
use Rattle.std.specs.Prelude.{ℕ, zero, suc, ◌*◌, ◌≡◌, refl, List, [], ◌∷◌, ◌++◌, length, ℤ}
use Rattle.std.proofs.Common.{sym, ◌∙◌}
use Rattle.paper.specs.declared.Lengths.{Lengths}
use Rattle.paper.specs.declared.Task.{Task}
use Rattle.paper.specs.Panel.Input.{Call, Choices}
use Rattle.paper.specs.Panel.Takes.{keeps_by}
use Rattle.paper.specs.Refusal.Rule.{Rule, rule, Kept}
use Rattle.paper.specs.Refusal.Rules.{When, group_names, Named, choice_rules}
use Rattle.paper.specs.Refusal.Verdict.{Verdict, broken_first}
use Rattle.paper.specs.Answer.Totals.{SmallTotals}
use Rattle.tests.specs.Panel.{panel_rules}
use Rattle.tests.specs.Choices.{Tested, rows_inside, rows_spins}

-- l has the lengths of what the tests look at
pub record Measured (spins : List ℤ) (fwd bwd : List ℕ) (couplings : List ℤ) (choices greys : List ℕ) (l : Lengths) : Type 0 where
  pub spins_is : l.spins ≡ length spins
  pub fwd_is : l.fwd ≡ length fwd
  pub bwd_is : l.bwd ≡ length bwd
  pub couplings_is : l.couplings ≡ length couplings
  pub choices_is : l.choices ≡ length choices
  pub greys_is : l.greys ≡ length greys

-- every test of the call c of the task t, of buffers that have the lengths l: 1 to 7, 8 to 10, 14
abbrev pub sound_rules : Task → Call → List ℤ → List ℤ → Lengths → List Rule
sound_rules t c xs ts l = panel_rules t xs ts c.lattice.fwd c.lattice.bwd c.pins c.lattice.couplings l

abbrev pub total_rules : Task → List ℤ → List Rule
total_rules t ts = rule 14 (When (keeps_by t.keeps t.form) (SmallTotals (Named t.s (group_names t.group)) ts)) ∷ []

abbrev pub call_rules : Task → Call → Choices → List ℤ → List ℤ → Lengths → List Rule
call_rules t c p xs ts l = sound_rules t c xs ts l ++ (choice_rules c p xs ++ total_rules t ts)

pub verdict_first : (rs qs : List Rule) (r : ℕ) → (r ≡ 0 → ⊥) → Verdict rs r → Verdict (rs ++ qs) r
verdict_first rs qs zero e v = absurd (e refl)
verdict_first rs qs (suc r) e v = broken_first rs qs (suc r) v

-- what tests 8 to 10 lean on
module _ (t : Task) (c : Call) (p : Choices) (xs ts : List ℤ) (l : Lengths) where
  pub tested_of :
      Measured xs c.lattice.fwd c.lattice.bwd c.lattice.couplings p.choices p.greys l
      → Kept (sound_rules t c xs ts l)
      → Tested t xs p.choices p.greys
  tested_of m k =
      let ranged = k.0 in
      let fits = k.1.1.0 in
      let spins = k.1.1.1.1.0 in
      let grouped = k.1.1.1.1.1.1.1.0 in
      let long : length xs ≡ t.s * t.n = sym m.spins_is ∙ fits.spins in
      record {
        n_low = ranged.lattice.n_low;
        n_high = ranged.lattice.n_high;
        size_low = ranged.size_low;
        size_high = ranged.size_high;
        inside = rows_inside t.n t.s t.group xs long grouped;
        spins = rows_spins t.n t.s t.group xs long grouped spins;
        choices_long = λ e. sym m.choices_is ∙ fits.choices e;
        greys_long = λ e. sym m.greys_is ∙ fits.greys e;
      }
