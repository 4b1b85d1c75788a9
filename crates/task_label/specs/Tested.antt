-- The tests of the first step: those of a move, and beside its lengths that of the blue sites' area.
use Rattle.std.specs.Prelude.{ℕ, zero, suc, ◌≡◌, refl, false, ◌&&◌, List, [], ◌∷◌, ◌++◌, ℤ, Float}
use Rattle.std.proofs.Common.{sym, ◌∙◌, inl, inr}
use Rattle.lemmas.specs.Bools.{never}
use Rattle.paper.specs.declared.Task.{Task}
use Rattle.paper.specs.declared.Lengths.{Lengths}
use Rattle.paper.specs.Panel.Input.{Call, Choices}
use Rattle.paper.specs.Panel.Made.{call_of, lattice_of}
use Rattle.paper.specs.Panel.Takes.{draws_bonds, grows_by, greys_by, keeps_by}
use Rattle.paper.specs.Refusal.Rule.{Rule, rule, Kept, Broken}
use Rattle.paper.specs.Refusal.Rules.{When, Ranged, HoudOfTwo, Fits, group_names, Named, Spins, Inverse, Pins, Grouped, SmallCouplings, Warm, choice_rules}
use Rattle.paper.specs.Refusal.Verdict.{Verdict, broken_first, broken_later}
use Rattle.paper.specs.Answer.Totals.{SmallTotals, TotalLengths}
use Rattle.tests.specs.Panel.{shape_rules, content_rules}
use Rattle.step_tests.specs.Call.{Measured, total_rules, call_rules}

pub verdict_broken : (rs : List Rule) (r : ℕ) → (r ≡ 0 → ⊥) → Verdict rs r → Broken rs r
verdict_broken rs zero e v = absurd (e refl)
verdict_broken rs (suc r) e v = v

-- ---- a rule that is kept taken out of a list of rules, or put in, changes no verdict
kept_without : (rs qs : List Rule) (q : Rule) → Kept (rs ++ (q ∷ qs)) → Kept (rs ++ qs)
kept_without [] qs q k = k.1
kept_without (r ∷ rs) qs q k = (k.0, kept_without rs qs q k.1)

broken_without : (rs qs : List Rule) (q : Rule) (m : ℕ) → q.claim → Broken (rs ++ (q ∷ qs)) m → Broken (rs ++ qs) m
broken_without [] qs q m h (inl w) = absurd (w.0 h)
broken_without [] qs q m h (inr w) = w.1
broken_without (r ∷ rs) qs q m h (inl w) = inl w
broken_without (r ∷ rs) qs q m h (inr w) = inr (w.0, broken_without rs qs q m h w.1)

kept_with : (rs qs : List Rule) (q : Rule) → q.claim → Kept (rs ++ qs) → Kept (rs ++ (q ∷ qs))
kept_with [] qs q h k = (h, k)
kept_with (r ∷ rs) qs q h k = (k.0, kept_with rs qs q h k.1)

broken_with : (rs qs : List Rule) (q : Rule) (m : ℕ) → q.claim → Broken (rs ++ qs) m → Broken (rs ++ (q ∷ qs)) m
broken_with [] qs q m h w = inr (h, w)
broken_with (r ∷ rs) qs q m h (inl w) = inl w
broken_with (r ∷ rs) qs q m h (inr w) = inr (w.0, broken_with rs qs q m h w.1)

pub verdict_without : (rs qs : List Rule) (q : Rule) (m : ℕ) → q.claim → Verdict (rs ++ (q ∷ qs)) m → Verdict (rs ++ qs) m
verdict_without rs qs q zero h v = kept_without rs qs q v
verdict_without rs qs q (suc m) h v = broken_without rs qs q (suc m) h v

pub verdict_with : (rs qs : List Rule) (q : Rule) (m : ℕ) → q.claim → Verdict (rs ++ qs) m → Verdict (rs ++ (q ∷ qs)) m
verdict_with rs qs q zero h v = kept_with rs qs q h v
verdict_with rs qs q (suc m) h v = broken_with rs qs q (suc m) h v

-- what is handed to the tests: a task that keeps no totals, and the lengths of the buffers
pub record Handed (t : Task) (rows : List ℤ) (fwd bwd : List ℕ) (couplings : List ℤ) (choices greys : List ℕ) (l : Lengths) : Type 0 where
  pub keeps : keeps_by t.keeps t.form ≡ false
  pub measured : Measured rows fwd bwd couplings choices greys l

-- ---- the tests, of buffers that have the lengths l and an area of so many bytes
module _ (t : Task) (fwd bwd pins : List ℕ) (couplings : List ℤ) (cuts : List Float) (p : Choices) (xs : List ℤ) (l : Lengths) (blue : ℕ) where
  abbrev c : Call
  c = call_of t fwd bwd pins couplings cuts

  -- 1, 15 and 2
  abbrev pub shape_tests : List Rule
  shape_tests =
      rule 1 (Ranged t.n t.d t.s t.mode t.group.len)
      ∷ rule 15 (HoudOfTwo t.mode t.form t.group.len)
      ∷ rule 2 (Fits t.mode t.form t.n t.d t.s t.group.len l)
      ∷ []

  abbrev pub blue_test : Rule
  blue_test = rule 2 (When (grows_by t.form && greys_by t.mode t.form) (blue ≡ t.n))

  -- 3 to 6, and from 7 on
  abbrev table_tests : List Rule
  table_tests =
      rule 3 (Spins t.n (Named t.s (group_names t.group)) xs)
      ∷ rule 4 (Inverse t.n t.d fwd bwd)
      ∷ rule 4 (Pins pins)
      ∷ rule 5 (Grouped t.s t.group)
      ∷ rule 6 (When (draws_bonds t.mode) (SmallCouplings couplings))
      ∷ []

  abbrev own_tests : List Rule
  own_tests = rule 7 (When (draws_bonds t.mode) (Warm t.temperature)) ∷ choice_rules c p xs

  abbrev pub label_tests : List Rule
  label_tests = shape_tests ++ (blue_test ∷ (table_tests ++ own_tests))

  pub blue_refuses : Kept shape_tests → (blue_test.claim → ⊥) → Verdict label_tests 2
  blue_refuses k n = broken_later shape_tests (blue_test ∷ (table_tests ++ own_tests)) 2 k (inl (n, refl))

  module _ (none : keeps_by t.keeps t.form ≡ false) where
    nothing : {P : Type 0} → When (keeps_by t.keeps t.form) P
    nothing e = never (sym none ∙ e)

    pub shape_tested : (r : ℕ) → Verdict (shape_rules t 0 l) r → Verdict shape_tests r
    shape_tested r v = verdict_without shape_tests [] _ r (record { couplings_is = nothing; totals_is = nothing }) v

    pub shape_refuses : (r : ℕ) → (r ≡ 0 → ⊥) → Verdict (shape_rules t 0 l) r → Verdict label_tests r
    shape_refuses zero ne v = absurd (ne refl)
    shape_refuses (suc r) ne v = broken_first shape_tests (blue_test ∷ (table_tests ++ own_tests)) (suc r) (shape_tested (suc r) v)

    -- with the area's length right, the tests of a move that keeps no totals tell the rest
    pub call_tested : (r : ℕ) → blue_test.claim → Verdict (call_rules t c p xs [] l) r → Verdict label_tests r
    call_tested r h v =
        verdict_with shape_tests (table_tests ++ own_tests) blue_test r h
        (verdict_without (shape_tests ++ (table_tests ++ own_tests)) []
        (rule 14 (When (keeps_by t.keeps t.form) (SmallTotals (Named t.s (group_names t.group)) []))) r nothing
        (verdict_without (shape_tests ++ table_tests) (own_tests ++ total_rules t [])
        (rule 6 (When (keeps_by t.keeps t.form) (SmallCouplings couplings))) r nothing
        (verdict_without shape_tests (content_rules t xs fwd bwd pins couplings ++ (choice_rules c p xs ++ total_rules t []))
        (rule 2 (When (keeps_by t.keeps t.form) (TotalLengths (lattice_of t.n t.d t.s fwd bwd couplings) []))) r nothing v)))
