-- Tests 1, 15 and 2 by numbers alone are the panel's.
use Prim.Native.Nat.{ℕ, zero, suc}
use mathlib.Core.Path.{◌≡◌, refl}
use mathlib.Core.Logic.{inl, inr}
use mathlib.Core.Bool.{Bool}
use mathlib.Core.List.{List, [], ◌∷◌}
use lib.ListN.{length}
use lib.IntN.{ℤ}
use Rattle.paper.specs.declared.Task.{Task}
use Rattle.paper.specs.declared.Lengths.{Lengths}
use Rattle.paper.specs.Panel.Input.{Lattice}
use Rattle.paper.specs.Panel.Made.{lattice_of}
use Rattle.paper.specs.Panel.Takes.{keeps_by}
use Rattle.paper.specs.Refusal.Rule.{Rule, rule, Kept, Broken}
use Rattle.paper.specs.Refusal.Rules.{When, Ranged, HoudOfTwo, Fits}
use Rattle.paper.specs.Refusal.Verdict.{Verdict}
use Rattle.paper.specs.Answer.Totals.{TotalLengths}
use Rattle.tests.specs.Panel.{Measures, TotalsFit, fit_lengths, lengths_fit, shape_rules, content_rules, panel_rules}

-- the last rule in other words, and rules behind it
module _ (A H B C D : Type 0) (qs : List Rule) (m : ℕ) (back : D → C) where
  third : Broken (rule 2 C ∷ []) m → Broken (rule 2 D ∷ qs) m
  third (inl w) = inl ((λ d. w.0 (back d)), w.1)
  third (inr w) = absurd w.1

  second : Broken (rule 2 B ∷ rule 2 C ∷ []) m → Broken (rule 2 B ∷ rule 2 D ∷ qs) m
  second (inl w) = inl w
  second (inr w) = inr (w.0, third w.1)

  first : Broken (rule 15 H ∷ rule 2 B ∷ rule 2 C ∷ []) m → Broken (rule 15 H ∷ rule 2 B ∷ rule 2 D ∷ qs) m
  first (inl w) = inl w
  first (inr w) = inr (w.0, second w.1)

  reworded : Broken (rule 1 A ∷ rule 15 H ∷ rule 2 B ∷ rule 2 C ∷ []) m → Broken (rule 1 A ∷ rule 15 H ∷ rule 2 B ∷ rule 2 D ∷ qs) m
  reworded (inl w) = inl w
  reworded (inr w) = inr (w.0, first w.1)

module _ (t : Task) (xs ts : List ℤ) (fwd bwd pins : List ℕ) (js : List ℤ) (l : Lengths) (h : Measures xs fwd bwd js l) where
  abbrev g : Lattice
  g = lattice_of t.n t.d t.s fwd bwd js

  abbrev keeping : Bool
  keeping = keeps_by t.keeps t.form

  pub shape_lengths : Kept (shape_rules t (length ts) l) → When keeping (TotalLengths g ts)
  shape_lengths k = fit_lengths keeping g ts (rw h.couplings_is at k.1.1.1.0)

  fitting : When keeping (TotalLengths g ts) → TotalsFit keeping t.n t.d t.s l.couplings (length ts)
  fitting q = rw h.couplings_is (lengths_fit keeping g ts q)

  pub shape_broken : (r : ℕ) → (r ≡ 0 → ⊥) → Verdict (shape_rules t (length ts) l) r → Verdict (panel_rules t xs ts fwd bwd pins js l) r
  shape_broken zero ne v = absurd (ne refl)
  shape_broken (suc r) ne v =
      reworded (Ranged t.n t.d t.s t.mode t.group.len) (HoudOfTwo t.mode t.form t.group.len)
      (Fits t.mode t.form t.n t.d t.s t.group.len l)
      (TotalsFit keeping t.n t.d t.s l.couplings (length ts)) (When keeping (TotalLengths g ts)) (content_rules t xs fwd bwd pins js) (suc r)
      fitting v
