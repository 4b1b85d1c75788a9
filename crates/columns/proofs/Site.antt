-- One site written member by member: what one store more does to the group's spins there.
use Prim.Native.Nat.{ℕ, ◌+◌, ◌*◌, ◌/◌, ◌<◌}
use mathlib.Core.Path.{◌≡◌, refl, sym, ◌∙◌, ap}
use mathlib.Core.Logic.{◌≢◌}
use mathlib.Core.List.{List}
use native.Mathlib.Omega.{arith}
use native.Mathlib.Decide.{ℕ_discrete}
use lib.ListN.{length, set, length-set}
use lib.Seq.{get_or-set_same, get_or-set_other}
use lib.IntN.{ℤ, pos}
use Rattle.lemmas.specs.Cells.{row_of}
use Rattle.paper.specs.declared.Group.{Group}
use Rattle.paper.specs.Panel.Input.{member, pattern_of}
use Rattle.paper.specs.Refusal.Rules.{Distinct}
use Rattle.columns.specs.Column.{shown}
use Rattle.columns.specs.Rows.{SiteWritten}

module _ {n : ℕ} {g : Group} {i column : ℕ} {xs : List ℤ} where
  pub none_there : SiteWritten n 0 g i column xs xs
  none_there = record { long = refl; group = λ k h. absurd (omega arith); others = λ x h. refl }

  pub one_there :
      {k : ℕ} {ys : List ℤ} {v : ℤ} → k < g.len → SiteWritten n k g i column xs ys → Distinct g.len (member g)
      → i < n → member g k * n + i < length xs → v ≡ shown column k → SiteWritten n (k + 1) g i column xs (set ys (member g k * n + i) v)
  one_there {k} {ys} {v} few was distinct site inside e = record {
    long = length-set ys (member g k * n + i) v ∙ was.long;
    group = λ j h. at j h (ℕ_discrete j k);
    others = λ x h. get_or-set_other ys (member g k * n + i) x v (pos 0) (h k (omega arith)) ∙ was.others x (λ j l. h j (omega arith));
  }
    where
      apart : (j : ℕ) → j < k → member g j * n + i ≢ member g k * n + i
      apart j h q =
          let d = distinct j k (omega arith) few in
          let same : member g j ≡ member g k = sym (row_of n (member g j) i site) ∙ (ap (λ (x : ℕ). x / n) q ∙ row_of n (member g k) i site) in
          absurd (omega (arith, d same))

      at : (j : ℕ) → j < k + 1 → Dec (j ≡ k) → pattern_of n g (set ys (member g k * n + i) v) i j ≡ shown column j
      at j h (yes q) = rw q (get_or-set_same ys (member g k * n + i) v (pos 0) (omega (arith, was.long)) ∙ e)
      at j h (no q) =
          let l : j < k = omega arith in
          get_or-set_other ys (member g k * n + i) (member g j * n + i) v (pos 0) (apart j l) ∙ was.group j l
