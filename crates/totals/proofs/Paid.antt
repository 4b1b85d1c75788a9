-- Totals that are paid one by one.
use Prim.Native.Nat.{ℕ, ◌+◌, ◌<◌}
use mathlib.Core.Path.{◌≡◌, refl, ◌∙◌}
use mathlib.Core.List.{List}
use native.Mathlib.Omega.{arith}
use native.Mathlib.Decide.{ℕ_discrete}
use lib.ListN.{get_or, set, length-set}
use lib.Seq.{get_or-set_same, get_or-set_other}
use lib.IntN.{ℤ, pos, ◌+ℤ◌}
use Rattle.paper.specs.declared.Group.{Group}
use Rattle.paper.specs.Panel.Input.{member}
use Rattle.paper.specs.Answer.Totals.{total}
use Rattle.totals.specs.Contract.{Payable, Paid}

pub paid_none : {g : Group} {sums xs : List ℤ} → Paid 0 g sums xs xs
paid_none = record { long = refl; group = λ k l. absurd (omega arith); others = λ t o. refl }

module _ {g : Group} {sums xs ys : List ℤ} {k : ℕ} (h : Payable g sums xs) (l : k < g.len) (was : Paid k g sums xs ys) where
  -- the next total is as it was
  pub unpaid : total ys (member g k) ≡ total xs (member g k)
  unpaid = was.others (member g k) (λ j lj e. omega (arith, h.distinct k j l (omega arith) e))

  pub paid_more : {v : ℤ} → v ≡ total xs (member g k) +ℤ get_or sums k (pos 0) → Paid (k + 1) g sums xs (set ys (member g k) v)
  paid_more {v} e =
      record {
        long = length-set ys (member g k) v ∙ was.long;
        group = λ j lj. at j lj (ℕ_discrete j k);
        others = λ t o. get_or-set_other ys (member g k) t v (pos 0) (o k (omega arith)) ∙ was.others t (λ j lj. o j (omega arith));
      }
    where
      at : (j : ℕ) → j < k + 1 → Dec (j ≡ k) → total (set ys (member g k) v) (member g j) ≡ total xs (member g j) +ℤ get_or sums j (pos 0)
      at j lj (yes q) = rw q (get_or-set_same ys (member g k) v (pos 0) (omega (arith, was.long, h.below k l)) ∙ e)
      at j lj (no q) =
          let b : j < k = omega arith in
          get_or-set_other ys (member g k) (member g j) v (pos 0) (λ x. q (h.distinct j k (omega arith) l x)) ∙ was.group j b
