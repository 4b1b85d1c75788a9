-- A flag that tells whether one of the numbers passed is moved.
use Prim.Native.Nat.{ℕ, ◌+◌, ◌≤◌, ◌<◌}
use mathlib.Core.Path.{◌≡◌, subst}
use mathlib.Core.Logic.{◌⊎◌, inl, inr}
use mathlib.Core.Bool.{Bool, false, ◌||◌}
use native.Mathlib.Decide.{ℕ_discrete}
use native.Mathlib.Nat.{le_antisymm}
use native.Mathlib.Omega.{arith}
use Rattle.lemmas.specs.Tells.{Tells, Test, same, either, said}
use Rattle.paper.specs.Refusal.Rules.{NotIdentity}

pub record Moving (n : ℕ) (p : ℕ → ℕ) (i : ℕ) (flag : Bool) : Type 0 where
  pub reached : i ≤ n
  pub tells : Tells flag (NotIdentity i p)

pub moving_none : (n : ℕ) (p : ℕ → ℕ) → Moving n p 0 false
moving_none n p = record { reached = omega arith; tells = λ w. omega (arith, w.below) }

pub moving_more : {n : ℕ} {p : ℕ → ℕ} {i : ℕ} {a b : Bool} → Moving n p i a → i < n → Test b (p i ≡ i → ⊥) → Moving n p (i + 1) (a || b)
moving_more {n} {p} {i} {a} h l t = record {
  reached = omega arith;
  tells = (same (NotIdentity (i + 1) p) to from (either (said a (NotIdentity i p) h.tells) t)).says;
}
  where
    to : NotIdentity i p ⊎ (p i ≡ i → ⊥) → NotIdentity (i + 1) p
    to (inl w) = record { place = w.place; below = omega arith; moved = w.moved }
    to (inr m) = record { place = i; below = omega arith; moved = m }

    at : (w : NotIdentity (i + 1) p) → Dec (w.place ≡ i) → NotIdentity i p ⊎ (p i ≡ i → ⊥)
    at w (yes e) = inr (subst (λ (k : ℕ). p k ≡ k → ⊥) e w.moved)
    at w (no m) = inl (record { place = w.place; below = omega arith; moved = w.moved })

    from : NotIdentity (i + 1) p → NotIdentity i p ⊎ (p i ≡ i → ⊥)
    from w = at w (ℕ_discrete w.place i)

pub moving_end : {n : ℕ} {p : ℕ → ℕ} {i : ℕ} {a : Bool} → Moving n p i a → n ≤ i → Tells a (NotIdentity n p)
moving_end {n} {p} {i} {a} h l = subst (λ (k : ℕ). Tells a (NotIdentity k p)) (le_antisymm h.reached l) h.tells
