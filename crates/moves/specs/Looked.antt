-- A table of bonds read back, and what a look tells of the call's acting sites.
use Rattle.std.specs.Prelude.{ℕ, ◌<◌, ◌≡◌, Bool, List, eqb}
use Rattle.std.proofs.Common.{◌∙◌, ap}
use Rattle.paper.specs.Component.Marks.{Marks, marked}
use Rattle.column_rules.specs.Sight.{flag_is}

-- a marked bond read back
pub mark_at : (n d : ℕ) (f : ℕ → ℕ → Bool) (xs : List ℕ) → Marks n d f xs → (i e : ℕ) → i < n → e < d → marked d xs i e ≡ f i e
mark_at n d f xs h i e hi he = ap (λ (x : ℕ). eqb x 1) (h.at i e hi he) ∙ flag_is (f i e)
