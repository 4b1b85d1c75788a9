-- The choices of a component lie within the buffer that is lent.
use Prim.Native.Nat.{ℕ, ◌+◌, ◌*◌, ◌≤◌, ◌<◌}
use mathlib.Core.Path.{◌≡◌}
use mathlib.Core.Bool.{true, false}
use native.Mathlib.Omega.{arith}
use native.Mathlib.Nat.{mul-le-mul_right, suc-mul}
use Rattle.paper.specs.declared.Form.{Form}
use Rattle.paper.specs.declared.Form.TheVariants.{Sw, Wolff, Observe, Grow}
use Rattle.paper.specs.Panel.Takes.{moves, entries, entry}

pub entry_lt : (form : Form) (r n : ℕ) → moves form ≡ true → r < n → entry form r < entries form n
entry_lt Sw r n e h = h
entry_lt Wolff r n e h = omega arith
entry_lt Observe r n e h = absurd (false_true e)
  where
    false_true : false ≡ true → ⊥
    false_true q = let z : ◌≡◌ {A = ℕ} 0 1 = cc in omega arith
entry_lt Grow r n e h = omega arith

-- each has m places
pub row_fits : (form : Form) (r n m : ℕ) → moves form ≡ true → r < n → entry form r * m + m ≤ entries form n * m
row_fits form r n m e h = omega (arith, mul-le-mul_right m (entry_lt form r n e h), suc-mul (entry form r) m)
