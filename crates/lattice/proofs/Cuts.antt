-- What the two tests of `cut_ok` say: a cut passes both exactly where it is finite and not negative.
use mathlib.Core.Path.{◌≡◌, refl, ap, ◌∙◌}
use mathlib.Core.Bool.{Bool, true, false, ◌&&◌, ◌||◌}
use Prim.Native.Nat.{ℕ, zero, suc, ◌*◌, ◌<◌}
use native.Mathlib.Nat.{zero-mul, suc-mul}
use native.Mathlib.Omega.{arith}
use borrow.Author.Tests.{lt-ltb, ne_eqb}
use lib.Dec.{eqb, ltb}
use lib.Ieee.{Float, nan, inf, fin, le, lt, eq, of_int, up, down}
use lib.Ieee.Fits.{up_pos}
use Rattle.paper.specs.Refusal.Rules.{is_cut}
use Rattle.paper.specs.Site.Bonds.{whole}

-- 0 against b, with the sign of b positive, and negative
abbrev above : ℕ → ℕ → Bool
above a b = (ltb a b || (eqb a b && (true || eqb a 0))) && true

abbrev minus : ℕ → ℕ → Bool
minus a b = (false || (eqb a b && (false || eqb a 0))) && true

above_zero : (b : ℕ) → above 0 b ≡ true
above_zero zero = refl
above_zero (suc k) = rw (lt-ltb 0 (suc k) (omega arith))

minus_zero : (m u : ℕ) → 0 < u → minus 0 (m * u * 1) ≡ eqb m 0
minus_zero zero u h = rw zero-mul
minus_zero (suc k) u h = rw (ne_eqb 0 (suc k * u * 1) some, ne_eqb (suc k) 0 (λ e. absurd (omega arith)))
  where
    some : 0 ≡ suc k * u * 1 → ⊥
    some e = omega (arith, e, suc-mul k u)

abbrev pub tested : Float → Bool
tested x = le (whole 0) x && lt x (inf false)

pub meaning : (x : Float) → tested x ≡ is_cut x
unfolding le lt eq of_int
meaning nan = refl
meaning (inf true) = refl
meaning (inf false) = refl
meaning (fin false m e) = ap (λ (a : ℕ). above a (m * up e * 1)) (zero-mul (down e)) ∙ above_zero (m * up e * 1)
meaning (fin true m e) = ap (λ (a : ℕ). minus a (m * up e * 1)) (zero-mul (down e)) ∙ minus_zero m (up e) (up_pos e)
