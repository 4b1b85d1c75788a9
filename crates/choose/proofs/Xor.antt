-- The exclusive or of a column of two systems and a grey number flips the spins that the number's bits name.
use Prim.Native.Nat.{ℕ, zero, suc, ◌<◌}
use mathlib.Core.Path.{◌≡◌, refl}
use native.Mathlib.Omega.{arith}
use lib.Bits.{bit_xor}
use Rattle.columns.specs.Column.{code}
use Rattle.choose.specs.Chosen.{greyed}

-- a claim on each number below four is four claims
four : (P : ℕ → Type 0) → P 0 → P 1 → P 2 → P 3 → (x : ℕ) → x < 4 → P x
four P a b c d zero h = a
four P a b c d (suc zero) h = b
four P a b c d (suc (suc zero)) h = c
four P a b c d (suc (suc (suc zero))) h = d
four P a b c d (suc (suc (suc (suc x)))) h = absurd (omega arith)

abbrev Right : ℕ → ℕ → Type 0
Right grey column = bit_xor column grey ≡ greyed grey column

pub xor_flips : (grey column : ℕ) → grey < 4 → column < 4 → Right grey column
unfolding code
xor_flips grey column hg hc =
    four (λ g. Right g column)
    (four (Right 0) refl refl refl refl column hc)
    (four (Right 1) refl refl refl refl column hc)
    (four (Right 2) refl refl refl refl column hc)
    (four (Right 3) refl refl refl refl column hc)
    grey
    hg
