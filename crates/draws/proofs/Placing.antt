-- Rows written one after another into a table.
use Rattle.std.proofs.Common.{◌≡◌, ℕ, ◌+◌, ◌-◌, ◌*◌, ◌/◌, ◌%◌, ◌<◌, ◌≤◌, Bool, true, false, List, get_or, ap, ◌∙◌, subst, suc-mul, div-add-mod', add-one, arith, eqb-true}
use native.Mathlib.Nat.{mod_self}
use native.Mathlib.Decide.{dec_lt}
use Rattle.draws.specs.Fill.{row_length_fits}
use Rattle.draws.specs.Writing.{RowPut}
use Rattle.draws.proofs.Filling.{Filled}

pub rows_more :
    {at : ℕ → ℕ} (i : ℕ) {n m : ℕ} {row ys zs : List ℕ} → Filled at (i * n) m ys → RowPut n (i * n) row ys zs → i * n + n ≤ m
    → ((k : ℕ) → k < n → get_or row k 0 ≡ at (i * n + k)) → Filled at ((i + 1) * n) m zs
rows_more {at} i {n} {m} {row} {ys} {zs} h p l e = record { low = rw rows l; long = p.long ∙ h.long; each = λ j q. go j (rw rows at q) (dec_lt j (i * n)) }
  where
    rows : (i + 1) * n ≡ i * n + n
    rows = rw add-one (suc-mul i n)

    go : (j : ℕ) → j < i * n + n → Dec (j < i * n) → get_or zs j 0 ≡ at j
    go j q (yes b) = p.before j b ∙ h.each j b
    go j q (no b) =
        let k = j - i * n in
        let f : i * n + k ≡ j = omega arith in
        subst (λ (x : ℕ). get_or zs x 0 ≡ at x) f (p.here k (omega arith) ∙ e k (omega arith))

whole : (n len : ℕ) → len % n ≡ 0 → len ≡ len / n * n
whole n len e = omega (arith, div-add-mod' len n)

pub fits_whole : (single : Bool) (n len : ℕ) → row_length_fits single n len ≡ true → len ≡ len / n * n
fits_whole true n len e = whole n len (ap (λ (x : ℕ). x % n) (eqb-true len n e) ∙ mod_self n)
fits_whole false n len e = whole n len (eqb-true (len % n) 0 e)
