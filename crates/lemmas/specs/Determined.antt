-- What each function here promises, it promises of one result.
use Rattle.std.specs.Prelude.{◌≡◌, ℕ, List}
use Rattle.std.proofs.Common.{sym, ◌∙◌, ext_get_or, arith}
use Rattle.lemmas.specs.Stores.{Cleared}

-- two results that equal one value are equal
pub one_value : {A : Type 0} {v a b : A} → a ≡ v → b ≡ v → a ≡ b
one_value p q = p ∙ sym q

pub wide_determined : (x a b : ℕ) → a ≡ x → b ≡ x → a ≡ b
wide_determined x a b = one_value

-- of bytes and of words
pub clear_determined : (n : ℕ) (ys zs : List ℕ) → Cleared n ys → Cleared n zs → ys ≡ zs
clear_determined n ys zs c e =
    ext_get_or 0 ys zs (c.long ∙ sym e.long) (λ k l. c.zeros k (omega (arith, c.long)) ∙ sym (e.zeros k (omega (arith, c.long))))
