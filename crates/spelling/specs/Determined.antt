-- A promise allows one length and one content of the area.
use Rattle.std.specs.Prelude.{ℕ, ◌*◌, ◌≤◌, ◌<◌, ◌≡◌, List, length}
use Rattle.std.proofs.Common.{sym, ◌∙◌, arith}
use Rattle.std.proofs.Math.Decide.{dec_lt}
use Rattle.spelling.specs.Spell.{SpeltInto}

pub spell_into_determined : (vs area y z : List ℕ) (r s : ℕ) → SpeltInto vs area y r → SpeltInto vs area z s → (y ≡ z) × (r ≡ s)
spell_into_determined vs area y z r s f g = go (dec_lt (length area) (length vs * 5))
  where
    go : Dec (length area < length vs * 5) → (y ≡ z) × (r ≡ s)
    go (yes h) = (f.left h ∙ sym (g.left h), f.less h ∙ sym (g.less h))
    go (no h) =
        let l : length vs * 5 ≤ length area = omega arith in
        (f.written l ∙ sym (g.written l), f.count l ∙ sym (g.count l))
