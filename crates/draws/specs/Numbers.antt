-- Laws of what is drawn: a word is below 2^64, a coin is 0 or 1, and a number is below m.
use Rattle.std.specs.Prelude.{ℕ, zero, suc, ◌*◌, ◌%◌, ◌^◌, ◌<◌, ◌≤◌, Bool, true, false, cond, nat_lt}
use Rattle.std.proofs.Common.{arith, mod-lt}
use Rattle.draws.specs.declared.Source.{Source}
use Rattle.draws.specs.Words.{rotl, word, next, drawn}
use Rattle.draws.specs.Draw.{flipped, high, limit, tried}

-- also of a refusal, whose value is 0
pub tried_below : (lent : Source) (k m : ℕ) (s : Source) → 1 ≤ m → (tried lent k m s).value < m
unfolding tried
tried_below lent zero m s p = p
tried_below lent (suc k) m s p = side (nat_lt (high (word s)) (limit m)) (tried_below lent k m (next s) p)
  where
    side : (b : Bool) → (tried lent k m (next s)).value < m → (cond b (drawn 0 (high (word s) % m) (next s)) (tried lent k m (next s))).value < m
    side true h = mod-lt (high (word s)) p
    side false h = h

pub word_below : (s : Source) → word s < 2 ^ 64
word_below s = mod-lt (rotl (s.s1 * 5 % 2 ^ 64) 7 * 9) (omega arith)

pub flipped_below : (s : Source) → (flipped s).value < 2
flipped_below s = omega (arith, word_below s)
