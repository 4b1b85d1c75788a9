-- What it is that what is written plays: a move on lent outputs of exact lengths, which is accepted and leaves the spins after.
use Rattle.std.specs.Prelude.{ℕ, ◌+◌, ◌≡◌, List, length, ℤ}
use Rattle.paper.specs.Answer.Cases.{Answer}
use Rattle.paper.specs.Panel.Input.{Buffers}
use Rattle.paper.specs.Answer.Move.{Accepted}

-- the lent outputs have their exact lengths
pub record Outputs (n : ℕ) (b : Buffers) : Type 0 where
  pub labels : length b.labels ≡ n
  pub counts : length b.counts ≡ n + 1
  pub sizes : length b.sizes ≡ 4
  pub found : length b.found ≡ 1

-- the move is accepted and leaves the spins ys
pub record Played (a : Answer) (b' : Buffers) (ys : List ℤ) : Type 0 where
  pub accepted : Accepted a
  pub spins : b'.spins ≡ ys
