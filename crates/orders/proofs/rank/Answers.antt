-- `rank` meets its contract: each count is small, so the sum fits.
use borrow.Author.Rules.{rules}
use Rattle.orders.specs.Rank.{rank}
use Rattle.orders.proofs.rank.Goals as goal

pub returns : goal.returns
unfolding rank
returns c = search rules
