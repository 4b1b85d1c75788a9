-- `frame::panel::perm_move` meets its contract: it is the library's move, with the table that was worked out.
use Prim.Native.Nat.{ℕ, ◌≤◌}
use mathlib.Core.Path.{◌≡◌, ◌∙◌}
use lib.Ieee.{of_int, of_bits}
use lib.ListN.{take, replicate, length-replicate}
use Rattle.paper.specs.Answer.Cases.{answer_of}
use Rattle.laws.specs.KeepsPlain.{keeps_none}
use Rattle.lemmas.specs.Cells.{table}
use Rattle.frame.specs.Back.{reversed_of}
use Rattle.frame.specs.Run.{made, zeros_part}
use Rattle.frame.proofs.panel.perm_move.Goals as goal

-- the pins that are lent
none-pinned : (n : ℕ) → n ≤ 4096 → take n (replicate 4096 0) ≡ table n (λ k. 0)
none-pinned n h = zeros_part n (replicate 4096 0) (rw length-replicate h) (made 4096)

pub returns : goal.returns
unfolding of_int of_bits
returns c = record {
  long = c.backward.auto.bwd ∙ c.requires.bwd_long;
  reversed = reversed_of _ _ _ c.backward.result _ c.backward.ensures;
  grey = _;
  members = _;
  found = _;
  grey_found = _;
  answers = rw (none-pinned c.args.n c.requires.n_high) at (keeps_none _ _ _ _ (answer_of c.overlap_step.result) _ _ c.overlap_step.ensures).answers;
}
