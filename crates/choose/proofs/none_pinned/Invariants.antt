-- `choose::none_pinned` meets its contract: after i turns the flag tells of the pins below i.
use mathlib.Core.Path.{◌≡◌}
use lib.ListN.{length, get_or}
use Rattle.lemmas.specs.Tells.{Flagged}
use Rattle.choose.proofs.none_pinned.Given as goal

abbrev pub invariant-loop-pin : goal.invariant-loop-pin
invariant-loop-pin l = Flagged (length l.pins) (λ k. get_or l.pins k 0 ≡ 1 → ⊥) l.pin-index l.none
