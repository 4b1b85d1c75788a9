-- `cuts_ok` meets its contract: after i turns the flag tells of the cuts below i.
use mathlib.Core.Path.{◌≡◌}
use mathlib.Core.Bool.{true}
use lib.Ieee.{nan}
use lib.ListN.{length, get_or}
use Rattle.lemmas.specs.Tells.{Flagged}
use Rattle.paper.specs.Refusal.Rules.{is_cut}
use Rattle.lattice.proofs.cuts_ok.Given as goal

abbrev pub invariant-loop-x : goal.invariant-loop-x
invariant-loop-x l = Flagged (length l.cuts) (λ k. is_cut (get_or l.cuts k nan) ≡ true) l.x-index l.ok
