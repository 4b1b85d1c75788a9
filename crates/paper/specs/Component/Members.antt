-- The sites of one component.
use Rattle.std.specs.Prelude.{ℕ, ◌≤◌, ◌<◌, ◌≡◌, Bool, List, length, get_or}
use Rattle.paper.specs.Panel.Input.{Graph}
use Rattle.paper.specs.Component.Labels.{Joined}

-- a byte for each site, 1 exactly at those that the seed is joined to, and else 0
pub record Members (t : Graph) (holding : ℕ → ℕ → Bool) (seed : ℕ) (members : List ℕ) : Type 0 where
  pub long : length members ≡ t.n
  pub byte : (i : ℕ) → i < t.n → get_or members i 0 ≤ 1
  pub joined : (i : ℕ) → i < t.n → get_or members i 0 ≡ 1 → Joined t holding seed i
  pub marked : (i : ℕ) → i < t.n → Joined t holding seed i → get_or members i 0 ≡ 1
