-- `owners::read_group` meets its contract.
use Prim.Native.Nat.{ℕ}
use mathlib.Core.Path.{◌≡◌}
use mathlib.Core.List.{[], ◌∷◌}
use Rattle.lemmas.specs.Cells.{table}
use Rattle.paper.specs.declared.Group.{Group}
use Rattle.systems.specs.Owners.{team_of, read_at}
use Rattle.systems.proofs.owners.read_group.Goals as goal

-- eight numbers in a row
same-eight : {a b c d e f g h : ℕ} (t : ℕ → ℕ) (m : ℕ)
    → a ≡ t 0 → b ≡ t 1 → c ≡ t 2 → d ≡ t 3 → e ≡ t 4 → f ≡ t 5 → g ≡ t 6 → h ≡ t 7
    → ◌≡◌ {A = Group} (record { len = m; systems = a ∷ b ∷ c ∷ d ∷ e ∷ f ∷ g ∷ h ∷ [] }) (record { len = m; systems = table 8 t })
unfolding table
same-eight t m a b c d e f g h = cc (a, b, c, d, e, f, g, h)

pub returns : goal.returns
returns c = let a = c.args in
    same-eight (read_at (team_of a.team a.owners.now) a.s a.group) a.group.len c.read_at.ensures c.read_at-2.ensures
    c.read_at-3.ensures c.read_at-4.ensures c.read_at-5.ensures c.read_at-6.ensures c.read_at-7.ensures c.read_at-8.ensures
