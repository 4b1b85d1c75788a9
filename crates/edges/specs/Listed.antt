-- The list of a table: its nonzero couplings in the order of the bonds, each from its site to its forward neighbour.
use Rattle.std.specs.Prelude.{ℕ, zero, suc, ◌/◌, cond, List, [], ◌∷◌, ◌++◌, get_or, ℤ, pos}
use Rattle.lemmas.specs.Ints.{eq_z}
use Rattle.edge_text.specs.declared.Edge.{Edge}

-- bond b is one of site b / d
abbrev pub edge_at : ℕ → List ℕ → List ℤ → ℕ → Edge
edge_at d fwd js b = record { from = b / d; to = get_or fwd b 0; coupling = get_or js b (pos 0) }

abbrev pub entry_at : ℕ → List ℕ → List ℤ → ℕ → List Edge
entry_at d fwd js b = cond (eq_z (get_or js b (pos 0)) (pos 0)) [] (edge_at d fwd js b ∷ [])

-- of the bonds below m
unfoldable pub listed : ℕ → List ℕ → List ℤ → ℕ → List Edge
listed d fwd js zero = []
listed d fwd js (suc m) = listed d fwd js m ++ entry_at d fwd js m
