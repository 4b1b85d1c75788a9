-- For a group of distinct systems the moved spins exist, whatever the labels: `Moves` asks for nothing contradictory.
use Rattle.std.specs.Prelude.{ℕ, ◌+◌, ◌*◌, ◌/◌, ◌%◌, ◌<◌, ◌≤◌, ◌≡◌, ◌⊎◌, List, length, get_or, ℤ, pos}
use Rattle.std.proofs.Math.Path.{refl, ap}
use Rattle.std.proofs.Common.{sym, ◌∙◌, inl, inr, arith}
use Rattle.std.proofs.Math.Decide.{dec_lt}
use Rattle.std.proofs.Math.ListN.{get_or-eq_default}
use Rattle.lemmas.specs.Places.{Placed, Unplaced, place}
use Rattle.lemmas.specs.Cells.{row_of, column_of_lem, cell_lt, tabulate, length_tabulate, tabulate_at}
use Rattle.paper.specs.Panel.Input.{Call, Choices, Pattern, pattern, spin, size, system}
use Rattle.paper.specs.Move.Moving.{final, Moves}
use Rattle.paper.specs.Refusal.Rules.{Grouped}
use Rattle.laws.specs.Unique.{Outside, GroupIs, OthersOf}

-- f k where t has the place k, else x
abbrev pub written : {m : ℕ} {g : ℕ → ℕ} {t : ℕ} → Placed m g t ⊎ Unplaced m g t → (ℕ → ℤ) → ℤ → ℤ
written (inl r) f x = f r.0
written (inr r) f x = x

-- the new spin at the cell x of system t and site i, where the group's patterns are to be `new`
unfoldable pub cell_of : Call → List ℤ → (ℕ → Pattern) → ℕ → ℕ → ℕ → ℤ
cell_of c xs new t i x = written (place (size c) (system c) t) (new i) (get_or xs x (pos 0))

unfoldable pub write : Call → List ℤ → (ℕ → Pattern) → List ℤ
write c xs new = tabulate (length xs) (λ x. cell_of c xs new (x / c.lattice.n) (x % c.lattice.n) x)

module _ (c : Call) (xs : List ℤ) (new : ℕ → Pattern) where
  cell :
      (t i : ℕ)
      → i < c.lattice.n
      → t * c.lattice.n + i < length xs
      → spin c.lattice.n (write c xs new) t i ≡ cell_of c xs new t i (t * c.lattice.n + i)
  unfolding write
  cell t i hi h =
      tabulate_at (length xs) (λ x. cell_of c xs new (x / c.lattice.n) (x % c.lattice.n) x) (t * c.lattice.n + i) h
      ∙ cc (row_of c.lattice.n t i hi, column_of_lem c.lattice.n t i hi)

  group_written : Grouped c.lattice.s c.group → length xs ≡ c.lattice.s * c.lattice.n → GroupIs c (write c xs new) new
  unfolding cell_of
  group_written g sized i k hi hk =
      cell (system c k) i hi (rw sized (cell_lt c.lattice.s c.lattice.n (system c k) i (g.below k hk) hi))
      ∙ at (place (size c) (system c) (system c k))
    where
      at : (q : Placed (size c) (system c) (system c k) ⊎ Outside c (system c k)) → written q (new i) (pattern c xs i k) ≡ new i k
      at (inl q) = ap (new i) (sym (g.distinct k q.0 hk q.1 q.2))
      at (inr q) = absurd (q k hk refl)

  others_written : OthersOf c xs (write c xs new)
  unfolding write cell_of
  others_written i t hi out = go (dec_lt (t * c.lattice.n + i) (length xs))
    where
      at : (q : Placed (size c) (system c) t ⊎ Outside c t) → written q (new i) (spin c.lattice.n xs t i) ≡ spin c.lattice.n xs t i
      at (inl q) = absurd (out q.0 q.1 q.2)
      at (inr q) = refl

      go : Dec (t * c.lattice.n + i < length xs) → spin c.lattice.n (write c xs new) t i ≡ spin c.lattice.n xs t i
      go (yes h) = cell t i hi h ∙ at (place (size c) (system c) t)
      go (no h) =
          let far : length xs ≤ t * c.lattice.n + i = omega arith in
          let long = length_tabulate (length xs) (λ x. cell_of c xs new (x / c.lattice.n) (x % c.lattice.n) x) in
          get_or-eq_default (write c xs new) (pos 0) (omega (arith, long)) ∙ sym (get_or-eq_default xs (pos 0) far)

pub moves_exist :
    (c : Call) (p : Choices) (xs : List ℤ) (l g : List ℕ)
    → Grouped c.lattice.s c.group
    → length xs ≡ c.lattice.s * c.lattice.n
    → Moves c p xs l g (write c xs (final c p xs l g))
unfolding write
moves_exist c p xs l g grouped sized = record {
  long = length_tabulate (length xs) _;
  group = group_written c xs (final c p xs l g) grouped sized;
  others = others_written c xs (final c p xs l g);
}
