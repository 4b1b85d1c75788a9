-- Test 9 from the tests of its parts.
use Prim.Native.Nat.{ℕ, ◌+◌, ◌*◌, ◌≤◌, ◌<◌}
use mathlib.Core.Path.{◌≡◌, refl, ◌∙◌, ap}
use mathlib.Core.Bool.{Bool, true, ◌&&◌}
use mathlib.Core.List.{List}
use native.Mathlib.Nat.{one-mul, zero-mul, zero-add}
use native.Mathlib.Omega.{arith}
use lib.ListN.{length, get_or}
use Rattle.lemmas.specs.Tells.{Tells, Test, same, both}
use Rattle.lemmas.specs.Bools.{never, and_left, and_right}
use Rattle.paper.specs.declared.Task.{Task}
use Rattle.paper.specs.declared.Form.{Form}
use Rattle.paper.specs.declared.Form.TheVariants.{Sw, Wolff, Observe, Grow}
use Rattle.paper.specs.Panel.Takes.{is_gperm, one_cluster, flips_by, perms_by, greys_by, entries}
use Rattle.paper.specs.Refusal.Rules.{When, NotIdentity, Chosen}
use Rattle.paper.specs.Panel.Made.{choices_of}
use Rattle.laws.specs.Choices.{flips_taken, perms_taken, flips_bytes, perms_bytes}
use Rattle.tests.specs.Choices.{EveryCut, Long, AtMost, PermRows, RowMoves}

pub entries_few : (f : Form) (n : ℕ) → n ≤ 4096 → entries f n ≤ 4096
entries_few Sw n h = h
entries_few Wolff n h = omega arith
entries_few Observe n h = omega arith
entries_few Grow n h = omega arith

pub entries_one : (f : Form) (n : ℕ) → one_cluster f ≡ true → entries f n ≡ 1
entries_one Sw n e = never e
entries_one Wolff n e = refl
entries_one Observe n e = never e
entries_one Grow n e = refl

-- the bytes of a buffer are those of its n entries
module _ (xs : List ℕ) (n top : ℕ) (taken : Bool) (long : When taken (length xs ≡ n)) where
  pub entries_test : {b : Bool} → Test b (When taken (AtMost xs top)) → Test b (When taken ((r : ℕ) → r < n → get_or xs r 0 ≤ top))
  entries_test = same (When taken ((r : ℕ) → r < n → get_or xs r 0 ≤ top)) (λ w e r l. w e r (rw (long e) l)) (λ w e r l. w e r (rw (long e) at l))

-- the first of m's rows is the whole buffer, where it has one row
module _ (xs : List ℕ) (m : ℕ) (taken : Bool) (long : When taken (length xs ≡ m)) where
  cell : (k : ℕ) → 0 * m + k ≡ k
  cell k = rw (zero-mul, zero-add)

  first_row : When taken (RowMoves xs) → When taken (NotIdentity m (λ k. get_or xs (0 * m + k) 0))
  first_row w e = let i = w e in record { place = i.place; below = rw (long e) at i.below; moved = λ q. i.moved (rw (cell i.place) at q) }

  whole_row : When taken (NotIdentity m (λ k. get_or xs (0 * m + k) 0)) → When taken (RowMoves xs)
  whole_row w e = let i = w e in record { place = i.place; below = rw (long e) i.below; moved = λ q. i.moved (rw (cell i.place) q) }

  pub row_test : {b : Bool} → Test b (When taken (RowMoves xs)) → Test b (When taken (NotIdentity m (λ k. get_or xs (0 * m + k) 0)))
  row_test = same (When taken (NotIdentity m (λ k. get_or xs (0 * m + k) 0))) first_row whole_row

module _ (t : Task) (choices greys : List ℕ) (h : Long t choices greys) where
  abbrev by_flips : Bool
  by_flips = flips_by t.mode t.form

  abbrev by_perms : Bool
  by_perms = perms_by t.mode t.form

  abbrev by_greys : Bool
  by_greys = greys_by t.mode t.form

  pub one_grey : When (by_greys && one_cluster t.form) (1 ≤ length greys)
  one_grey e =
      let q = h.greys_long (and_left by_greys (one_cluster t.form) e) in
      let o = entries_one t.form t.n (and_right by_greys (one_cluster t.form) e) in
      omega arith

  flips_long : When by_flips (length choices ≡ t.n)
  flips_long e = h.choices_long (flips_taken t.mode t.form e) ∙ flips_bytes t.mode t.form t.n t.group.len e

  pub perms_long : When by_perms (length choices ≡ entries t.form t.n * t.group.len)
  perms_long e = h.choices_long (perms_taken t.mode t.form e) ∙ perms_bytes t.mode t.form t.n t.group.len e

  one_row : When (by_perms && one_cluster t.form) (length choices ≡ t.group.len)
  one_row e =
      let o = entries_one t.form t.n (and_right by_perms (one_cluster t.form) e) in
      perms_long (and_left by_perms (one_cluster t.form) e) ∙ (ap (λ (x : ℕ). x * t.group.len) o ∙ one-mul t.group.len)

  pub chosen_told : {a b e f i j : Bool}
      → Test a (When by_perms (PermRows (entries t.form t.n) t.group.len choices))
      → Test b (When (by_perms && one_cluster t.form) (RowMoves choices))
      → Test e (When by_flips (AtMost choices 1))
      → Test f (When by_greys (AtMost greys 3))
      → Test i (When (by_greys && one_cluster t.form) (1 ≤ get_or greys 0 0))
      → Test j (When (is_gperm t.mode) (t.reference < t.n))
      → EveryCut t (λ c. Tells (((((a && b) && e) && f) && i) && j) (Chosen c (choices_of choices greys)))
  chosen_told ta tb te tf ti tj cuts d s temperature fwd bwd pins couplings =
      (same (Chosen _ (choices_of choices greys))
      (λ w. let v = w.0.0.0 in record {
        perms = v.0.0;
        not_identity_lem = v.0.1;
        flips = v.1;
        greys = w.0.0.1;
        grey_some = w.0.1;
        reference = w.1;
      })
      (λ z. (((((z.perms, z.not_identity_lem), z.flips), z.greys), z.grey_some), z.reference))
      (both (both (both (both (both ta (row_test choices t.group.len (by_perms && one_cluster t.form) one_row tb))
      (entries_test choices t.n 1 by_flips flips_long te))
      (entries_test greys (entries t.form t.n) 3 by_greys h.greys_long tf)) ti) tj)
      ).says
