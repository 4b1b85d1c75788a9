-- Tests 8, 9 and 10 of a task, as the functions are handed them.
use Rattle.std.specs.Prelude.{ℕ, zero, suc, ◌+◌, ◌*◌, ◌^◌, ◌≤◌, ◌<◌, ◌≡◌, refl, Bool, List, [], ◌∷◌, length, get_or, ℤ, Float}
use Rattle.std.proofs.Common.{arith, mul-le-mul_right, suc-mul}
use Rattle.paper.specs.declared.Group.{Group}
use Rattle.paper.specs.declared.Task.{Task}
use Rattle.paper.specs.Panel.Input.{Call, Choices, member, pattern_of}
use Rattle.paper.specs.Panel.Made.{call_of}
use Rattle.paper.specs.Panel.Takes.{is_gperm, choices_by, greys_by, takes_cuts, entries, choice_bytes}
use Rattle.paper.specs.Refusal.Rule.{Rule, rule}
use Rattle.paper.specs.Refusal.Rules.{When, group_names, Named, Spins, Listed, Cuts, Permutes, NotIdentity, Chosen, Seeded, choice_rules}
use Rattle.paper.specs.Refusal.Kept.{named}
use Rattle.paper.specs.Refusal.Verdict.{Verdict, broken_first}
use Rattle.columns.specs.Column.{Inside, Spinning, Columns}
use Rattle.column_rules.specs.Sight.{Sighted}

-- what tests 1 to 5 established and these lean on: ranges, the group's rows of spins, the lengths of the choices that are taken
pub record Tested (t : Task) (xs : List ℤ) (choices greys : List ℕ) : Type 0 where
  pub n_low : 1 ≤ t.n
  pub n_high : t.n ≤ 4096
  pub size_low : 2 ≤ t.group.len
  pub size_high : t.group.len ≤ 8
  pub inside : Inside t.n t.group xs
  pub spins : Spinning t.n t.group xs
  pub choices_long : When (choices_by t.mode t.form) (length choices ≡ choice_bytes t.mode t.form t.n t.group.len)
  pub greys_long : When (greys_by t.mode t.form) (length greys ≡ entries t.form t.n)

-- the rows of a group's systems lie within those of all s, and hold spins
module _ (n s : ℕ) (g : Group) (xs : List ℤ) (long : length xs ≡ s * n) (listed : Listed s (group_names g)) where
  pub rows_inside : Inside n g xs
  rows_inside k h = let l : suc (member g k) ≤ s = listed.below k h in omega (arith, long, mul-le-mul_right n l, suc-mul (member g k) n)

  pub rows_spins : Spins n (Named s (group_names g)) xs → Spinning n g xs
  rows_spins spins i k hi hk = spins (member g k) i (named k hk listed) hi

-- the task on a panel of other directions, systems and temperature
abbrev pub elsewhere : Task → ℕ → ℕ → Float → Task
elsewhere t d s temperature = record {
  mode = t.mode;
  form = t.form;
  keeps = t.keeps;
  n = t.n;
  d = d;
  s = s;
  group = t.group;
  temperature = temperature;
  reference = t.reference;
  seed = t.seed;
}

-- of every call of the task with these cuts: the tests look at no table, pin or coupling, and not at the panel's other numbers
abbrev pub EveryCall : Task → List Float → (Call → Type 0) → Type 0
EveryCall t cuts P =
    (d s : ℕ) (temperature : Float) (fwd bwd pins : List ℕ) (couplings : List ℤ) → P (call_of (elsewhere t d s temperature) fwd bwd pins couplings cuts)

-- and 9 and 10 at no cut
abbrev pub EveryCut : Task → (Call → Type 0) → Type 0
EveryCut t P = (cuts : List Float) → EveryCall t cuts P

-- ---- the choices: what 8 and 9 lean on
pub record Long (t : Task) (choices greys : List ℕ) : Type 0 where
  pub n_high : t.n ≤ 4096
  pub size_high : t.group.len ≤ 8
  pub choices_long : When (choices_by t.mode t.form) (length choices ≡ choice_bytes t.mode t.form t.n t.group.len)
  pub greys_long : When (greys_by t.mode t.form) (length greys ≡ entries t.form t.n)

-- 8 and 9, which look at no spin, and 10: one list after the other they are the paper's
abbrev pub chosen_rules : Call → Choices → List Rule
chosen_rules c p = rule 8 (When (takes_cuts c) (Cuts c.cuts)) ∷ rule 9 (Chosen c p) ∷ []

abbrev pub seed_rules : Call → List ℤ → List Rule
seed_rules c xs = rule 10 (Seeded c xs) ∷ []

-- where 8 or 9 is broken, 10 is not asked
pub chosen_broken : (t : Task) (cuts : List Float) (p : Choices) (xs : List ℤ) (r : ℕ) → (r ≡ 0 → ⊥) → EveryCall t cuts (λ c. Verdict (chosen_rules c p) r)
    → EveryCall t cuts (λ c. Verdict (choice_rules c p xs) r)
chosen_broken t cuts p xs zero ne v d s temperature fwd bwd pins couplings = absurd (ne refl)
chosen_broken t cuts p xs (suc r) ne v d s temperature fwd bwd pins couplings =
    broken_first (chosen_rules _ p) (seed_rules _ xs) (suc r) (v d s temperature fwd bwd pins couplings)

-- what is tested of a buffer: each byte at most `top`; rows of m bytes, each a permutation; one row that is not the identity
abbrev pub AtMost : List ℕ → ℕ → Type 0
AtMost xs top = (k : ℕ) → k < length xs → get_or xs k 0 ≤ top

abbrev pub PermRows : ℕ → ℕ → List ℕ → Type 0
PermRows rows m perms = (r : ℕ) → r < rows → Permutes m (λ k. get_or perms (r * m + k) 0)

abbrev pub RowMoves : List ℕ → Type 0
RowMoves row = NotIdentity (length row) (λ k. get_or row k 0)

-- permutations of m in rows, where they are taken
pub record Permuted (taken : Bool) (rows m : ℕ) (perms : List ℕ) : Type 0 where
  pub few : rows ≤ 4096
  pub size_high : m ≤ 8
  pub long : When taken (length perms ≡ rows * m)

-- ---- the seed
abbrev pub Seeing : Task → List ℤ → Type 0
Seeing t xs = Sighted t.mode t.n t.group t.reference xs

-- on columns: one of the group's size for each site, and a reference site where one is taken
pub record SeeingColumns (t : Task) (cols : List ℕ) : Type 0 where
  pub n_high : t.n ≤ 4096
  pub size_low : 1 ≤ t.group.len
  pub size_high : t.group.len ≤ 8
  pub long : length cols ≡ t.n
  pub narrow : (i : ℕ) → i < t.n → get_or cols i 0 < 2 ^ t.group.len
  pub reference : When (is_gperm t.mode) (t.reference < t.n)

-- of all rows of spins that these are the group's columns of
abbrev pub EveryRows : Task → List ℕ → (List ℤ → Type 0) → Type 0
EveryRows t cols P = (xs : List ℤ) → Seeing t xs → Columns t.n t.group.len (pattern_of t.n t.group xs) cols → P xs
