-- The answers: what each test adds, which rule its failure breaks, and what the functions on columns ask and wrote.
use Prim.Native.Nat.{ℕ, suc, ◌+◌, ◌-◌, ◌/◌, ◌^◌, ◌≤◌, ◌<◌}
use mathlib.Core.Path.{◌≡◌, refl, ◌∙◌, ap, subst}
use mathlib.Core.Bool.{Bool}
use mathlib.Core.List.{List}
use native.Mathlib.Omega.{arith}
use lib.ListN.{length, get_or}
use lib.IntN.{ℤ}
use lib.Pow.{ones_split, ones_lt, le_ones, lt_of_le_ones, high}
use Rattle.lemmas.specs.Tells.{Tells, said, same}
use Rattle.paper.specs.declared.Group.{Group}
use Rattle.paper.specs.Panel.Input.{pattern_of}
use Rattle.paper.specs.Refusal.Rule.{Rule, Kept, Broken}
use Rattle.paper.specs.Refusal.Rules.{AllSystems, Spins}
use Rattle.columns.specs.Column.{Columns}
use Rattle.columns.specs.Rows.{Packable, Writable, Written}
use Rattle.packing.specs.Bytes.{Narrow, own_group}
use Rattle.packing.proofs.Laws.{own_grouped, own_inside, columns_bytes, written_rows}
use Rattle.packing.specs.Answer.{Members, Sized, Exact, Answers, PackAnswers, UnpackAnswers}

-- refused
pub stopped : {A : Type 0} {rules : List Rule} {new before : List A} (c : ℕ) → Broken rules (suc c) → Answers rules new before (suc c) before
stopped c b = record { verdict = b; written = λ e. absurd (omega arith); kept = λ e. refl }

-- and not
pub went : {A : Type 0} {rules : List Rule} {new before after : List A} → Kept rules → after ≡ new → Answers rules new before 0 after
went k e = record { verdict = k; written = λ o. e; kept = λ o. absurd (o refl) }

-- ---- the largest byte of a group
pub top_is : (m : ℕ) → Members m → 255 / 2 ^ (8 - m) ≡ 2 ^ m - 1
top_is m few =
    let e : 8 ≡ m + (8 - m) = omega arith in
    ap (λ (x : ℕ). (2 ^ x - 1) / 2 ^ (8 - m)) e ∙ (ap (λ (x : ℕ). x / 2 ^ (8 - m)) (ones_split m (8 - m)) ∙ high (2 ^ m - 1) (8 - m) (ones_lt (8 - m)))

-- no byte is above it just if none has a bit too many
pub narrow_tells :
    (r : Bool) (m top : ℕ) (xs : List ℕ) → top ≡ 2 ^ m - 1 → Tells r ((k : ℕ) → k < length xs → get_or xs k 0 ≤ top) → Tells r (Narrow m xs)
narrow_tells r m top xs e t =
    (same (Narrow m xs) (λ h i l. lt_of_le_ones m (rw e at (h i l))) (λ h i l. rw e (le_ones m (h i l)))
    (said r ((k : ℕ) → k < length xs → get_or xs k 0 ≤ top) t)).says

-- ---- the work, past the tests
module _ (n m : ℕ) (rows : List ℤ) (columns : List ℕ) (s : Sized n m) (x : Exact n m (length rows) (length columns)) where
  module _ {g : Group} (own : g ≡ own_group m) where
    pub packable : Packable n g rows columns
    packable = rw own (record {
      sites = s.n_high;
      few = s.members.high;
      inside = own_inside m s.members.high n rows x.rows_long;
      long = x.columns_long;
    })

    pub writable : Writable n g rows columns
    writable = rw own (record {
      sites = s.n_high;
      few = s.members.high;
      inside = own_inside m s.members.high n rows x.rows_long;
      distinct = (own_grouped m s.members.high).distinct;
      long = x.columns_long;
    })

    pub packed : {ys : List ℕ} → Spins n (AllSystems m) rows → Columns n g.len (pattern_of n g rows) ys → PackAnswers n m rows columns 0 ys
    packed {ys} h c =
        went (s, (x, (h, tt)))
        (columns_bytes m s.members.high n rows ys (subst (λ (g : Group). Columns n g.len (pattern_of n g rows) ys) own c))

    pub unpacked : {ys : List ℤ} → Narrow m columns → Written n g.len g columns rows ys → UnpackAnswers n m columns rows 0 ys
    unpacked {ys} h w =
        went (s, (x, (h, tt)))
        (written_rows m s.members.high n columns x.columns_long h rows x.rows_long ys
        (subst (λ (g : Group). Written n g.len g columns rows ys) own w))
