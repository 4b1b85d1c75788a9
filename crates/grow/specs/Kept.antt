-- The columns of the marked sites, kept by site: what holds of them while a cluster grows, and one site more.
use Rattle.std.specs.Prelude.{ℕ, ◌<◌, ◌≡◌, true, false, List, length, get_or, set, ℤ, Float}
use Rattle.std.proofs.Common.{sym, ap, ◌∙◌, arith, length-set}
use Rattle.lemmas.specs.Bools.{and_right}
use Rattle.lemmas.specs.Stores.{AfterSet, AfterSet.here, AfterSet.there, after_set, Cleared, cleared_all}
use Rattle.paper.specs.declared.Task.{Task}
use Rattle.paper.specs.Panel.Takes.{is_drawn}
use Rattle.column_rules.specs.Sight.{acts_at, column_acts_lem}
use Rattle.judge.specs.declared.Rule.{Rule}
use Rattle.judge.specs.Judged.{Ready, KnownToAct, column_acts, column_for}
use Rattle.judge.specs.Drawn.{judged_on}

-- in a mode that does not draw its bonds the site i acts
abbrev pub MemberActs : Task → List ℤ → ℕ → Type 0
MemberActs t xs i = is_drawn t.mode ≡ false → acts_at t.mode t.n t.group t.reference xs i ≡ true

-- each marked site has its column, and acts
pub record Kept (t : Task) (xs : List ℤ) (m cols : List ℕ) : Type 0 where
  pub long : length cols ≡ 4096
  pub at : (i : ℕ) → get_or m i 0 ≡ 1 → get_or cols i 0 ≡ column_for t xs i
  pub acts : (i : ℕ) → get_or m i 0 ≡ 1 → MemberActs t xs i

-- what a step of the growth leaves: the members, as P tells, and their columns
pub record Keeping (P : Type 0) (t : Task) (xs : List ℤ) (m cols : List ℕ) : Type 0 where
  pub grown : P
  pub kept : Kept t xs m cols

-- ---- a column and its site
module _ {r : Rule} {xs js : List ℤ} {cuts : List Float} (ready : Ready r xs js cuts) {i x : ℕ} (il : i < r.task.n) (is : x ≡ column_for r.task xs i) where
  pub known_to_act : MemberActs r.task xs i → KnownToAct r x
  known_to_act acts q = column_acts_lem ready.growable.panel il is ready.prepared.gauge ∙ acts q

  -- the other end of a bond that holds
  pub end_acts : (j e a : ℕ) → judged_on r js cuts j e a x ≡ true → MemberActs r.task xs i
  end_acts j e a on q =
      sym (column_acts_lem ready.growable.panel il is ready.prepared.gauge) ∙ and_right (column_acts r a) (column_acts r x) (rw q at on)

-- ---- one site more
module _ {t : Task} {xs : List ℤ} (m cols : List ℕ) (found column : ℕ) (inside : found < length m) (room : found < length cols) (long : length cols ≡ 4096)
    (is : column ≡ column_for t xs found) (acts : MemberActs t xs found)
  where
    kept_by :
        ((i : ℕ) → get_or m i 0 ≡ 1 → get_or cols i 0 ≡ column_for t xs i) → ((i : ℕ) → get_or m i 0 ≡ 1 → MemberActs t xs i)
        → Kept t xs (set m found 1) (set cols found column)
    kept_by others does = record {
      long = simp length-set long;
      at = λ i e. at i e (after_set m found 1 i inside) (after_set cols found column i room);
      acts = λ i e. acting i e (after_set m found 1 i inside);
    }
      where
        at : (i : ℕ) → get_or (set m found 1) i 0 ≡ 1 → AfterSet m found 1 i → AfterSet cols found column i → get_or (set cols found column) i 0 ≡ column_for t xs i
        at i e w (here q g) = g ∙ (is ∙ ap (column_for t xs) (sym q))
        at i e (here p f) (there q g) = absurd (q p)
        at i e (there p f) (there q g) = g ∙ others i (sym f ∙ e)

        acting : (i : ℕ) → get_or (set m found 1) i 0 ≡ 1 → AfterSet m found 1 i → MemberActs t xs i
        acting i e (here p f) = rw p acts
        acting i e (there p f) = does i (sym f ∙ e)

    pub kept_more : Kept t xs m cols → Kept t xs (set m found 1) (set cols found column)
    kept_more k = kept_by k.at k.acts

    -- and the first of all
    pub kept_first : {n : ℕ} → Cleared n m → Kept t xs (set m found 1) (set cols found column)
    kept_first h = kept_by (λ i e. absurd (omega (arith, e, cleared_all h i))) (λ i e. absurd (omega (arith, e, cleared_all h i)))
