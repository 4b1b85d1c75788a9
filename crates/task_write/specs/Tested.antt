-- The tests of the step that writes: their rules by the numbers that they are handed.
use Rattle.std.specs.Prelude.{ℕ, zero, suc, ◌-◌, ◌*◌, ◌^◌, ◌≤◌, ◌<◌, ◌≡◌, refl, Bool, true, List, [], ◌∷◌, length, get_or}
use Rattle.std.proofs.Common.{subst, sym, inl, inr, arith, eqb-true, eq-eqb, pow_pos}
use Rattle.lemmas.specs.Tells.{Tells, said, same}
use Rattle.paper.specs.declared.Task.{Task}
use Rattle.paper.specs.declared.Form.{Form}
use Rattle.paper.specs.Panel.Takes.{grows_by, labels_by, keeps_by}
use Rattle.paper.specs.Refusal.Rule.{Rule, rule}
use Rattle.paper.specs.Refusal.Rules.{When, Ranged, HoudOfTwo, group_names, Named, Spins, Inverse, SmallCouplings}
use Rattle.paper.specs.Refusal.Verdict.{Verdict, broken_first}
use Rattle.paper.specs.Answer.Totals.{SmallTotals}
use Rattle.task_steps.specs.Choose.{has_column}
use Rattle.task_steps.specs.Write.{Shape, Writing, WriteExact, Columned, write_rules}

-- ---- 1, 15 and 2

-- the exact lengths, as numbers
pub record Measured (keeping grows : Bool) (n d s rows members area fwd bwd couplings totals : ℕ) : Type 0 where
  pub rows_is : rows ≡ s * n
  pub members_is : When grows (members ≡ n)
  pub area_is : area ≡ n
  pub fwd_is : When keeping (fwd ≡ n * d)
  pub bwd_is : When keeping (bwd ≡ n * d)
  pub couplings_is : When keeping (couplings ≡ n * d)
  pub totals_is : When keeping (totals ≡ s)

abbrev pub measure_rules : Task → ℕ → ℕ → ℕ → ℕ → ℕ → ℕ → ℕ → List Rule
measure_rules t rows members area fwd bwd couplings totals =
    rule 1 (Ranged t.n t.d t.s t.mode t.group.len)
    ∷ rule 15 (HoudOfTwo t.mode t.form t.group.len)
    ∷ rule 2 (Measured (keeps_by t.keeps t.form) (grows_by t.form) t.n t.d t.s rows members area fwd bwd couplings totals)
    ∷ []

abbrev pub head_rules : Bool → Shape → Writing → List Rule
head_rules keeping h l =
    rule 1 (Ranged h.lattice.n h.lattice.d h.lattice.s h.mode h.group.len)
    ∷ rule 15 (HoudOfTwo h.mode h.form h.group.len)
    ∷ rule 2 (WriteExact keeping h l)
    ∷ []

-- all that is asked after them
abbrev pub tail_rules : Bool → Shape → Writing → List Rule
tail_rules keeping h l =
    rule 3 (Spins h.lattice.n (Named h.lattice.s (group_names h.group)) l.rows)
    ∷ rule 3 (Columned h l)
    ∷ rule 4 (When keeping (Inverse h.lattice.n h.lattice.d h.lattice.fwd h.lattice.bwd))
    ∷ rule 6 (When keeping (SmallCouplings h.lattice.couplings))
    ∷ rule 9 (When (grows_by h.form) ((i : ℕ) → i < h.lattice.n → get_or l.members i 0 ≤ 1))
    ∷ rule 14 (When keeping (SmallTotals (Named h.lattice.s (group_names h.group)) l.totals))
    ∷ []

-- of the lists that have these lengths
module _ (keeping : Bool) (h : Shape) (l : Writing) where
  abbrev pub MeasuredOf : Type 0
  MeasuredOf =
      let g = h.lattice in
      Measured keeping (grows_by h.form) g.n g.d g.s (length l.rows) (length l.members) (length l.area) (length g.fwd) (length g.bwd)
      (length g.couplings) (length l.totals)

  pub exact_of : MeasuredOf → WriteExact keeping h l
  exact_of m = record {
    rows = m.rows_is;
    members = m.members_is;
    area = m.area_is;
    fwd = m.fwd_is;
    bwd = m.bwd_is;
    totals = λ e. record { couplings = m.couplings_is e; totals = m.totals_is e };
  }

  pub measured_of : WriteExact keeping h l → MeasuredOf
  measured_of w = record {
    rows_is = w.rows;
    members_is = w.members;
    area_is = w.area;
    fwd_is = w.fwd;
    bwd_is = w.bwd;
    couplings_is = λ e. (w.totals e).couplings;
    totals_is = λ e. (w.totals e).totals;
  }

  abbrev MeasuredRules : List Rule
  MeasuredRules =
      rule 1 (Ranged h.lattice.n h.lattice.d h.lattice.s h.mode h.group.len)
      ∷ rule 15 (HoudOfTwo h.mode h.form h.group.len)
      ∷ rule 2 MeasuredOf
      ∷ []

  pub head_of : (r : ℕ) → Verdict MeasuredRules r → Verdict (head_rules keeping h l) r
  head_of zero k = (k.0, (k.1.0, (exact_of k.1.1.0, tt)))
  head_of (suc r) (inl w) = inl w
  head_of (suc r) (inr (a, inl w)) = inr (a, inl w)
  head_of (suc r) (inr (a, inr (b, inl w))) = inr (a, inr (b, inl ((λ f. w.0 (measured_of f)), w.1)))
  head_of (suc r) (inr (a, inr (b, inr w))) = absurd w.1

  -- one of them that fails is the first of all
  pub head_broken : (r : ℕ) → (r ≡ 0 → ⊥) → Verdict (head_rules keeping h l) r → Verdict (write_rules keeping h l) r
  head_broken zero e v = absurd (e refl)
  head_broken (suc r) e v = broken_first (head_rules keeping h l) (tail_rules keeping h l) (suc r) v

-- ---- 3, of the area

pub record AreaLent (t : Task) (members area : List ℕ) : Type 0 where
  pub size_low : 2 ≤ t.group.len
  pub size_high : t.group.len ≤ 8
  pub area_long : length area ≡ t.n
  pub members_long : When (grows_by t.form) (length members ≡ t.n)

module _ (form : Form) (n m top : ℕ) (members area : List ℕ) (long : length area ≡ n) (is : top ≡ 2 ^ m - 1) where
  abbrev Narrowed : Type 0
  Narrowed = (i : ℕ) → i < n → has_column form members i ≡ true → get_or area i 0 < 2 ^ m

  -- every site has a column
  pub all_tell : (r : Bool) → labels_by form ≡ true → Tells r ((k : ℕ) → k < length area → get_or area k 0 ≤ top) → Tells r Narrowed
  all_tell r on h =
      (same Narrowed
      (λ f i l _. omega (arith, f i (omega (arith, l, long)), is, pow_pos m))
      (λ f k l. omega (arith, f k (omega (arith, l, long)) (rw on refl), is))
      (said r _ h)).says

  -- the members have
  pub marked_tell :
      (r : Bool) → grows_by form ≡ true → Tells r ((k : ℕ) → k < length area → get_or members k 0 ≡ 1 → get_or area k 0 ≤ top) → Tells r Narrowed
  marked_tell r on h =
      (same Narrowed
      (λ f i l c. omega (arith, f i (omega (arith, l, long)) (eqb-true _ _ (rw on at c)), is, pow_pos m))
      (λ f k l e. omega (arith, f k (omega (arith, l, long)) (rw (on, eq-eqb _ _ e) refl), is))
      (said r _ h)).says

-- ---- 9

pub marks_tell :
    (grows : Bool) (n : ℕ) (members : List ℕ) → When grows (length members ≡ n) → (r : Bool)
    → Tells r (When grows ((k : ℕ) → k < length members → get_or members k 0 ≤ 1)) → Tells r (When grows ((k : ℕ) → k < n → get_or members k 0 ≤ 1))
marks_tell grows n members long r h =
    (same (When grows ((k : ℕ) → k < n → get_or members k 0 ≤ 1))
    (λ f e k l. f e k (subst (λ (x : ℕ). k < x) (sym (long e)) l))
    (λ f e k l. f e k (subst (λ (x : ℕ). k < x) (long e) l))
    (said r _ h)).says
