-- The tests of a call on bytes: those of the rows that they stand for.
use Rattle.std.specs.Prelude.{ℕ, zero, suc, ◌-◌, ◌*◌, ◌^◌, ◌≤◌, ◌<◌, ◌≡◌, Bool, true, false, List, [], ◌∷◌, ◌++◌, length, get_or, ℤ}
use Rattle.std.proofs.Common.{sym, ◌∙◌, subst, inl, inr, arith, pow_pos}
use Rattle.lemmas.specs.Tells.{Tells, said, same}
use Rattle.paper.specs.declared.Group.{Group}
use Rattle.paper.specs.declared.Task.{Task}
use Rattle.paper.specs.declared.Lengths.{Lengths}
use Rattle.paper.specs.Panel.Input.{Call, Choices, member, pattern_of}
use Rattle.paper.specs.Panel.Takes.{is_gperm, keeps_by}
use Rattle.paper.specs.Refusal.Rule.{Rule, rule}
use Rattle.paper.specs.Refusal.Rules.{When, Ranged, HoudOfTwo, Fits, group_names, Named, AllSystems, Spins, Seeded}
use Rattle.paper.specs.Refusal.Verdict.{Verdict}
use Rattle.paper.specs.Answer.Totals.{TotalLengths, SmallTotals}
use Rattle.tests.specs.Panel.{TotalsFit, shape_rules, table_rules}
use Rattle.tests.specs.Choices.{chosen_rules}
use Rattle.columns.specs.Column.{Columns, Inside, Spinning}
use Rattle.column_rules.specs.Sight.{Sighted}
use Rattle.packing.specs.Bytes.{rows_of, Narrow, own_group}
use Rattle.packing.proofs.Laws.{length_rows, rows_long, rows_spins, spins_narrow, member_own, own_inside, own_pattern, rows_columns}
use Rattle.packed.specs.Lengths.{spins_for, with_spins, cancel, clipped_fits, fits_clipped}

-- a task on rows of its own, and the lengths of what the tests look at
pub record Handed (t : Task) (columns fwd bwd : List ℕ) (couplings : List ℤ) (choices greys : List ℕ) (l : Lengths) : Type 0 where
  pub systems : t.s ≡ t.group.len
  pub group : t.group ≡ own_group t.group.len
  pub spins_is : l.spins ≡ spins_for t.s (length columns)
  pub fwd_is : l.fwd ≡ length fwd
  pub bwd_is : l.bwd ≡ length bwd
  pub couplings_is : l.couplings ≡ length couplings
  pub choices_is : l.choices ≡ length choices
  pub greys_is : l.greys ≡ length greys

-- 1, 15 and 2, with the lengths of the rows
abbrev pub head_rules : Task → List ℤ → List ℤ → Call → Lengths → List Rule
head_rules t xs ts c l =
    rule 1 (Ranged t.n t.d t.s t.mode t.group.len)
    ∷ rule 15 (HoudOfTwo t.mode t.form t.group.len)
    ∷ rule 2 (Fits t.mode t.form t.n t.d t.s t.group.len (with_spins l (length xs)))
    ∷ rule 2 (When (keeps_by t.keeps t.form) (TotalLengths c.lattice ts))
    ∷ []

abbrev pub spin_rules : Task → List ℤ → List Rule
spin_rules t xs = rule 3 (Spins t.n (Named t.s (group_names t.group)) xs) ∷ []

abbrev pub panel_tables : Task → Call → List Rule
panel_tables t c = table_rules t c.lattice.fwd c.lattice.bwd c.pins c.lattice.couplings

abbrev pub seed_rules : Call → List ℤ → List Rule
seed_rules c xs = rule 10 (Seeded c xs) ∷ []

abbrev pub total_rules : Task → List ℤ → List Rule
total_rules t ts = rule 14 (When (keeps_by t.keeps t.form) (SmallTotals (Named t.s (group_names t.group)) ts)) ∷ []

-- all of them, in the order of a call on rows
abbrev pub packed_rules : Task → List ℕ → List ℤ → Call → Choices → Lengths → List Rule
packed_rules t columns ts c p l =
    let xs = rows_of t.s columns in
    head_rules t xs ts c l ++ (spin_rules t xs ++ (panel_tables t c ++ (chosen_rules c p ++ (seed_rules c xs ++ total_rules t ts))))

-- ---- 1, 15 and 2: the clipped number of spins fits just where that of the rows does
module _ (t : Task) (columns : List ℕ) (ts : List ℤ) (c : Call) (l : Lengths) (own : t.s ≡ t.group.len)
    (spins_is : l.spins ≡ spins_for t.s (length columns)) (couplings_is : l.couplings ≡ length c.lattice.couplings)
    (n-is : c.lattice.n ≡ t.n) (d-is : c.lattice.d ≡ t.d) (s-is : c.lattice.s ≡ t.s)
  where
    abbrev xs : List ℤ
    xs = rows_of t.s columns

    abbrev FitsBy : Lengths → Type 0
    FitsBy k = Fits t.mode t.form t.n t.d t.s t.group.len k

    module _ (r : Ranged t.n t.d t.s t.mode t.group.len) where
      low : 2 ≤ t.s
      low = rw own r.size_low

      high : t.s ≤ 8
      high = rw own r.size_high

      fits_rows : FitsBy l → FitsBy (with_spins l (length xs))
      fits_rows f = record {
        spins =
            length_rows t.s columns ∙ fits_clipped t.s t.n (length columns) low high r.lattice.n_high (sym spins_is ∙ f.spins);
        fwd = f.fwd;
        bwd = f.bwd;
        pins = f.pins;
        couplings = f.couplings;
        cuts = f.cuts;
        choices = f.choices;
        greys = f.greys;
        labels = f.labels;
        grey_labels = f.grey_labels;
        counts = f.counts;
        sizes = f.sizes;
        members = f.members;
        found = f.found;
        grey_found = f.grey_found;
      }

      rows_fit : FitsBy (with_spins l (length xs)) → FitsBy l
      rows_fit f = record {
        spins =
            spins_is ∙ clipped_fits t.s t.n (length columns) low high r.lattice.n_high (sym (length_rows t.s columns) ∙ f.spins);
        fwd = f.fwd;
        bwd = f.bwd;
        pins = f.pins;
        couplings = f.couplings;
        cuts = f.cuts;
        choices = f.choices;
        greys = f.greys;
        labels = f.labels;
        grey_labels = f.grey_labels;
        counts = f.counts;
        sizes = f.sizes;
        members = f.members;
        found = f.found;
        grey_found = f.grey_found;
      }

    -- the totals' lengths as the test is handed them
    abbrev TotalsFitted : Type 0
    TotalsFitted = TotalsFit (keeps_by t.keeps t.form) t.n t.d t.s l.couplings (length ts)

    totals_long : TotalsFitted → When (keeps_by t.keeps t.form) (TotalLengths c.lattice ts)
    totals_long f e = record {
      couplings = sym couplings_is ∙ rw (n-is, d-is) (f.couplings_is e);
      totals = rw s-is (f.totals_is e);
    }

    totals_fit : When (keeps_by t.keeps t.form) (TotalLengths c.lattice ts) → TotalsFitted
    totals_fit h = record {
      couplings_is = λ e. couplings_is ∙ rw (n-is, d-is) at (h e).couplings;
      totals_is = λ e. rw s-is at (h e).totals;
    }

    pub head_of : (r : ℕ) → Verdict (shape_rules t (length ts) l) r → Verdict (head_rules t xs ts c l) r
    head_of zero k = (k.0, (k.1.0, (fits_rows k.0 k.1.1.0, (totals_long k.1.1.1.0, tt))))
    head_of (suc r) (inl w) = inl w
    head_of (suc r) (inr (a, inl w)) = inr (a, inl w)
    head_of (suc r) (inr (a, inr (h, inl w))) = inr (a, inr (h, inl ((λ f. w.0 (rows_fit a f)), w.1)))
    head_of (suc r) (inr (a, inr (h, inr (f, inl w)))) =
        inr (a, inr (h, inr (fits_rows a f, inl ((λ q. w.0 (totals_fit q)), w.1))))
    head_of (suc r) (inr (a, inr (h, inr (f, inr w)))) = absurd w.1

-- a task on rows of its own names them all
module _ (t : Task) (own : t.s ≡ t.group.len) (group : t.group ≡ own_group t.group.len) (few : t.group.len ≤ 8) where
  all_named : (k : ℕ) → k < t.s → Named t.s (group_names t.group) k
  all_named k l = let h : k < t.group.len = rw own at l in record {
    place = k;
    below = h;
    is = subst (λ (g : Group). member g k ≡ k) (sym group) (member_own t.group.len k (omega (arith, h, few)));
    inside = l;
  }

  pub own_spins : (xs : List ℤ) (r : Bool) → Tells r (Spins t.n (AllSystems t.s) xs) → Tells r (Spins t.n (Named t.s (group_names t.group)) xs)
  own_spins xs r h =
      (same (Spins t.n (Named t.s (group_names t.group)) xs) (λ f k i w. f k i w.inside) (λ f k i l. f k i (all_named k l)) (said r _ h)).says

  pub spins_own : (xs : List ℤ) → Spins t.n (Named t.s (group_names t.group)) xs → Spins t.n (AllSystems t.s) xs
  spins_own xs f k i l = f k i (all_named k l)

-- ---- 3: a byte is at most the largest of its group just where the rows show spins
module _ (m n top : ℕ) (columns : List ℕ) (long : length columns ≡ n) (some : 1 ≤ m) (is : top ≡ 2 ^ m - 1) where
  narrow_of : ((k : ℕ) → k < length columns → get_or columns k 0 ≤ top) → Narrow m columns
  narrow_of h i l = omega (arith, h i l, is, pow_pos m)

  pub spins_tell :
      (r : Bool) → Tells r ((k : ℕ) → k < length columns → get_or columns k 0 ≤ top) → Tells r (Spins n (AllSystems m) (rows_of m columns))
  spins_tell true h = rows_spins m n columns long (narrow_of h)
  spins_tell false h = λ s. h (λ k l. let q = spins_narrow m n columns long some s k l in omega (arith, q, is))

-- ---- what bytes that are tested stand for
pub bytes_long : (m n : ℕ) (xs : List ℕ) → 1 ≤ m → length (rows_of m xs) ≡ m * n → length xs ≡ n
bytes_long m n xs some e = cancel m (length xs) n some (sym (length_rows m xs) ∙ e)

-- a task on rows of its own sees the rows that its bytes stand for
module _
    (t : Task) (xs : List ℕ) (own : t.group ≡ own_group t.group.len) (low : 1 ≤ t.group.len) (high : t.group.len ≤ 8) (n_high : t.n ≤ 4096)
    (long : length xs ≡ t.n) (narrow : Narrow t.group.len xs) (reference : is_gperm t.mode ≡ true → t.reference < t.n)
  where
    abbrev m : ℕ
    m = t.group.len

    pub rows_sighted : Sighted t.mode t.n t.group t.reference (rows_of m xs)
    rows_sighted = record {
      n_high = n_high;
      size_low = low;
      size_high = high;
      inside = subst (λ (g : Group). Inside t.n g (rows_of m xs)) (sym own) (own_inside m high t.n (rows_of m xs) (rows_long m t.n xs long));
      spins = subst (λ (g : Group). Spinning t.n g (rows_of m xs)) (sym own)
          (λ i k hi hk. rw (own_pattern m high t.n (rows_of m xs) i k hk) (rows_spins m t.n xs long narrow k i hk hi));
      reference = reference;
    }

    pub rows_columned : Columns t.n m (pattern_of t.n t.group (rows_of m xs)) xs
    rows_columned = subst (λ (g : Group). Columns t.n m (pattern_of t.n g (rows_of m xs)) xs) (sym own) (rows_columns m high t.n xs long narrow)
