-- What two panels share for the one who sees some of their systems only: those systems' rows and totals, and all that is lent beside.
use Prim.Native.Nat.{ℕ, ◌+◌, ◌*◌, ◌/◌, ◌≤◌, ◌<◌}
use Rattle.std.specs.Prelude.{◌≡◌, refl, Bool, true, false, List, length, get_or, pos, neg_ℤ, ◌+ℤ◌, ◌*ℤ◌}
use Rattle.std.proofs.Common.{sym, ◌∙◌, ap, arith}
use Rattle.std.proofs.Math.Bool.{cond}
use Rattle.std.proofs.Math.Decide.{dec_lt}
use Rattle.std.proofs.Math.ListN.{get_or-eq_default}
use Rattle.std.proofs.Math.IntN.{ℤ, +ℤ_idr, +ℤ_invr}
use Rattle.lemmas.specs.Sums.{sum_ext}
use Rattle.lemmas.specs.Cells.{row_of, tabulate, length_tabulate, tabulate_at}
use Rattle.paper.specs.Panel.Input.{Lattice, Buffers, spin, bond_of, ahead_of}
use Rattle.paper.specs.Site.Energy.{energy}
use Rattle.paper.specs.Refusal.Rules.{When}
use Rattle.paper.specs.Answer.Totals.{total, Brought, TotalsAfter}
use Rattle.laws.specs.Determined.{buffers_equal}
use Rattle.laws.specs.AnswersLocal.{with_spins}

-- the same rows of those systems
abbrev pub SameRows : ℕ → (ℕ → Type 0) → List ℤ → List ℤ → Type 0
SameRows n Which xs ys = (t i : ℕ) → Which t → i < n → spin n ys t i ≡ spin n xs t i

abbrev pub SameTotals : (ℕ → Type 0) → List ℤ → List ℤ → Type 0
SameTotals Which ts us = (t : ℕ) → Which t → total us t ≡ total ts t

-- all lent buffers but the spins
pub record SameOutputs (b d : Buffers) : Type 0 where
  pub labels : d.labels ≡ b.labels
  pub grey_labels : d.grey_labels ≡ b.grey_labels
  pub counts : d.counts ≡ b.counts
  pub sizes : d.sizes ≡ b.sizes
  pub members : d.members ≡ b.members
  pub found : d.found ≡ b.found
  pub grey_found : d.grey_found ≡ b.grey_found

-- of the other systems nothing is said but how many there are: their rows and totals may hold anything
pub record SameView (n : ℕ) (Which : ℕ → Type 0) (b : Buffers) (ts : List ℤ) (d : Buffers) (us : List ℤ) : Type 0 where
  pub outputs : SameOutputs b d
  pub long : length d.spins ≡ length b.spins
  pub rows : SameRows n Which b.spins d.spins
  pub totals_long : length us ≡ length ts
  pub totals : SameTotals Which ts us

-- the same to the one who sees fewer
pub view_fewer :
    {n : ℕ} {Which Fewer : ℕ → Type 0} {b d : Buffers} {ts us : List ℤ}
    → ((t : ℕ) → Fewer t → Which t)
    → SameView n Which b ts d us
    → SameView n Fewer b ts d us
view_fewer f v = record {
  outputs = v.outputs;
  long = v.long;
  rows = λ t i h. v.rows t i (f t h);
  totals_long = v.totals_long;
  totals = λ t h. v.totals t (f t h);
}

-- ---- buffers by their spins
pub outputs_with : {b d : Buffers} → SameOutputs b d → d ≡ with_spins b d.spins
outputs_with {b} {d} s =
    buffers_equal d (with_spins b d.spins) refl s.labels s.grey_labels s.counts s.sizes s.members s.found s.grey_found

pub with_outputs : {b d : Buffers} {xs : List ℤ} → d ≡ with_spins b xs → SameOutputs b d
with_outputs e = record {
  labels = ap (λ (z : Buffers). z.labels) e;
  grey_labels = ap (λ (z : Buffers). z.grey_labels) e;
  counts = ap (λ (z : Buffers). z.counts) e;
  sizes = ap (λ (z : Buffers). z.sizes) e;
  members = ap (λ (z : Buffers). z.members) e;
  found = ap (λ (z : Buffers). z.found) e;
  grey_found = ap (λ (z : Buffers). z.grey_found) e;
}

-- ---- the rows of the systems that pass the test from `to`, the others from xs
pub join_rows : ℕ → (ℕ → Bool) → List ℤ → List ℤ → List ℤ
join_rows n mine xs to = tabulate (length xs) (λ x. cond (mine (x / n)) (get_or to x (pos 0)) (get_or xs x (pos 0)))

cond_same : {A : Type 0} (t : Bool) (x : A) → cond t x x ≡ x
cond_same true x = refl
cond_same false x = refl

module _ (n : ℕ) (mine : ℕ → Bool) (xs to : List ℤ) where
  pub join_length : length (join_rows n mine xs to) ≡ length xs
  unfolding join_rows
  join_length = length_tabulate (length xs) _

  join_cell : length to ≡ length xs → (t i : ℕ) → i < n → spin n (join_rows n mine xs to) t i ≡ cond (mine t) (spin n to t i) (spin n xs t i)
  unfolding join_rows
  join_cell long t i hi = go (dec_lt (t * n + i) (length xs))
    where
      f : ℕ → ℤ
      f x = cond (mine (x / n)) (get_or to x (pos 0)) (get_or xs x (pos 0))

      go : Dec (t * n + i < length xs) → get_or (tabulate (length xs) f) (t * n + i) (pos 0) ≡ cond (mine t) (spin n to t i) (spin n xs t i)
      go (yes h) =
          tabulate_at (length xs) f (t * n + i) h
          ∙ ap (λ (q : ℕ). cond (mine q) (spin n to t i) (spin n xs t i)) (row_of n t i hi)
      go (no h) =
          let far : length xs ≤ t * n + i = omega arith in
          get_or-eq_default (tabulate (length xs) f) (pos 0) (omega (arith, length_tabulate (length xs) f))
          ∙ sym (ap (λ (x : ℤ). cond (mine t) x (spin n xs t i)) (get_or-eq_default to (pos 0) (omega (arith, long)))
          ∙ (ap (λ (x : ℤ). cond (mine t) (pos 0) x) (get_or-eq_default xs (pos 0) far) ∙ cond_same (mine t) (pos 0)))

  pub join_mine : length to ≡ length xs → (t i : ℕ) → mine t ≡ true → i < n → spin n (join_rows n mine xs to) t i ≡ spin n to t i
  join_mine long t i e hi = join_cell long t i hi ∙ rw e refl

  pub join_other : length to ≡ length xs → (t i : ℕ) → mine t ≡ false → i < n → spin n (join_rows n mine xs to) t i ≡ spin n xs t i
  join_other long t i e hi = join_cell long t i hi ∙ rw e refl

-- ---- a system's energy is its row's
abbrev pub LeadsInside : Lattice → Type 0
LeadsInside g = (i e : ℕ) → i < g.n → e < g.d → ahead_of g i e < g.n

pub energy_local :
    (g : Lattice) (xs ys : List ℤ) (t : ℕ)
    → LeadsInside g
    → ((i : ℕ) → i < g.n → spin g.n ys t i ≡ spin g.n xs t i)
    → energy g ys t ≡ energy g xs t
energy_local g xs ys t inside same = ap neg_ℤ (sum_ext g.n _ _ (λ i hi. sum_ext g.d _ _ (λ e he. term i e hi he)))
  where
    at : List ℤ → ℕ → ℕ → ℤ
    at zs i e = get_or g.couplings (bond_of g i e) (pos 0) *ℤ spin g.n zs t i *ℤ spin g.n zs t (ahead_of g i e)

    term : (i e : ℕ) → i < g.n → e < g.d → at ys i e ≡ at xs i e
    term i e hi he = cc (same i hi, same (ahead_of g i e) (inside i e hi he))

-- ---- totals
-- of two panels with the same rows of the system t before and after, and its total
pub totals_alike :
    (keeping : Bool) (g : Lattice) (xs ts ys ts' vs us ws us' : List ℤ) (t : ℕ)
    → LeadsInside g
    → t < g.s
    → ((i : ℕ) → i < g.n → spin g.n vs t i ≡ spin g.n xs t i)
    → ((i : ℕ) → i < g.n → spin g.n ws t i ≡ spin g.n ys t i)
    → total us t ≡ total ts t
    → TotalsAfter keeping g xs ts ys ts'
    → TotalsAfter keeping g vs us ws us'
    → total us' t ≡ total ts' t
totals_alike true g xs ts ys ts' vs us ws us' t inside h before after e p q =
    (q.brought refl).each t h
    ∙ (cc (e, energy_local g xs vs t inside before, energy_local g ys ws t inside after) ∙ sym ((p.brought refl).each t h))
totals_alike false g xs ts ys ts' vs us ws us' t inside h before after e p q =
    ap (λ (z : List ℤ). total z t) (q.left refl) ∙ (e ∙ sym (ap (λ (z : List ℤ). total z t) (p.left refl)))

-- of a system whose row stays; past the last system there is none
pub totals_stay :
    (keeping : Bool) (g : Lattice) (xs ts ys ts' : List ℤ) (t : ℕ)
    → LeadsInside g
    → When keeping (length ts ≡ g.s)
    → ((i : ℕ) → i < g.n → spin g.n ys t i ≡ spin g.n xs t i)
    → TotalsAfter keeping g xs ts ys ts'
    → total ts' t ≡ total ts t
totals_stay true g xs ts ys ts' t inside long still p = go (dec_lt t g.s)
  where
    b : Brought g xs ts ys ts'
    b = p.brought refl

    go : Dec (t < g.s) → total ts' t ≡ total ts t
    go (yes h) =
        b.each t h
        ∙ (ap (λ (x : ℤ). total ts t +ℤ (x +ℤ neg_ℤ (energy g xs t))) (energy_local g xs ys t inside still)
        ∙ (ap (λ (x : ℤ). total ts t +ℤ x) (+ℤ_invr (energy g xs t)) ∙ +ℤ_idr (total ts t)))
    go (no h) =
        get_or-eq_default ts' (pos 0) (omega (arith, b.long, long refl))
        ∙ sym (get_or-eq_default ts (pos 0) (omega (arith, long refl)))
totals_stay false g xs ts ys ts' t inside long still p = ap (λ (z : List ℤ). total z t) (p.left refl)

-- there are as many after as before
pub totals_length : (keeping : Bool) (g : Lattice) (xs ts ys ts' : List ℤ) → TotalsAfter keeping g xs ts ys ts' → length ts' ≡ length ts
totals_length true g xs ts ys ts' p = (p.brought refl).long
totals_length false g xs ts ys ts' p = ap length (p.left refl)
