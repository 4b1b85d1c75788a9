-- A system's row, as a part of all spins: its energy is the system's. Then what the tests show of such rows.
use Rattle.std.specs.Prelude.{ℕ, zero, suc, ◌+◌, ◌-◌, ◌*◌, ◌<◌, ◌≡◌, refl, true, List, [], ◌∷◌, length, get_or, take, drop, ℤ, pos, neg_ℤ, ◌*ℤ◌}
use Rattle.std.proofs.Common.{ap, mul-le-mul_right, suc-mul, arith, length-take, length-drop, get_or-drop, get_or-take}
use Rattle.lemmas.specs.Sums.{sum_ext}
use Rattle.paper.specs.Panel.Input.{Lattice, spin, ahead_of}
use Rattle.paper.specs.Panel.Made.{lattice_of}
use Rattle.paper.specs.Refusal.Rule.{Rule, rule, Kept}
use Rattle.paper.specs.Refusal.Verdict.{Verdict, broken_first}
use Rattle.paper.specs.Refusal.Rules.{Sizes, one_name, Named, Spins, Inverse, SmallCouplings}
use Rattle.paper.specs.Site.Energy.{energy}
use Rattle.paper.specs.Answer.Meter.{MeterExact, meter_rules}
use Rattle.paper.specs.Answer.Totals.{total, Current, HandOverExact}
use Rattle.paper.specs.Answer.Team.{Team, own, Ours, owner_rules, hand_over_rules}
use Rattle.meter.specs.Row.{Lengths, Row, RowAt, bond_term, row_sum}

-- the lengths as numbers, and of the lists
abbrev pub LengthsOf : Lattice → List ℤ → Type 0
LengthsOf t xs = Lengths t.n t.d t.s (length xs) (length t.fwd) (length t.bwd) (length t.couplings)

pub exact_of : (t : Lattice) (xs : List ℤ) → LengthsOf t xs → MeterExact t xs
exact_of t xs h = record { spins = h.spins_is; fwd = h.fwd_is; bwd = h.bwd_is; couplings = h.couplings_is }

pub exact_lengths : (t : Lattice) (xs : List ℤ) → MeterExact t xs → LengthsOf t xs
exact_lengths t xs h = record { spins_is = h.spins; fwd_is = h.fwd; bwd_is = h.bwd; couplings_is = h.couplings }

-- the lattice as the energy looks at it
abbrev pub metered : ℕ → ℕ → List ℕ → List ℤ → Lattice
metered n d fwd js = lattice_of n d 0 fwd [] js

module _ (n d : ℕ) (fwd : List ℕ) (js xs : List ℤ) (k : ℕ) (h : RowAt n d fwd js xs k) where
  abbrev row : List ℤ
  row = take (k * n + n - k * n) (drop (k * n) xs)

  row_long : length row ≡ n
  row_long = simp (length-take, length-drop) (omega (arith, h.ends))

  row_at : (i : ℕ) → i < n → get_or row i (pos 0) ≡ spin n xs k i
  row_at i l = let m : i < k * n + n - k * n = omega arith in rw (get_or-take, get_or-drop)

  pub row_of : Row n d fwd js row
  row_of = record {
    n_high = h.n_high;
    d_high = h.d_high;
    long = row_long;
    fwd_long = h.fwd_long;
    js_long = h.js_long;
    inside = h.inside;
    small = h.small;
    spins = λ i l. rw (row_at i l) (h.spins i l);
  }

  -- the bond (i, e) as the paper has it
  abbrev paper_bond : ℕ → ℕ → ℤ
  paper_bond i e = get_or js (i * d + e) (pos 0) *ℤ spin n xs k i *ℤ spin n xs k (ahead_of (metered n d fwd js) i e)

  pub energy_of : neg_ℤ (row_sum n d fwd js row) ≡ energy (metered n d fwd js) xs k
  energy_of = ap neg_ℤ (sum_ext n _ _ (λ i li. sum_ext d _ _ (λ e le. term i e li le)))
    where
      term : (i e : ℕ) → i < n → e < d → bond_term d fwd js row i e ≡ paper_bond i e
      term i e li le = rw (row_at i li, row_at (ahead_of (metered n d fwd js) i e) (h.inside i e li le))

-- ---- from the rules

-- what the meter and the hand-over both ask, of the rows of some systems
pub record Sound (t : Lattice) (Which : ℕ → Type 0) (xs : List ℤ) : Type 0 where
  pub sizes : Sizes t.n t.d t.s
  pub exact : MeterExact t xs
  pub spins : Spins t.n Which xs
  pub inverse : Inverse t.n t.d t.fwd t.bwd
  pub small : SmallCouplings t.couplings

module _ (t : Lattice) (Which : ℕ → Type 0) (xs : List ℤ) (h : Sound t Which xs) where
  pub sound_row : (k : ℕ) → k < t.s → Which k → RowAt t.n t.d t.fwd t.couplings xs k
  sound_row k l w = record {
    n_high = h.sizes.n_high;
    d_high = h.sizes.d_high;
    ends = omega (arith, h.exact.spins, suc-mul k t.n, mul-le-mul_right t.n l);
    fwd_long = h.exact.fwd;
    js_long = h.exact.couplings;
    inside = λ i e li le. (h.inverse.there i e li le).inside;
    small = h.small;
    spins = λ i li. h.spins k i w li;
  }

pub meter_kept : (t : Lattice) (xs : List ℤ) (k : ℕ) → Sound t (Named t.s (one_name k)) xs → k < t.s → Kept (meter_rules t xs k)
meter_kept t xs k h l = (h.sizes, (h.exact, (h.spins, (h.inverse, (l, (h.small, tt))))))

-- a row, and a total for it
pub record Holding (n d : ℕ) (fwd : List ℕ) (js xs ts : List ℤ) (k : ℕ) : Type 0 where
  pub total_there : k < length ts
  pub row : RowAt n d fwd js xs k

abbrev pub CurrentAt : ℕ → ℕ → List ℕ → List ℤ → List ℤ → List ℤ → ℕ → Type 0
CurrentAt n d fwd js xs ts k = total ts k ≡ energy (metered n d fwd js) xs k

-- those of the team's systems
pub record Handed (n d s : ℕ) (o : Team) (fwd : List ℕ) (js xs ts : List ℤ) : Type 0 where
  pub each : (k : ℕ) → k < s → own o k ≡ true → Holding n d fwd js xs ts k

-- ---- the hand-over's rules behind the owner tests
abbrev pub meters_rules : Team → Lattice → List ℤ → List ℤ → List Rule
meters_rules o g xs ts =
    rule 1 (Sizes g.n g.d g.s)
    ∷ rule 2 (HandOverExact g xs ts)
    ∷ rule 3 (Spins g.n (Ours o g.s) xs)
    ∷ rule 4 (Inverse g.n g.d g.fwd g.bwd)
    ∷ rule 6 (SmallCouplings g.couplings)
    ∷ rule 14 (Current (Ours o g.s) g xs ts)
    ∷ []

pub owner_first :
    (o : Team) (g : Lattice) (xs ts : List ℤ) (r : ℕ) → (r ≡ 0 → ⊥) → Verdict (owner_rules o g.s) r → Verdict (hand_over_rules o g xs ts) r
owner_first o g xs ts zero e v = absurd (e refl)
owner_first o g xs ts (suc r) e v = broken_first (owner_rules o g.s) (meters_rules o g xs ts) (suc r) v
