-- The rows and totals of named systems, one at a time.
use Rattle.std.specs.Prelude.{ℕ, ◌+◌, ◌-◌, ◌*◌, ◌≤◌, ◌<◌, ◌≡◌, refl, Bool, List, ℤ, pos, nat_abs, length, get_or, take, drop}
use Rattle.std.proofs.Common.{sym, subst, mul-le-mul_right, suc-mul, arith, length-take, length-drop, get_or-drop, get_or-take}
use Rattle.lemmas.specs.Tells.{Tells, Each, said, same}
use Rattle.paper.specs.Panel.Input.{spin}
use Rattle.paper.specs.Refusal.Rules.{When, Spin, Names, Named, Spins}
use Rattle.paper.specs.Answer.Totals.{total, SmallTotals}
use Rattle.lattice.specs.Spinning.{AllSpins}

-- rows of n spins for s systems, and numbers whose products fit
pub record Rowed (n s : ℕ) (xs : List ℤ) : Type 0 where
  pub long : length xs ≡ s * n
  pub n_high : n ≤ 4096
  pub s_high : s ≤ 64

-- the row of t holds spins, if t is a system
abbrev pub RowSpins : ℕ → ℕ → List ℤ → ℕ → Type 0
RowSpins n s xs t = t < s → (i : ℕ) → i < n → Spin (spin n xs t i)

abbrev pub SmallTotal : List ℤ → ℕ → Type 0
SmallTotal ts t = t < length ts → nat_abs (total ts t) ≤ 16384000000

-- the row as a part of all spins
module _ (n s : ℕ) (xs : List ℤ) (h : Rowed n s xs) (t : ℕ) (below : t < s) where
  abbrev row : List ℤ
  row = take (t * n + n - t * n) (drop (t * n) xs)

  pub row_ends : t * n + n ≤ length xs
  row_ends = omega (arith, h.long, suc-mul t n, mul-le-mul_right n below)

  row_long : length row ≡ n
  row_long = simp (length-take, length-drop) (omega (arith, row_ends))

  row_at : (i : ℕ) → i < n → get_or row i (pos 0) ≡ spin n xs t i
  row_at i l = let m : i < t * n + n - t * n = omega arith in rw (get_or-take, get_or-drop)

  pub row_tells : (r : Bool) → Tells r (AllSpins row) → Tells r (RowSpins n s xs t)
  row_tells r q =
      (same (RowSpins n s xs t)
      (λ f _ i l. subst Spin (row_at i l) (f i (rw row_long l)))
      (λ f i l. let k : i < n = rw row_long at l in subst Spin (sym (row_at i k)) (f below i k))
      (said r (AllSpins row) q)).says

module _ (n s : ℕ) (names : Names) (xs : List ℤ) where
  pub spins_of : Each names.count (λ k. RowSpins n s xs (names.at k)) → Spins n (Named s names) xs
  spins_of h t i w hi =
      subst (λ (u : ℕ). Spin (spin n xs u i)) w.is (h w.place w.below (subst (λ (u : ℕ). u < s) (sym w.is) w.inside) i hi)

  pub spins_each : Spins n (Named s names) xs → Each names.count (λ k. RowSpins n s xs (names.at k))
  spins_each h k hk hs i hi = h (names.at k) i (record { place = k; below = hk; is = refl; inside = hs }) hi

module _ (names : Names) (ts : List ℤ) where
  pub small_of : Each names.count (λ k. SmallTotal ts (names.at k)) → SmallTotals (Named (length ts) names) ts
  small_of h t w =
      subst (λ (u : ℕ). nat_abs (total ts u) ≤ 16384000000) w.is (h w.place w.below (subst (λ (u : ℕ). u < length ts) (sym w.is) w.inside))

  pub small_each : SmallTotals (Named (length ts) names) ts → Each names.count (λ k. SmallTotal ts (names.at k))
  small_each h k hk hs = h (names.at k) (record { place = k; below = hk; is = refl; inside = hs })

-- of as many totals as systems, where they are kept
pub small_named :
    (keeping : Bool) (s : ℕ) (names : Names) (ts : List ℤ) → When keeping (length ts ≡ s) → (r : Bool)
    → Tells r (When keeping (SmallTotals (Named (length ts) names) ts)) → Tells r (When keeping (SmallTotals (Named s names) ts))
small_named keeping s names ts long r t =
    (same (When keeping (SmallTotals (Named s names) ts))
    (λ h q. subst (λ (m : ℕ). SmallTotals (Named m names) ts) (long q) (h q))
    (λ h q. subst (λ (m : ℕ). SmallTotals (Named m names) ts) (sym (long q)) (h q))
    (said r _ t)).says
