-- By how much a bond, and a site with the bonds that are looked at from it, raise the energy of each member of a group.
use Rattle.std.specs.Prelude.{ℕ, ◌+◌, ◌*◌, ◌/◌, ◌%◌, ◌^◌, ◌≤◌, ◌<◌, ◌≡◌, cond, List, eqb, length, get_or, ℤ, pos, nat_abs, ◌+ℤ◌, ◌-ℤ◌, ◌*ℤ◌}
use Rattle.lemmas.specs.Sums.{sum}
use Rattle.paper.specs.Refusal.Rules.{Inverse, SmallCouplings}
use Rattle.columns.specs.Column.{shown}

-- the bond with the coupling j between ends whose columns a and b become a' and b': the energy has minus the product of the two spins
abbrev pub bond_gain : ℤ → (a a' b b' : ℕ) → ℕ → ℤ
bond_gain j a a' b b' k = j *ℤ shown a k *ℤ shown b k -ℤ j *ℤ shown a' k *ℤ shown b' k

-- the same by the bits: one of x is set where the ends were unlike, one of y where they are
abbrev pub bit_gain : ℤ → ℕ → ℕ → ℕ → ℤ
bit_gain j x y k = (pos 2 *ℤ j) *ℤ (pos (y / 2 ^ k % 2) -ℤ pos (x / 2 ^ k % 2))

-- a move: the tables, the couplings, and each site's column before and after
pub record Change : Type 0 where
  pub d : ℕ
  pub fwd : List ℕ
  pub bwd : List ℕ
  pub couplings : List ℤ
  pub old : ℕ → ℕ
  pub new : ℕ → ℕ

-- with the columns in lists, by site
abbrev pub at_site : List ℕ → ℕ → ℕ
at_site cols i = get_or cols i 0

abbrev pub change_of : ℕ → List ℕ → List ℕ → List ℤ → List ℕ → List ℕ → Change
change_of d fwd bwd js olds news = record { d = d; fwd = fwd; bwd = bwd; couplings = js; old = at_site olds; new = at_site news }

-- the bond of the number b between the sites i and j
abbrev pub gain_at : List ℤ → (old new : ℕ → ℕ) → (b i j : ℕ) → ℕ → ℤ
gain_at js old new b i j k = bond_gain (get_or js b (pos 0)) (old i) (new i) (old j) (new j) k

-- the same where the column of i did not change, else nothing
abbrev pub still_at : List ℤ → (old new : ℕ → ℕ) → (b i j : ℕ) → ℕ → ℤ
still_at js old new b i j k = cond (eqb (old i) (new i)) (gain_at js old new b i j k) (pos 0)

abbrev pub ahead : Change → ℕ → ℕ → ℕ
ahead w i e = get_or w.fwd (i * w.d + e) 0

abbrev pub behind : Change → ℕ → ℕ → ℕ
behind w i e = get_or w.bwd (i * w.d + e) 0

-- the bond (i, e)
abbrev pub gain : Change → ℕ → ℕ → ℕ → ℤ
gain w k i e = gain_at w.couplings w.old w.new (i * w.d + e) i (ahead w i e) k

-- the bond in the direction e that leads to i, from a site that did not change
abbrev pub back_gain : Change → ℕ → ℕ → ℕ → ℤ
back_gain w k i e = still_at w.couplings w.old w.new (behind w i e * w.d + e) (behind w i e) i k

-- what is looked at from the site i: nothing where it did not change. A bond with both ends changed is counted at its start
abbrev pub site_gain : Change → ℕ → ℕ → ℤ
site_gain w k i = cond (eqb (w.old i) (w.new i)) (pos 0) (sum w.d (λ e. gain w k i e +ℤ back_gain w k i e))

-- ---- what the functions ask and promise

-- the sums ys are xs with f k added to each of the first m
pub record Added (m : ℕ) (f : ℕ → ℤ) (xs ys : List ℤ) : Type 0 where
  pub long : length ys ≡ length xs
  pub each : (k : ℕ) → k < m → get_or ys k (pos 0) ≡ get_or xs k (pos 0) +ℤ f k

-- eight sums, none of the first m larger than b
pub record Room (b m : ℕ) (xs : List ℤ) : Type 0 where
  pub long : length xs ≡ 8
  pub few : m ≤ 8
  pub small : (k : ℕ) → k < m → nat_abs (get_or xs k (pos 0)) ≤ b

-- what a bond's change asks
pub record BondIn (j : ℤ) (m : ℕ) (xs : List ℤ) : Type 0 where
  pub coupling : nat_abs j ≤ 1000000
  pub room : Room 90000000000 m xs

-- the bond of the number b between two of n sites
pub record Ends (n m : ℕ) (js : List ℤ) (olds news : List ℕ) (b i j : ℕ) (xs : List ℤ) : Type 0 where
  pub bond : b < length js
  pub start : i < n
  pub end : j < n
  pub olds_long : n ≤ length olds
  pub news_long : n ≤ length news
  pub small : SmallCouplings js
  pub room : Room 90000000000 m xs

-- the tables of n sites, and their columns
pub record Ground (n : ℕ) (d : ℕ) (fwd bwd : List ℕ) (js : List ℤ) (olds news : List ℕ) : Type 0 where
  pub n_high : n ≤ 4096
  pub d_high : d ≤ 4
  pub fwd_long : length fwd ≡ n * d
  pub bwd_long : length bwd ≡ n * d
  pub js_long : length js ≡ n * d
  pub olds_long : n ≤ length olds
  pub news_long : n ≤ length news
  pub inverse : Inverse n d fwd bwd
  pub small : SmallCouplings js

pub record SiteOf (n d m : ℕ) (fwd bwd : List ℕ) (js : List ℤ) (olds news : List ℕ) (i : ℕ) (xs : List ℤ) : Type 0 where
  pub ground : Ground n d fwd bwd js olds news
  pub below : i < n
  pub room : Room 80000000000 m xs

-- eight sums, of which the first m are f 0, f 1, ..
pub record Sums (m : ℕ) (f : ℕ → ℤ) (xs : List ℤ) : Type 0 where
  pub long : length xs ≡ 8
  pub each : (k : ℕ) → k < m → get_or xs k (pos 0) ≡ f k
