-- Marked sites, block by block: what is written at them, and that a block without one is left.
use Rattle.std.specs.Prelude.{ℕ, ◌+◌, ◌≤◌, ◌<◌, ◌≡◌, refl, Bool, true, ◌&&◌, List, length, get_or, set}
use Rattle.std.proofs.Common.{◌∙◌, subst, le_refl, le_antisymm, arith, length-set, get_or-set_same, get_or-set_other}
use Rattle.std.proofs.Math.Decide.{ℕ_discrete, dec_lt}
use Rattle.lemmas.specs.Tells.{Tells, Test, same, both}

-- the sites from `from` to below `to`, of n
pub record Part (from to n : ℕ) : Type 0 where
  pub order : from ≤ to
  pub within : to ≤ n

abbrev pub NoneMarked : List ℕ → ℕ → ℕ → Type 0
NoneMarked marks from to = (i : ℕ) → from ≤ i → i < to → get_or marks i 0 ≡ 1 → ⊥

-- a block that starts at `from` has a site, and ends by n
pub record Ended (from to n : ℕ) : Type 0 where
  pub some : from < to
  pub within : to ≤ n

-- ys is xs with g i at each marked site i from `from` to below `to`
pub record Between (marks : List ℕ) (g : ℕ → ℕ) (from to : ℕ) (xs ys : List ℕ) : Type 0 where
  pub long : length ys ≡ length xs
  pub marked : (i : ℕ) → from ≤ i → i < to → get_or marks i 0 ≡ 1 → get_or ys i 0 ≡ g i
  pub left : (i : ℕ) → (from ≤ i → i < to → get_or marks i 0 ≡ 1 → ⊥) → get_or ys i 0 ≡ get_or xs i 0

-- ---- laws
module _ (marks : List ℕ) (g : ℕ → ℕ) where
  pub between_none : {from to : ℕ} (xs : List ℕ) → NoneMarked marks from to → Between marks g from to xs xs
  between_none xs none = record { long = refl; marked = λ i l h e. absurd (none i l h e); left = λ i o. refl }

  pub between_start : (from : ℕ) (xs : List ℕ) → Between marks g from from xs xs
  between_start from xs = between_none xs (λ i l h e. omega arith)

  -- one part after another
  pub between_join : {from mid to : ℕ} {xs ys zs : List ℕ} → from ≤ mid → mid ≤ to → Between marks g from mid xs ys → Between marks g mid to ys zs
      → Between marks g from to xs zs
  between_join {from} {mid} {to} {xs} {ys} {zs} a b p q = record {
    long = q.long ∙ p.long;
    marked = λ i l h e. at i l h e (dec_lt i mid);
    left = λ i o. q.left i (λ l h e. o (omega arith) h e) ∙ p.left i (λ l h e. o l (omega arith) e);
  }
    where
      at : (i : ℕ) → from ≤ i → i < to → get_or marks i 0 ≡ 1 → Dec (i < mid) → get_or zs i 0 ≡ g i
      at i l h e (yes k) = q.left i (λ l h e. omega arith) ∙ p.marked i l k e
      at i l h e (no k) = q.marked i (omega arith) h e

  -- one site, marked or not
  pub between_set : {i v : ℕ} {xs : List ℕ} → i < length xs → get_or marks i 0 ≡ 1 → v ≡ g i → Between marks g i (i + 1) xs (set xs i v)
  between_set {i} {v} {xs} h on e = record {
    long = length-set xs i v;
    marked = λ j l k m. let q : j ≡ i = omega arith in rw q (get_or-set_same xs i v 0 h ∙ e);
    left = λ j o. at j o (ℕ_discrete j i);
  }
    where
      at : (j : ℕ) → (i ≤ j → j < i + 1 → get_or marks j 0 ≡ 1 → ⊥) → Dec (j ≡ i) → get_or (set xs i v) j 0 ≡ get_or xs j 0
      at j o (yes q) = absurd (o (omega arith) (omega arith) (rw q on))
      at j o (no q) = get_or-set_other xs i j v 0 q

  pub between_skip : {i : ℕ} {xs : List ℕ} → (get_or marks i 0 ≡ 1 → ⊥) → Between marks g i (i + 1) xs xs
  between_skip {i} {xs} off = between_none xs (λ j l h e. let q : j ≡ i = omega arith in off (rw q at e))

-- ---- a part in the making: the sites below i are done
pub record Upto (marks : List ℕ) (g : ℕ → ℕ) (from to i : ℕ) (xs ys : List ℕ) : Type 0 where
  pub low : from ≤ i
  pub high : i ≤ to
  pub done : Between marks g from i xs ys

pub upto_start : (marks : List ℕ) (g : ℕ → ℕ) {from to : ℕ} (xs : List ℕ) → from ≤ to → Upto marks g from to from xs xs
upto_start marks g {from} xs h = record { low = le_refl from; high = h; done = between_start marks g from xs }

pub upto_more : {marks : List ℕ} {g : ℕ → ℕ} {from to i j : ℕ} {xs ys zs : List ℕ} → Upto marks g from to i xs ys → i ≤ j → j ≤ to
    → Between marks g i j ys zs → Upto marks g from to j xs zs
upto_more {marks} {g} w l h b = record { low = omega (arith, w.low); high = h; done = between_join marks g w.low l w.done b }

pub upto_end : {marks : List ℕ} {g : ℕ → ℕ} {from to i : ℕ} {xs ys : List ℕ} → Upto marks g from to i xs ys → to ≤ i → Between marks g from to xs ys
upto_end {marks} {g} {from} {to} {i} {xs} {ys} w h = subst (λ (x : ℕ). Between marks g from x xs ys) (le_antisymm w.high h) w.done

-- ---- a look at a part: the flag tells of the sites below i
pub record Scanning (marks : List ℕ) (from to i : ℕ) (none : Bool) : Type 0 where
  pub low : from ≤ i
  pub high : i ≤ to
  pub tells : Test none (NoneMarked marks from i)

pub scan_start : (marks : List ℕ) {from to : ℕ} → from ≤ to → Scanning marks from to from true
scan_start marks {from} h = record { low = le_refl from; high = h; tells = record { says = λ i l h e. omega arith } }

pub scan_more : {marks : List ℕ} {from to i : ℕ} {none b : Bool} → Scanning marks from to i none → i < to → Test b (get_or marks i 0 ≡ 1 → ⊥)
    → Scanning marks from to (i + 1) (none && b)
scan_more {marks} {from} {to} {i} {none} {b} w l t = record {
  low = omega (arith, w.low);
  high = omega arith;
  tells = same (NoneMarked marks from (i + 1)) (λ h j low high. go j low high h.0 h.1 (ℕ_discrete j i))
      (λ h. ((λ j low high. h j low (omega arith)), h i w.low (omega arith))) (both w.tells t);
}
  where
    go : (j : ℕ) → from ≤ j → j < i + 1 → NoneMarked marks from i → (get_or marks i 0 ≡ 1 → ⊥) → Dec (j ≡ i) → get_or marks j 0 ≡ 1 → ⊥
    go j low high before here (yes q) = rw q here
    go j low high before here (no q) = before j low (omega arith)

pub scan_end : {marks : List ℕ} {from to i : ℕ} {none : Bool} → Scanning marks from to i none → to ≤ i → Tells none (NoneMarked marks from to)
scan_end {marks} {from} {to} {i} {none} w h = subst (λ (x : ℕ). Tells none (NoneMarked marks from x)) (le_antisymm w.high h) w.tells.says
