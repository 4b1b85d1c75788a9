-- Lists after stores: one store, and a buffer that a loop writes from its front.
use Rattle.std.specs.Prelude.{ℕ, ◌+◌, ◌≤◌, ◌<◌, ◌≡◌, refl, List, length, get_or, set}
use Rattle.std.proofs.Common.{◌∙◌, sym, arith, length-set, get_or-set_same, get_or-set_other, ext_get_or, le_of_suc-le-suc, add-one, below_more}
use Rattle.std.proofs.Math.Decide.{ℕ_discrete, dec_lt}
use Rattle.std.proofs.Math.ListN.{get_or-eq_default}
use Rattle.std.proofs.Math.Numerals.{lt_of_le_of_ne}

-- the first i elements are f 0, f 1, .., and the others are as they were
pub record Filled {A : Type 0} (d : A) (f : ℕ → A) (i : ℕ) (xs ys : List A) : Type 0 where
  pub long : length ys ≡ length xs
  pub done : (j : ℕ) → j < i → get_or ys j d ≡ f j
  pub rest : (j : ℕ) → i ≤ j → get_or ys j d ≡ get_or xs j d

-- all of it is written
abbrev pub Whole : {A : Type 0} → A → (ℕ → A) → List A → List A → Type 0
Whole d f xs ys = Filled d f (length xs) xs ys

pub filled_none : {A : Type 0} (d : A) (f : ℕ → A) (xs : List A) → Filled d f 0 xs xs
filled_none d f xs = record { long = refl; done = λ j h. absurd (omega arith); rest = λ j h. refl }

pub filled_more :
    {A : Type 0} {d : A} {f : ℕ → A} {i : ℕ} {xs ys : List A} {v : A}
    → Filled d f i xs ys → i < length xs → v ≡ f i → Filled d f (i + 1) xs (set ys i v)
filled_more {A} {d} {f} {i} {xs} {ys} {v} was h e =
    record {
      long = length-set ys i v ∙ was.long;
      done = λ j l. at j l (ℕ_discrete j i);
      rest = λ j l. get_or-set_other ys i j v d (λ q. omega arith) ∙ was.rest j (omega arith);
    }
  where
    at : (j : ℕ) → j < i + 1 → Dec (j ≡ i) → get_or (set ys i v) j d ≡ f j
    at j l (yes q) = rw q (get_or-set_same ys i v d (omega (arith, was.long)) ∙ e)
    at j l (no q) = get_or-set_other ys i j v d q ∙ was.done j (omega arith)

-- the number of places, written in another way
pub filled_to : {A : Type 0} {d : A} {f : ℕ → A} {i j : ℕ} {xs ys : List A} → Filled d f i xs ys → i ≡ j → Filled d f j xs ys
filled_to {A} {d} {f} {i} {j} {xs} {ys} w e = rw (← e) w

-- what stands at y after a store at x
pub data AfterSet (p : List ℕ) (x v y : ℕ) : Type 0 where
  here : y ≡ x → get_or (set p x v) y 0 ≡ v → AfterSet p x v y
  there : (y ≡ x → ⊥) → get_or (set p x v) y 0 ≡ get_or p y 0 → AfterSet p x v y

pub after_set : (p : List ℕ) (x v y : ℕ) → x < length p → AfterSet p x v y
after_set p x v y h = go (ℕ_discrete y x)
  where
    go : Dec (y ≡ x) → AfterSet p x v y
    go (yes e) = here e (rw e (get_or-set_same p x v 0 h))
    go (no ne) = there ne (get_or-set_other p x y v 0 ne)

-- a number below i + 1 other than i is below i
pub lt_of_ne : {x i : ℕ} → x < i + 1 → (x ≡ i → ⊥) → x < i
lt_of_ne l ne = lt_of_le_of_ne (le_of_suc-le-suc (rw add-one at l)) ne

-- a turn that stores nothing
pub filled_skip :
    {A : Type 0} {d : A} {f : ℕ → A} {i : ℕ} {xs ys : List A}
    → Filled d f i xs ys → get_or xs i d ≡ f i → Filled d f (i + 1) xs ys
filled_skip {A} {d} {f} {i} {xs} {ys} was e = record {
  long = was.long;
  done = below_more (λ k. get_or ys k d ≡ f k) i was.done (was.rest i (omega arith) ∙ e);
  rest = λ j l. was.rest j (omega arith);
}

pub filled_unique : {A : Type 0} (d : A) (f : ℕ → A) (i : ℕ) (xs ys zs : List A) → Filled d f i xs ys → Filled d f i xs zs → ys ≡ zs
filled_unique d f i xs ys zs a b = ext_get_or d ys zs (a.long ∙ sym b.long) (λ k h. there k (dec_lt k i))
  where
    there : (k : ℕ) → Dec (k < i) → get_or ys k d ≡ get_or zs k d
    there k (yes l) = a.done k l ∙ sym (b.done k l)
    there k (no l) = a.rest k (omega arith) ∙ sym (b.rest k (omega arith))

-- n noughts
pub record Cleared (n : ℕ) (xs : List ℕ) : Type 0 where
  pub long : length xs ≡ n
  pub zeros : (x : ℕ) → x < n → get_or xs x 0 ≡ 0

-- a place behind them reads as 0 too
pub cleared_all : {n : ℕ} {xs : List ℕ} → Cleared n xs → (k : ℕ) → get_or xs k 0 ≡ 0
cleared_all {n} {xs} c k = at (dec_lt k n)
  where
    at : Dec (k < n) → get_or xs k 0 ≡ 0
    at (yes l) = c.zeros k l
    at (no l) = get_or-eq_default xs 0 (omega (arith, c.long))

pub cleared_by : {xs ys : List ℕ} {i : ℕ} → Filled 0 (λ x. 0) i xs ys → length ys ≤ i → Cleared (length xs) ys
cleared_by f h = record { long = f.long; zeros = λ x l. f.done x (omega (arith, f.long)) }
