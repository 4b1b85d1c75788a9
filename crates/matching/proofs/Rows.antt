-- Sets settled one after another.
use Prim.Native.Nat.{ℕ, ◌+◌, ◌-◌, ◌*◌, ◌≤◌, ◌<◌}
use mathlib.Core.Path.{◌≡◌, refl, sym, ◌∙◌, ap}
use mathlib.Core.Bool.{Bool, true, false}
use mathlib.Core.List.{List}
use native.Mathlib.Omega.{arith}
use native.Mathlib.Decide.{ℕ_discrete}
use borrow.Author.Tests.{eq-eqb, lt-ltb}
use lib.Bits.{bit_and}
use lib.ListN.{length, get_or, take, drop}
use Rattle.lemmas.specs.Bools.{and_left}
use Rattle.lemmas.specs.Stores.{Whole}
use Rattle.lemmas.specs.Tells.{Tells}
use Rattle.columns.specs.Column.{bit_of}
use Rattle.tasks.specs.Parts.{back}
use Rattle.orders.specs.Words.{word_at}
use Rattle.matching.specs.Bits.{bit_in, byte_of, byte_bit, and_bit}
use Rattle.matching.specs.Fitting.{Fitted, Least, identity_least}
use Rattle.matching.specs.Least.{bits_of, Row, LeastRow, Own, Word, LeastWord, Words, Settled}
use Rattle.matching.proofs.Alike.{Alike, fitted_alike, least_alike, sound_alike}
use Rattle.matching.proofs.Parts.{room, lent_at, lent_long, put_long, put_own, put_other}

-- ---- one set
module _ {own set : ℕ} {xs : List ℕ} (w : Word own set xs) where
  -- each place may have come from itself
  pub settled_own : bit_and set own ≡ own → LeastWord set xs true xs
  settled_own e = record {
    long = refl;
    told = record { by = λ k. get_or xs k 0; fits = least.fits };
    least = λ _. least;
  }
    where
      itself : (k : ℕ) → k < length xs → bit_in set k k ≡ true
      itself k h =
          let b : k < 8 = omega (arith, h, w.few) in
          and_left (bit_in set k k) (bit_in own k k)
          (sym (and_bit set own (8 * k + k)) ∙ (ap (λ (x : ℕ). bit_in x k k) e ∙ (w.own_is.at k k b b ∙ rw (eq-eqb k k refl, lt-ltb k (length xs) h) refl)))

      least : Least (length xs) (bit_in set) (λ k. get_or xs k 0)
      least = least_alike (λ k j hk hj. refl) w.identity (identity_least itself)

  module _ {ys : List ℕ} (filled : Whole 0 (byte_of set) xs ys) where
    bits : (k j : ℕ) → k < length xs → j < 8 → bits_of ys k j ≡ bit_in set k j
    bits k j hk hj = ap (λ (x : ℕ). bit_of x j) (filled.done k hk) ∙ byte_bit set k j hj

    pub row_asks : Row ys
    row_asks = record { few = rw filled.long w.few; sound = rw filled.long (sound_alike bits w.few w.sound) }

    alike : Alike (length xs) (bit_in set) (bits_of ys)
    alike k j hk hj = sym (bits k j hk (omega (arith, hj, w.few)))

    pub settled_row : {r : Bool} {zs : List ℕ} → LeastRow ys r zs → LeastWord set xs r zs
    settled_row {r} {zs} v = record {
      long = v.long ∙ filled.long;
      told = told r v.told;
      least = λ e. least_alike alike (λ k h. refl) (rw filled.long at (v.least e));
    }
      where
        told : (r : Bool) → Tells r (Fitted (length ys) (bits_of ys)) → Tells r (Fitted (length xs) (bit_in set))
        told true f = fitted_alike alike (rw filled.long at f)
        told false f = λ g. f (rw filled.long (fitted_alike (λ k j hk hj. sym (alike k j hk hj)) g))

-- ---- the first r of them are settled, and the other rows are as they were
pub record Settling (m : ℕ) (sets xs : List ℕ) (r : ℕ) (ys : List ℕ) : Type 0 where
  pub reached : r ≤ length sets
  pub long : length ys ≡ length xs
  pub least : (s : ℕ) → s < r → Least m (bit_in (get_or sets s 0)) (word_at m ys s)
  pub rest : (s k : ℕ) → r ≤ s → k < m → word_at m ys s k ≡ word_at m xs s k

pub settling_none : (m : ℕ) (sets xs : List ℕ) → Settling m sets xs 0 xs
settling_none m sets xs = record { reached = omega arith; long = refl; least = λ s h. absurd (omega arith); rest = λ s k h l. refl }

module _ {m r : ℕ} {sets xs ys : List ℕ} (words : Words m sets xs) (was : Settling m sets xs r ys) (below : r < length sets) where
  pub fits : r * m + m ≤ length ys
  fits = room (length sets) m r ys (was.long ∙ words.long) below

  abbrev lent : List ℕ
  lent = take (r * m + m - r * m) (drop (r * m) ys)

  pub word_asks : {own : ℕ} → Own m own → Word own (get_or sets r 0) lent
  word_asks o = record {
    few = rw (lent_long m r ys fits) words.members.high;
    own_is = rw (lent_long m r ys fits) o;
    sound = rw (lent_long m r ys fits) (words.sound r below);
    identity = λ k h.
        let l : k < m = rw (lent_long m r ys fits) at h in
        lent_at m r ys fits k l ∙ (was.rest r k (omega arith) l ∙ words.identity r k below l);
  }

  module _ {b : Bool} {zs : List ℕ} (done : LeastWord (get_or sets r 0) lent b zs) where
    zs_long : length zs ≡ m
    zs_long = done.long ∙ lent_long m r ys fits

    abbrev put : List ℕ
    put = back ys (r * m) (r * m + m) zs

    pub put_same : length put ≡ length xs
    put_same = put_long m r ys fits zs zs_long ∙ was.long

    least : (s : ℕ) → s < r → Least m (bit_in (get_or sets s 0)) (word_at m put s)
    least s h = least_alike (λ k j hk hj. refl) (λ k hk. put_other m r ys fits zs zs_long s k (λ e. omega arith) hk) (was.least s h)

    pub settling_more : b ≡ true → Settling m sets xs (r + 1) put
    settling_more e = record {
      reached = omega arith;
      long = put_same;
      least = λ s h. at s h (ℕ_discrete s r);
      rest = λ s k h l. put_other m r ys fits zs zs_long s k (λ q. omega arith) l ∙ was.rest s k (omega arith) l;
    }
      where
        at : (s : ℕ) → s < r + 1 → Dec (s ≡ r) → Least m (bit_in (get_or sets s 0)) (word_at m put s)
        at s h (yes q) =
            rw q
            (least_alike (λ k j hk hj. refl) (λ k hk. put_own m r ys fits zs zs_long k hk) (rw (lent_long m r ys fits) at (done.least e)))
        at s h (no q) = least s (omega arith)

    -- the set r has none
    pub settled_none : (Fitted (length lent) (bit_in (get_or sets r 0)) → ⊥) → Settled m sets xs r put
    settled_none none = record {
      long = put_same;
      most = omega arith;
      least = least;
      none = λ h f. none (rw (lent_long m r ys fits) f);
    }

pub settled_all : {m r : ℕ} {sets xs ys : List ℕ} → Settling m sets xs r ys → length sets ≤ r → Settled m sets xs (length sets) ys
settled_all w h =
    record { long = w.long; most = omega arith; least = λ s l. w.least s (omega (arith, l, h)); none = λ l. absurd (omega arith) }
