-- A word that is settled place by place: the smallest that is left is taken, and its bit is cleared.
use Prim.Native.Nat.{ℕ, ◌+◌, ◌*◌, ◌%◌, ◌^◌, ◌≤◌, ◌<◌}
use mathlib.Core.Path.{◌≡◌, refl, sym, ◌∙◌, ap}
use mathlib.Core.Logic.{◌⊎◌, inl, inr, ◌≢◌}
use mathlib.Core.Bool.{Bool, true, false, not, ◌&&◌}
use mathlib.Core.List.{List}
use native.Mathlib.Omega.{arith}
use native.Mathlib.Decide.{ℕ_discrete}
use native.Mathlib.Nat.{le_antisymm}
use borrow.Author.Tests.{eq-eqb, ne_eqb}
use lib.Bits.{bit_and, bit_xor}
use lib.Dec.{eqb}
use lib.ListN.{length, get_or, set, length-set}
use lib.Seq.{get_or-set_same, get_or-set_other}
use Rattle.lemmas.specs.Bools.{never, and_left, and_right}
use Rattle.lemmas.specs.Places.{Placed, Unplaced, place}
use Rattle.columns.specs.Column.{bit_of}
use Rattle.matching.specs.Bits.{alike, and_bit, xor_bit, one_bit, no_bit, full_bit, Lowest}
use Rattle.matching.specs.Fitting.{Fitted, Begun, Goes, Next, begun_none, begun_more, begun_least, goes_none, goes_more, goes_nowhere}
use Rattle.matching.specs.Least.{bits_of, Row, LeastRow}
use Rattle.matching.proofs.Bytes.{shifted}

-- the first k places of ys are settled from the bytes of xs, and the bits of `free` are the places that are left
pub record Going (xs : List ℕ) (k free : ℕ) (ys : List ℕ) : Type 0 where
  pub reached : k ≤ length xs
  pub long : length ys ≡ length xs
  pub rest : (j : ℕ) → k ≤ j → get_or ys j 0 ≡ get_or xs j 0
  pub begun : Begun (length xs) (bits_of xs) k (λ i. get_or ys i 0)
  pub taken : (i : ℕ) → i < k → bit_of free (get_or ys i 0) ≡ false
  pub left : (j : ℕ) → j < 8 → Unplaced k (λ i. get_or ys i 0) j → bit_of free j ≡ true
  pub goes : Fitted (length xs) (bits_of xs) → Goes (length xs) (bits_of xs) k (λ i. get_or ys i 0)

pub going_none : (xs : List ℕ) → Going xs 0 255 xs
going_none xs = record {
  reached = omega arith;
  long = refl;
  rest = λ j h. refl;
  begun = begun_none _ _ _;
  taken = λ i h. absurd (omega arith);
  left = λ j h u. full_bit j h;
  goes = goes_none _;
}

both : {a b : Bool} → a ≡ true → b ≡ true → (a && b) ≡ true
both e f = rw (e, f) refl

module _ {xs ys : List ℕ} {k free : ℕ} (row : Row xs) (was : Going xs k free ys) (below : k < length xs) where
  -- a place that is left, by its bit
  pub placed : (j : ℕ) → j < 8 → bit_of free j ≡ false → Placed k (λ i. get_or ys i 0) j
  placed j h e = go (place k (λ i. get_or ys i 0) j)
    where
      go : Placed k (λ i. get_or ys i 0) j ⊎ Unplaced k (λ i. get_or ys i 0) j → Placed k (λ i. get_or ys i 0) j
      go (inl r) = r
      go (inr u) = never (sym e ∙ was.left j h u)

  -- a place from which k may have come but which is not among those left is taken
  gone : (j : ℕ) → j < 8 → bit_of (get_or xs k 0) j ≡ true → bit_of (bit_and (get_or ys k 0) free) j ≡ false → Placed k (λ i. get_or ys i 0) j
  gone j h m e = placed j h (go (bit_of free j) refl)
    where
      go : (b : Bool) → bit_of free j ≡ b → bit_of free j ≡ false
      go false q = q
      go true q = never (sym e ∙ (and_bit (get_or ys k 0) free j ∙ both (ap (λ (x : ℕ). bit_of x j) (was.rest k (omega arith)) ∙ m) q))

  -- none is left
  pub going_stuck : bit_and (get_or ys k 0) free ≡ 0 → Fitted (length xs) (bits_of xs) → ⊥
  going_stuck e f =
      goes_nowhere below
      (λ j h m. gone j (omega (arith, h, row.few)) m (ap (λ (x : ℕ). bit_of x j) e ∙ no_bit j))
      (was.goes f)

  -- the smallest that is left
  module _ {v : ℕ} (low : Lowest 8 (bit_and (get_or ys k 0) free) v) where
    bits : (bit_of (get_or ys k 0) v && bit_of free v) ≡ true
    bits = sym (and_bit (get_or ys k 0) free v) ∙ low.set

    may : bit_of (get_or xs k 0) v ≡ true
    may = ap (λ (x : ℕ). bit_of x v) (sym (was.rest k (omega arith))) ∙ and_left _ _ bits

    is_free : bit_of free v ≡ true
    is_free = and_right (bit_of (get_or ys k 0) v) _ bits

    next : Next (length xs) (bits_of xs) k (λ i. get_or ys i 0) v
    next = record {
      within = row.sound.within k v below low.place may;
      fresh = λ i h e. never (sym (was.taken i h) ∙ (ap (bit_of free) (sym e) ∙ is_free));
      may_come = may;
      smallest = λ j h m. gone j (omega (arith, h, low.place)) m (low.none_below j h);
    }

    abbrev new : List ℕ
    new = set ys k v

    here : get_or new k 0 ≡ v
    here = get_or-set_same ys k v 0 (omega (arith, was.long))

    there : (j : ℕ) → j ≢ k → get_or new j 0 ≡ get_or ys j 0
    there j n = get_or-set_other ys k j v 0 n

    agree : (i : ℕ) → i < k → get_or new i 0 ≡ get_or ys i 0
    agree i h = there i (λ e. omega arith)

    next_here : Next (length xs) (bits_of xs) k (λ i. get_or ys i 0) (get_or new k 0)
    next_here = rw here next

    abbrev freed : ℕ
    freed = bit_xor free (1 * 2 ^ v % 256)

    freed_bit : (j : ℕ) → j < 8 → bit_of freed j ≡ not (alike (bit_of free j) (eqb j v))
    freed_bit j h = xor_bit free (1 * 2 ^ v % 256) j ∙ rw (shifted v low.place, one_bit v j low.place h) refl

    other : (x : Bool) → not (alike x false) ≡ x
    other true = refl
    other false = refl

    -- a place below k has its bit cleared before, and the place k now
    taken : (i : ℕ) → i < k + 1 → Dec (i ≡ k) → bit_of freed (get_or new i 0) ≡ false
    taken i h (yes e) =
        rw (e, here) (freed_bit v low.place ∙ rw (is_free, eq-eqb v v refl) refl)
    taken i h (no e) =
        let b : i < k = omega arith in
        let w = was.begun.within i b in
        rw (agree i b)
        (freed_bit (get_or ys i 0) (omega (arith, w, row.few))
        ∙ (ap (λ (x : Bool). not (alike (bit_of free (get_or ys i 0)) x)) (ne_eqb (get_or ys i 0) v (λ q. next.fresh i b (sym q)))
        ∙ (other (bit_of free (get_or ys i 0)) ∙ was.taken i b)))

    left : (j : ℕ) → j < 8 → Unplaced (k + 1) (λ i. get_or new i 0) j → bit_of freed j ≡ true
    left j h u =
        freed_bit j h
        ∙ (ap (λ (x : Bool). not (alike (bit_of free j) x)) (ne_eqb j v (λ q. u k (omega arith) (q ∙ sym here)))
        ∙ (other (bit_of free j) ∙ was.left j h (λ i b q. u i (omega arith) (q ∙ sym (agree i b)))))

    pub going_more : Going xs (k + 1) freed new
    going_more = record {
      reached = omega arith;
      long = length-set ys k v ∙ was.long;
      rest = λ j h. there j (λ e. omega arith) ∙ was.rest j (omega arith);
      begun = begun_more agree was.begun next_here;
      taken = λ i h. taken i h (ℕ_discrete i k);
      left = left;
      goes = λ f. goes_more row.sound.square below agree next_here (was.goes f);
    }

pub going_end : {xs ys : List ℕ} {k free : ℕ} → Going xs k free ys → length xs ≤ k → LeastRow xs true ys
going_end {xs} {ys} {k} {free} w h =
    let e : k ≡ length xs = le_antisymm w.reached h in
    let least = begun_least (rw e at w.begun) in
    record { long = w.long; told = record { by = λ i. get_or ys i 0; fits = least.fits }; least = λ _. least }
