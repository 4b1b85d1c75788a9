-- The number of the components of one site, and the list of the others' tallies.
use Prim.Native.Nat.{ℕ, ◌+◌, ◌-◌, ◌≤◌, ◌<◌, zero-le}
use mathlib.Core.Path.{◌≡◌, refl, sym, ap, ◌∙◌}
use mathlib.Core.Bool.{Bool, true, false, not, ◌&&◌}
use mathlib.Core.List.{List}
use lib.Seq.{get_or-set_same, get_or-set_other}
use native.Mathlib.Nat.{lt_irrefl, add-zero, le_antisymm}
use native.Mathlib.Omega.{arith}
use lib.Dec.{eqb}
use lib.ListN.{length, get_or, set, length-set}
use Rattle.lemmas.specs.Counts.{bit, count_where, bit_le, count_none, count_suc, count_no, count_ext}
use Rattle.sizes.specs.Contract.{is_one}
use Rattle.sizes.specs.Steps.{Picking, single, several, Picked}

-- how many of the first k components that have not one site have a tally that passes
abbrev below : List ℕ → List ℕ → (ℕ → Bool) → ℕ → ℕ
below tally bytes f k = count_where (λ j. several tally bytes j && f (get_or tally j 0)) k

-- `gather_sizes` has taken the first k components: all that are counted have one site or are listed
pub record Pick (found : ℕ) (tally bytes : List ℕ) (room : ℕ) (list : List ℕ) (all m k : ℕ) : Type 0 where
  pub long : length list ≡ room
  pub reached : k ≤ found
  pub few : all ≤ k
  pub split : all ≡ count_where (single tally bytes) k + m
  pub same : (f : ℕ → Bool) → count_where (λ t. f (get_or list t 0)) m ≡ below tally bytes f k

pub pick_none : (found : ℕ) (tally bytes list : List ℕ) → Pick found tally bytes (length list) list 0 0 0
pick_none found tally bytes list = record {
  long = refl;
  reached = zero-le;
  few = zero-le;
  split = omega (arith, count_none (single tally bytes));
  same = λ f. count_none (λ t. f (get_or list t 0)) ∙ sym (count_none (λ j. several tally bytes j && f (get_or tally j 0)));
}

-- what is counted has one site or not
halves : (a q : Bool) → bit a ≡ bit (a && q) + bit (a && not q)
halves true true = refl
halves true false = refl
halves false q = refl

module _
    {found : ℕ} {tally bytes : List ℕ} {room : ℕ} {list : List ℕ} {all m k : ℕ}
    (h : Pick found tally bytes room list all m k) (g : Picking found tally bytes room) (kl : k < found)
  where
    listed_le : m ≤ all
    listed_le = omega (arith, h.split)

    pub pick_room : m < length list
    pick_room = omega (arith, h.long, listed_le, h.few, g.fits)

    abbrev size : ℕ
    size = get_or tally k 0

    abbrev new : List ℕ
    new = set list m size

    before : (t : ℕ) → t < m → get_or new t 0 ≡ get_or list t 0
    before t tl = get_or-set_other list m t size 0 (λ e. lt_irrefl m (rw e at tl))

    last : get_or new m 0 ≡ size
    last = get_or-set_same list m size 0 pick_room

    old : (f : ℕ → Bool) → count_where (λ t. f (get_or new t 0)) m ≡ below tally bytes f k
    old f = count_ext (λ t. f (get_or new t 0)) (λ t. f (get_or list t 0)) m (λ t tl. ap f (before t tl)) ∙ h.same f

    sames : (b : Bool) → several tally bytes k ≡ b → (f : ℕ → Bool) → count_where (λ t. f (get_or new t 0)) (m + bit b) ≡ below tally bytes f (k + 1)
    sames true e f =
        count_suc (λ t. f (get_or new t 0)) m
        ∙ (rw (old f, last) (sym (count_suc (λ j. several tally bytes j && f (get_or tally j 0)) k ∙ rw e)))
    sames false e f = rw (add-zero m) (old f ∙ sym (count_no (λ j. several tally bytes j && f (get_or tally j 0)) k (rw e)))

    pub pick_more : (o s : ℕ) → o ≡ bit (is_one bytes k) → s ≡ bit (several tally bytes k) → Pick found tally bytes room new (all + o) (m + s) (k + 1)
    pick_more o s eo es = rw (eo, es) (record {
      long = simp length-set h.long;
      reached = omega arith;
      few = omega (arith, h.few, bit_le (is_one bytes k));
      split = omega (arith, h.split, count_suc (single tally bytes) k, halves (is_one bytes k) (eqb size 1));
      same = sames (several tally bytes k) refl;
    })

pub pick_end : {found : ℕ} {tally bytes : List ℕ} {room : ℕ} {list : List ℕ} {all m k : ℕ} → Pick found tally bytes room list all m k → found ≤ k
    → Picked found tally bytes list (all - m) m
pick_end {found} {tally} {bytes} {room} {list} {all} {m} {k} h e = record {
  singles = omega (arith, h.split, ap (count_where (single tally bytes)) whole);
  short = omega (arith, h.split, h.few, h.reached);
  same = λ f. h.same f ∙ ap (below tally bytes f) whole;
}
  where
    whole : k ≡ found
    whole = le_antisymm h.reached e
