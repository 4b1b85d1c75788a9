-- The sets that are left, narrowed site by site.
use Prim.Native.Nat.{ℕ, ◌+◌, ◌*◌, ◌<◌}
use mathlib.Core.Path.{◌≡◌, refl, sym, ◌∙◌, ap}
use mathlib.Core.Bool.{Bool, true, false, ◌&&◌}
use mathlib.Core.List.{List}
use native.Mathlib.Omega.{arith}
use native.Mathlib.Decide.{ℕ_discrete}
use native.Mathlib.Numerals.{add-one}
use borrow.Author.Tests.{eq-eqb, ne_eqb}
use lib.Bits.{bit_and, bit_xor}
use lib.ListN.{length, get_or, set, length-set}
use lib.Seq.{get_or-set_same, get_or-set_other}
use Rattle.lemmas.specs.Bools.{every}
use Rattle.paper.specs.Component.Sizes.{label_of}
use Rattle.matching.specs.Bits.{bit_in, and_bit}
use Rattle.matching.specs.Sources.{may_come, MayCome, Sites, at_site, at_each, NarrowedBy}

every_more : (i : ℕ) (f : ℕ → Bool) → every (i + 1) f ≡ (f i && every i f)
unfolding every
every_more i f = rw add-one refl

every_none : (f : ℕ → Bool) → every 0 f ≡ true
unfolding every
every_none f = refl

and_true : (b : Bool) → b ≡ (b && true)
and_true true = refl
and_true false = refl

moved : (b e m : Bool) → ((b && e) && m) ≡ (b && (m && e))
moved true true true = refl
moved true true false = refl
moved true false true = refl
moved true false false = refl
moved false e m = refl

pub all_none : (gauge : ℕ) (olds news labels pins xs : List ℕ) → NarrowedBy 0 gauge olds news labels pins xs xs
all_none gauge olds news labels pins xs = record {
  long = refl;
  at = λ r k j hr hk hj. and_true (bit_in (get_or xs r 0) k j)
      ∙ ap (λ (b : Bool). bit_in (get_or xs r 0) k j && b) (sym (every_none (at_site gauge olds news labels pins r k j)));
}

module _
    {gauge i s w : ℕ} {olds news labels pins xs ys : List ℕ} (sites : Sites olds news labels pins xs) (was : NarrowedBy i gauge olds news labels pins xs ys)
    (below : i < length olds) (is : w ≡ label_of labels i) (may : MayCome (bit_xor (get_or olds i 0) gauge) (bit_xor (get_or news i 0) gauge) (get_or pins i 0) s)
  where
    pub inside : w < length ys
    inside = omega (arith, is, sites.below i below, was.long, sites.sets_long)

    abbrev new : List ℕ
    new = set ys w (bit_and (get_or ys w 0) s)

    abbrev mc : ℕ → ℕ → Bool
    mc k j = may_come (bit_xor (get_or olds i 0) gauge) (bit_xor (get_or news i 0) gauge) (get_or pins i 0) k j

    own : (k j : ℕ) → k < 8 → j < 8 → bit_in (get_or new w 0) k j ≡ (bit_in (get_or ys w 0) k j && mc k j)
    own k j hk hj =
        rw (get_or-set_same ys w (bit_and (get_or ys w 0) s) 0 inside)
        (and_bit (get_or ys w 0) s (8 * k + j) ∙ ap (λ (b : Bool). bit_in (get_or ys w 0) k j && b) (may.at k j hk hj))

    at : (r k j : ℕ) → r < length olds → k < 8 → j < 8 → Dec (r ≡ w)
        → bit_in (get_or new r 0) k j ≡ (bit_in (get_or xs r 0) k j && at_each (i + 1) gauge olds news labels pins r k j)
    at r k j hr hk hj (yes e) =
        rw e
        (own k j hk hj
        ∙ (ap (λ (b : Bool). b && mc k j) (was.at w k j (omega (arith, e, hr)) hk hj)
        ∙ (moved (bit_in (get_or xs w 0) k j) (at_each i gauge olds news labels pins w k j) (mc k j)
        ∙ rw (every_more i (at_site gauge olds news labels pins w k j), eq-eqb (label_of labels i) w (sym is)) refl)))
    at r k j hr hk hj (no e) =
        rw (get_or-set_other ys w r (bit_and (get_or ys w 0) s) 0 e)
        (was.at r k j hr hk hj
        ∙ rw (every_more i (at_site gauge olds news labels pins r k j), ne_eqb (label_of labels i) r (λ q. e (sym q ∙ sym is))) refl)

    pub all_more : NarrowedBy (i + 1) gauge olds news labels pins xs new
    all_more = record {
      long = length-set ys w _ ∙ was.long;
      at = λ r k j hr hk hj. at r k j hr hk hj (ℕ_discrete r w);
    }
