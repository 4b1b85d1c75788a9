-- What `allowed` tells of the bytes at each site, and that it tells alike of the places that may have come from one.
use Rattle.std.specs.Prelude.{ℕ, zero, suc, ◌<◌, ◌≡◌, refl, Bool, true, false, not, ◌||◌, List, eqb, length, get_or}
use Rattle.std.proofs.Common.{sym, arith, eq-eqb, eqb-true}
use Rattle.std.specs.Int.Bits.{bit_xor}
use Rattle.lemmas.specs.Bools.{never, and_left, and_right, every, every_is}
use Rattle.paper.specs.Component.Sizes.{label_of}
use Rattle.columns.specs.Column.{bit_of}
use Rattle.matching.specs.Bits.{alike}
use Rattle.matching.specs.Sources.{may_come, at_site}
use Rattle.matching.specs.Explain.{allowed}

-- ---- tests
pub every_all : (m : ℕ) (f : ℕ → Bool) → ((k : ℕ) → k < m → f k ≡ true) → every m f ≡ true
unfolding every
every_all zero f h = refl
every_all (suc m) f h = rw (h m (omega arith)) (every_all m f (λ k l. h k (omega arith)))

alike_is : (a b : Bool) → alike a b ≡ true → a ≡ b
alike_is true true e = refl
alike_is true false e = sym e
alike_is false true e = e
alike_is false false e = refl

is_alike : (a b : Bool) → a ≡ b → alike a b ≡ true
is_alike true b e = sym e
is_alike false b e = rw (← e) refl

-- not a, or b: where a, b
then_is : (a b : Bool) → (not a || b) ≡ true → a ≡ true → b ≡ true
then_is true b e h = e
then_is false b e h = never h

is_then : (a b : Bool) → (a ≡ true → b ≡ true) → (not a || b) ≡ true
is_then true b h = h refl
is_then false b h = refl

-- ---- one site
pub record Comes (old new pin k j : ℕ) : Type 0 where
  pub shows : bit_of old j ≡ bit_of new k
  pub stays : eqb pin 1 ≡ true → j ≡ k

pub comes_is : (old new pin k j : ℕ) → may_come old new pin k j ≡ true → Comes old new pin k j
comes_is old new pin k j e = record {
  shows = alike_is (bit_of old j) (bit_of new k) (and_left (alike (bit_of old j) (bit_of new k)) (not (eqb pin 1) || eqb j k) e);
  stays = λ p. eqb-true j k (then_is (eqb pin 1) (eqb j k) (and_right (alike (bit_of old j) (bit_of new k)) (not (eqb pin 1) || eqb j k) e) p);
}

pub is_comes : (old new pin k j : ℕ) → Comes old new pin k j → may_come old new pin k j ≡ true
is_comes old new pin k j c =
    rw (is_alike (bit_of old j) (bit_of new k) c.shows) (is_then (eqb pin 1) (eqb j k) (λ p. eq-eqb j k (c.stays p)))

-- ---- each site with the label r
module _ (gauge : ℕ) (olds news labels pins : List ℕ) (r : ℕ) where
  abbrev pub ComesAt : ℕ → ℕ → ℕ → Type 0
  ComesAt k j i = Comes (bit_xor (get_or olds i 0) gauge) (bit_xor (get_or news i 0) gauge) (get_or pins i 0) k j

  abbrev may : ℕ → ℕ → ℕ → Bool
  may k j i = may_come (bit_xor (get_or olds i 0) gauge) (bit_xor (get_or news i 0) gauge) (get_or pins i 0) k j

  pub allowed_is : (k j : ℕ) → allowed gauge olds news labels pins r k j ≡ true → (i : ℕ) → i < length olds → label_of labels i ≡ r → ComesAt k j i
  allowed_is k j e i h q =
      comes_is _ _ _ k j
      (then_is (eqb (label_of labels i) r) (may k j i) (every_is (length olds) (at_site gauge olds news labels pins r k j) e i h)
      (eq-eqb (label_of labels i) r q))

  pub is_allowed : (k j : ℕ) → ((i : ℕ) → i < length olds → label_of labels i ≡ r → ComesAt k j i) → allowed gauge olds news labels pins r k j ≡ true
  is_allowed k j at =
      every_all (length olds) (at_site gauge olds news labels pins r k j)
      (λ i h. is_then (eqb (label_of labels i) r) (may k j i) (λ q. is_comes _ _ _ k j (at i h (eqb-true (label_of labels i) r q))))
