-- A number written digit by digit, and how many digits it has.
use Prim.Native.Nat.{ℕ, suc, ◌+◌, ◌/◌, ◌%◌, ◌≤◌, ◌<◌}
use mathlib.Core.Path.{◌≡◌, refl, sym}
use mathlib.Core.Bool.{true, false}
use mathlib.Core.List.{List, [], ◌∷◌, ◌++◌, append_assoc}
use native.Mathlib.Omega.{arith}
use lib.ListN.{length, set, length-append}
use lib.IntN.{ℤ, pos, negsuc, nat_abs}
use lib.Signed.{lt_z}
use borrow.Author.Tests.{ltb-true}
use Rattle.edge_text.specs.declared.Edge.{Edge}
use Rattle.edge_text.specs.Decimal.{decimal, decimal_one, decimal_more, decimal_started, Started}
use Rattle.edge_text.specs.Decimal.Started.{digit}
use Rattle.edge_text.specs.Form.{signed, line_of, head_of}
use Rattle.edge_text.specs.Writing.{then, signed_end, Put, Long, Room, put_one, put_both, put_long}

-- ---- lengths
pub longer : (v : ℕ) → 10 ≤ v → length (decimal v) ≡ suc (length (decimal (v / 10)))
longer v l = let e = length-append (decimal (v / 10)) ((48 + v % 10) ∷ []) in rw (decimal_more v l) (omega arith)

pub some_digits : (v : ℕ) → 0 < length (decimal v)
some_digits v = at (decimal_started v)
  where
    at : {ds : List ℕ} → Started ds → 0 < length ds
    at (digit h) = omega arith

pub one_digit : (v : ℕ) → v < 10 → Long (decimal v) 7 1
one_digit v l = record { bytes = rw (decimal_one v l) refl; few = omega arith }

-- a digit more than v / 10 has, k
more_digits : (v k : ℕ) → 10 ≤ v → k < 7 → Long (decimal (v / 10)) 7 k → Long (decimal v) 7 (suc k)
more_digits v k l s h = record { bytes = let e = longer v l in let b = h.bytes in omega arith; few = omega arith }

pub two_digits : (v : ℕ) → 10 ≤ v → v < 100 → Long (decimal v) 7 2
two_digits v l h = more_digits v 1 l (omega arith) (one_digit (v / 10) (omega arith))

pub three_digits : (v : ℕ) → 100 ≤ v → v < 1000 → Long (decimal v) 7 3
three_digits v l h = more_digits v 2 (omega arith) (omega arith) (two_digits (v / 10) (omega arith) (omega arith))

pub four_digits : (v : ℕ) → 1000 ≤ v → v < 10000 → Long (decimal v) 7 4
four_digits v l h = more_digits v 3 (omega arith) (omega arith) (three_digits (v / 10) (omega arith) (omega arith))

pub five_digits : (v : ℕ) → 10000 ≤ v → v < 100000 → Long (decimal v) 7 5
five_digits v l h = more_digits v 4 (omega arith) (omega arith) (four_digits (v / 10) (omega arith) (omega arith))

pub six_digits : (v : ℕ) → 100000 ≤ v → v < 1000000 → Long (decimal v) 7 6
six_digits v l h = more_digits v 5 (omega arith) (omega arith) (five_digits (v / 10) (omega arith) (omega arith))

pub seven_digits : (v : ℕ) → 1000000 ≤ v → v < 10000000 → Long (decimal v) 7 7
seven_digits v l h = more_digits v 6 (omega arith) (omega arith) (six_digits (v / 10) (omega arith) (omega arith))

-- ---- a signed number
pub below_zero : (z : ℤ) → lt_z z (pos 0) ≡ true → signed z ≡ 45 ∷ decimal (nat_abs z)
below_zero (pos v) h = absurd (omega (arith, ltb-true v 0 h))
below_zero (negsuc v) h = refl

pub from_zero : (z : ℤ) → lt_z z (pos 0) ≡ false → signed z ≡ decimal (nat_abs z)
from_zero (pos v) h = refl
from_zero (negsuc v) h = let z : ◌≡◌ {A = ℕ} 0 1 = cc in absurd (omega arith)

-- ---- a line and the first line
pub line_long : (e : Edge) → length (line_of e) ≡ length (decimal (suc e.from)) + length (decimal (suc e.to)) + length (signed e.coupling) + 3
line_long e =
    let p = length-append (decimal (suc e.from)) (32 ∷ (decimal (suc e.to) ++ (32 ∷ (signed e.coupling ++ (10 ∷ []))))) in
    let q = length-append (decimal (suc e.to)) (32 ∷ (signed e.coupling ++ (10 ∷ []))) in
    let r = length-append (signed e.coupling) (10 ∷ []) in
    omega arith

pub head_long : (n m : ℕ) → length (head_of n m) ≡ length (decimal n) + length (decimal m) + 2
head_long n m =
    let p = length-append (decimal n) (32 ∷ (decimal m ++ (10 ∷ []))) in
    let q = length-append (decimal m) (10 ∷ []) in
    omega arith

-- ---- stores
pub put_digit : (before : List ℕ) (a v : ℕ) → v < 10 → Put (decimal v) before a (a + 1) (set before a (48 + v))
put_digit before a v l = rw (decimal_one v l) (put_one before a (48 + v))

pub put_more : (before mid : List ℕ) (a v e : ℕ) → 10 ≤ v → Put (decimal (v / 10)) before a e mid
    → Put (decimal v) before a (e + 1) (set mid e (48 + v % 10))
put_more before mid a v e l p = rw (decimal_more v l) (put_both p (put_one mid e (48 + v % 10)))

-- the parts of a line and of the first line
pub line_parts : (e : Edge) → line_of e ≡ then (suc e.from) 32 ++ (then (suc e.to) 32 ++ signed_end e.coupling)
line_parts e = sym (simp append_assoc)

pub head_parts : (n m : ℕ) → head_of n m ≡ then n 32 ++ then m 10
head_parts n m = sym (simp append_assoc)

pub then_long : (v c : ℕ) → length (then v c) ≡ length (decimal v) + 1
then_long v c = length-append (decimal v) (c ∷ [])

-- a character and then ws
pub put_then : {ws b0 b2 : List ℕ} (x a : ℕ) {q : ℕ} → Put ws (set b0 a x) (a + 1) q b2 → Put (x ∷ ws) b0 a q b2
put_then {b0 = b0} x a p = put_both (put_one b0 a x) p

-- ---- room for two parts is room for each
module _ (vs ws : List ℕ) (a n : ℕ) (h : a + length (vs ++ ws) ≤ n) where
  pub room_first : Room vs a n
  room_first = record { fits = let e = length-append vs ws in omega arith }

  pub room_second : {b mid : List ℕ} {p : ℕ} → length b ≡ n → Put vs b a p mid → Room ws p (length mid)
  room_second {b} {mid} {p} l q = record { fits = let e = length-append vs ws in omega (arith, q.next, put_long q) }

-- ---- the two ways of a coupling
module _ (z : ℤ) (v : ℕ) (e : v ≡ nat_abs z) where
  module _ (h : lt_z z (pos 0) ≡ true) where
    minus_parts : signed_end z ≡ 45 ∷ then v 10
    minus_parts = rw (e, below_zero z h) refl

    pub minus_room : (a n : ℕ) → a + length (signed_end z) ≤ n → Room (45 ∷ then v 10) a n
    minus_room a n f = record { fits = rw minus_parts at f }

    pub put_minus : {b0 b2 : List ℕ} {a q : ℕ} → Put (then v 10) (set b0 a 45) (a + 1) q b2 → Put (signed_end z) b0 a q b2
    put_minus {a = a} p = rw minus_parts (put_then 45 a p)

  module _ (h : lt_z z (pos 0) ≡ false) where
    plus_parts : signed_end z ≡ then v 10
    plus_parts = rw (e, from_zero z h) refl

    pub plus_room : (a n : ℕ) → a + length (signed_end z) ≤ n → Room (then v 10) a n
    plus_room a n f = record { fits = rw plus_parts at f }

    pub put_plus : {b0 b2 : List ℕ} {a q : ℕ} → Put (then v 10) b0 a q b2 → Put (signed_end z) b0 a q b2
    put_plus p = rw plus_parts p
