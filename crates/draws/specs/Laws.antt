-- Laws of words and numbers: a live source stays live, a number is the first of the next words that is not taken again, and draws leave the source after
-- their words.
use Rattle.std.specs.Prelude.{◌≡◌, ℕ, zero, suc, ◌+◌, ◌-◌, ◌*◌, ◌/◌, ◌%◌, ◌^◌, ◌<◌, ◌≤◌, Bool, true, false, cond, ◌&&◌, List, length, ◌==◌, bit_or, bit_xor, nat_lt, refl}
use Rattle.std.proofs.Common.{sym, ap, ◌∙◌, arith, mod-lt, div-add-mod', mod-eq_of_lt, lt-ltb, le-ltb, eqb-true, eq-eqb}
use Rattle.std.proofs.Math.Arith.{digits_mod}
use Rattle.std.specs.Int.Bits.{xor_zero_r, xor_add_and, or_add_and}
use Rattle.std.proofs.lemmas.Nat.{and_le_l, and_le_r}
use Rattle.paper.specs.Refusal.Rule.{Rule}
use Rattle.draws.specs.declared.Source.{Source}
use Rattle.draws.specs.Answer.{Row, Left}
use Rattle.draws.specs.Words.{source, rotl, word, next, after, is_blank, Live, drawn}
use Rattle.draws.specs.Draw.{flipped, number, high, limit, tried, refused}
use Rattle.draws.specs.Rows.{first_row, swapped, shuffled, permuted, is_identity, retried, row_by, refused_row}
use Rattle.draws.specs.Fill.{stop, go_on, go_down, number_from_one, Fills, entry_at, number_at, number_rules, row_rules}
use Rattle.draws.specs.Promise.{PermutationsFilled, WolffFilled, GreysFilled, NumbersFilled, WolffNumbersFilled}

-- ---- a live source stays live

-- the words fit 64 bits, as those of every source that code holds do
pub record Held (s : Source) : Type 0 where
  pub s0_fits : s.s0 < 2 ^ 64
  pub s1_fits : s.s1 < 2 ^ 64
  pub s2_fits : s.s2 < 2 ^ 64
  pub s3_fits : s.s3 < 2 ^ 64

record Zero (s : Source) : Type 0 where
  s0_zero : s.s0 ≡ 0
  s1_zero : s.s1 ≡ 0
  s2_zero : s.s2 ≡ 0
  s3_zero : s.s3 ≡ 0

record Four (a b c d : Bool) : Type 0 where
  first : a ≡ true
  second : b ≡ true
  third : c ≡ true
  fourth : d ≡ true

clash : false ≡ true → ⊥
clash e = let z : ◌≡◌ {A = ℕ} 0 1 = cc in omega arith

four : (a b c d : Bool) → (a && b && c && d) ≡ true → Four a b c d
four true true true true e = record { first = refl; second = refl; third = refl; fourth = refl }
four true true true false e = absurd (clash e)
four true true false d e = absurd (clash e)
four true false c d e = absurd (clash e)
four false b c d e = absurd (clash e)

blank_zero : (s : Source) → is_blank s ≡ true → Zero s
blank_zero s e =
    let f = four (s.s0 == 0) (s.s1 == 0) (s.s2 == 0) (s.s3 == 0) e in
    record {
      s0_zero = eqb-true s.s0 0 f.first;
      s1_zero = eqb-true s.s1 0 f.second;
      s2_zero = eqb-true s.s2 0 f.third;
      s3_zero = eqb-true s.s3 0 f.fourth;
    }

zero_blank : (s : Source) → Zero s → is_blank s ≡ true
zero_blank s z =
    rw (eq-eqb s.s0 0 z.s0_zero, eq-eqb s.s1 0 z.s1_zero, eq-eqb s.s2 0 z.s2_zero, eq-eqb s.s3 0 z.s3_zero)

xor_none : (a b : ℕ) → bit_xor a b ≡ 0 → a ≡ b
xor_none a b e = omega (arith, xor_add_and a b, and_le_l a b, and_le_r a b)

or_left : (a b : ℕ) → bit_or a b ≡ 0 → a ≡ 0
or_left a b e = omega (arith, or_add_and a b, and_le_l a b, and_le_r a b)

or_right : (a b : ℕ) → bit_or a b ≡ 0 → b ≡ 0
or_right a b e = omega (arith, or_add_and a b, and_le_l a b, and_le_r a b)

rotl_none : (x : ℕ) → rotl x 45 ≡ 0 → x ≡ 0
rotl_none x e =
    let p : x * 2 ^ 45 % 2 ^ 64 ≡ 0 = or_left (x * 2 ^ 45 % 2 ^ 64) (x / 2 ^ 19) e in
    let q : x / 2 ^ 19 ≡ 0 = or_right (x * 2 ^ 45 % 2 ^ 64) (x / 2 ^ 19) e in
    let small : x < 2 ^ 19 = omega (arith, div-add-mod' x (2 ^ 19), mod-lt x {m = 2 ^ 19} (omega arith)) in
    let whole : x * 2 ^ 45 % 2 ^ 64 ≡ x * 2 ^ 45 = mod-eq_of_lt (omega arith) in
    omega arith

-- a number that a shift by 17 leaves is 0: q, what the shift cuts off, is a multiple of 2^17 - 1 and below it, since 2^68 - 1 is one
unshifted : (x : ℕ) → x < 2 ^ 64 → x ≡ x * 2 ^ 17 % 2 ^ 64 → x ≡ 0
unshifted x l e = omega (arith, none, cut)
  where
    q : ℕ
    q = x * 2 ^ 17 / 2 ^ 64

    cut : q * 2 ^ 64 + x ≡ x * 2 ^ 17
    cut = ap (λ (r : ℕ). q * 2 ^ 64 + r) e ∙ div-add-mod' (x * 2 ^ 17) (2 ^ 64)

    none : q ≡ 0
    none =
        let low : q < 131071 = omega (arith, cut) in
        let same : (16 * x) * 131071 + 0 ≡ (2251816993685505 * q) * 131071 + q = omega (arith, cut) in
        sym (digits_mod (2251816993685505 * q) low) ∙ (ap (λ (z : ℕ). z % 131071) (sym same) ∙ digits_mod (16 * x) (omega arith))

zero_before : (s : Source) → Held s → Zero (next s) → Zero s
zero_before s h z =
    let b : s.s3 ≡ s.s1 = xor_none s.s3 s.s1 (rotl_none (bit_xor s.s3 s.s1) z.s3_zero) in
    let n : bit_xor s.s3 s.s1 ≡ 0 = rotl_none (bit_xor s.s3 s.s1) z.s3_zero in
    let p : s.s0 ≡ 0 = xor_none s.s0 (bit_xor s.s3 s.s1) z.s0_zero ∙ n in
    let a : bit_xor s.s2 s.s0 ≡ s.s2 = ap (λ (x : ℕ). bit_xor s.s2 x) p ∙ xor_zero_r s.s2 in
    let q : s.s1 ≡ s.s2 = xor_none s.s1 (bit_xor s.s2 s.s0) z.s1_zero ∙ a in
    let t : bit_xor s.s2 s.s0 ≡ s.s1 * 2 ^ 17 % 2 ^ 64 = xor_none (bit_xor s.s2 s.s0) (s.s1 * 2 ^ 17 % 2 ^ 64) z.s2_zero in
    let r : s.s1 ≡ 0 = unshifted s.s1 h.s1_fits (q ∙ (sym a ∙ t)) in
    record { s0_zero = p; s1_zero = r; s2_zero = sym q ∙ r; s3_zero = b ∙ r }

pub live_next : (s : Source) → Held s → Live s → Live (next s)
live_next s h l = go (is_blank (next s)) refl
  where
    go : (b : Bool) → is_blank (next s) ≡ b → is_blank (next s) ≡ false
    go false e = e
    go true e = absurd (clash (sym l ∙ zero_blank s (zero_before s h (blank_zero (next s) e))))

-- ---- a number is the first of the next words that is not taken again

after_next : (k : ℕ) (s : Source) → after k (next s) ≡ after (suc k) s
unfolding after
after_next zero s = refl
after_next (suc k) s = ap next (after_next k s)

abbrev pub Taken : ℕ → Source → ℕ → Type 0
Taken m s k = high (word (after k s)) < limit m

abbrev pub Again : ℕ → Source → ℕ → Type 0
Again m s k = limit m ≤ high (word (after k s))

pub tried_first :
    (lent : Source) (budget m : ℕ) (s : Source) (k : ℕ) → k < budget → Taken m s k → ((j : ℕ) → j < k → Again m s j)
    → tried lent budget m s ≡ drawn 0 (high (word (after k s)) % m) (after (suc k) s)
unfolding tried after
tried_first lent zero m s k l t f = absurd (omega arith)
tried_first lent (suc b) m s zero l t f = rw (lt-ltb (high (word s)) (limit m) t)
tried_first lent (suc b) m s (suc k) l t f =
    rw (le-ltb (high (word s)) (limit m) (f 0 (omega arith)))
    (tried_first lent b m (next s) k (omega arith) (rw (after_next k s) t) (λ j q. rw (after_next j s) (f (suc j) (omega arith)))
    ∙ ap (λ (x : Source). drawn 0 (high (word x) % m) (next x)) (after_next k s))

pub tried_none : (lent : Source) (budget m : ℕ) (s : Source) → ((j : ℕ) → j < budget → Again m s j) → tried lent budget m s ≡ refused lent
unfolding tried after
tried_none lent zero m s f = refl
tried_none lent (suc b) m s f =
    rw (le-ltb (high (word s)) (limit m) (f 0 (omega arith)))
    (tried_none lent b m (next s) (λ j q. rw (after_next j s) (f (suc j) (omega arith))))

-- ---- the source after draws is the source after their words

pub record Words (s t : Source) : Type 0 where
  pub count : ℕ
  pub is : t ≡ after count s

words_none : (s : Source) → Words s s
unfolding after
words_none s = record { count = 0; is = refl }

after_both : (j k : ℕ) (s : Source) → after j (after k s) ≡ after (j + k) s
unfolding after
after_both zero k s = rw (zero_plus k)
  where
    zero_plus : (x : ℕ) → 0 + x ≡ x
    zero_plus x = omega arith
after_both (suc j) k s = rw (suc_plus j k) (ap next (after_both j k s))
  where
    suc_plus : (x y : ℕ) → suc x + y ≡ suc (x + y)
    suc_plus x y = omega arith

words_both : {s t u : Source} → Words s t → Words t u → Words s u
words_both {s} p q = record { count = q.count + p.count; is = q.is ∙ (ap (after q.count) p.is ∙ after_both q.count p.count s) }

words_next : (s : Source) → Words s (next s)
unfolding after
words_next s = record { count = 1; is = refl }

-- refused, none
pub tried_words : (budget m : ℕ) (s lent : Source) → Words lent s → Words lent (tried lent budget m s).source
unfolding tried
tried_words zero m s lent w = words_none lent
tried_words (suc b) m s lent w = side (nat_lt (high (word s)) (limit m)) (tried_words b m (next s) lent (words_both w (words_next s)))
  where
    side : (c : Bool) → Words lent (tried lent b m (next s)).source
        → Words lent (cond c (drawn 0 (high (word s) % m) (next s)) (tried lent b m (next s))).source
    side true h = words_both w (words_next s)
    side false h = h

pub stop_words : (leaves : Source → Source) → ((t : Source) → Words t (leaves t)) → (n : ℕ) (s : Source) → Words s (stop leaves n s)
unfolding stop
stop_words leaves f zero s = words_none s
stop_words leaves f (suc n) s = words_both (stop_words leaves f n s) (f (stop leaves n s))

pub numbers_words : (m n : ℕ) (s : Source) → Words s (stop (go_on (number m)) n s)
numbers_words m = stop_words (go_on (number m)) (λ t. tried_words 64 m t t (words_none t))

-- n coins take n words
pub flips_words : (n : ℕ) (s : Source) → stop (go_on flipped) n s ≡ after n s
unfolding stop after
flips_words zero s = refl
flips_words (suc n) s = ap next (flips_words n s)

-- a permutation's words are those of its numbers, a Wolff row's those of its tries
either_words : {s : Source} (b : Bool) (p q : Row) → Words s p.source → Words s q.source → Words s (cond b p q).source
either_words true p q v w = v
either_words false p q v w = w

shuffled_words : (i : ℕ) (xs : List ℕ) (s lent : Source) → Words lent s → Words lent (shuffled lent i xs s).source
unfolding shuffled
shuffled_words zero xs s lent w = w
shuffled_words (suc i) xs s lent w =
    let d = number (suc i + 1) s in
    either_words (d.refusal == 0) (shuffled lent i (swapped xs (suc i) d.value) d.source) (refused_row lent)
    (shuffled_words i (swapped xs (suc i) d.value) d.source lent (words_both w (tried_words 64 (suc i + 1) s s (words_none s)))) (words_none lent)

pub permuted_words : (n : ℕ) (s : Source) → Words s (permuted n s).source
permuted_words n s = shuffled_words (n - 1) (first_row n) s s (words_none s)

pub retried_words : (budget n : ℕ) (s lent : Source) → Words lent s → Words lent (retried lent budget n s).source
unfolding retried
retried_words zero n s lent w = words_none lent
retried_words (suc k) n s lent w =
    let r = permuted n s in
    let v = words_both w (permuted_words n s) in
    either_words (r.refusal == 0) (cond (is_identity n r.row) (retried lent k n r.source) r) (refused_row lent)
    (either_words (is_identity n r.row) (retried lent k n r.source) r (retried_words k n r.source lent v) v) (words_none lent)

pub row_words : (moving : Bool) (n : ℕ) (s : Source) → Words s (row_by moving n s).source
row_words true n s = retried_words 64 n s s (words_none s)
row_words false n s = permuted_words n s

pub rows_words : (moving : Bool) (n k : ℕ) (s : Source) → Words s (stop (go_down moving n) k s)
rows_words moving n = stop_words (go_down moving n) (row_words moving n)

-- so the source that a fill hands back is the source lent after some words; refused, after none
module _ (s : Source) (xs : List ℕ) (l : Left) (ys : List ℕ) where
  fills_words : (rs : List Rule) (at : ℕ → ℕ) {t : Source} → Words s t → Fills rs at t s xs l.refusal l.source ys → Words s l.source
  fills_words rs at {t} w = side l.refusal
    where
      side : (c : ℕ) → Fills rs at t s xs c l.source ys → Words s l.source
      side zero f = record { count = w.count; is = f.written.source ∙ w.is }
      side (suc c) f = record { count = (words_none s).count; is = f.source ∙ (words_none s).is }

  pub fill_permutations_words : (n : ℕ) → PermutationsFilled n s xs l ys → Words s l.source
  fill_permutations_words n = fills_words (row_rules false false n (length xs) s) (entry_at false n s) (rows_words false n (length xs / n) s)

  pub wolff_permutations_words : (n : ℕ) → WolffFilled n s xs l ys → Words s l.source
  wolff_permutations_words n = fills_words (row_rules false true n (length xs) s) (entry_at true n s) (rows_words true n (length xs / n) s)

  pub wolff_greys_words : GreysFilled s xs l ys → Words s l.source
  wolff_greys_words = fills_words (number_rules true 3 3 (length xs) s) (number_at (number_from_one 3) s) (numbers_words 3 (length xs) s)

  pub fill_numbers_words : NumbersFilled s xs l ys → Words s l.source
  fill_numbers_words = fills_words (number_rules true 256 120 (length xs) s) (number_at (number 120) s) (numbers_words 120 (length xs) s)

  pub wolff_numbers_words : WolffNumbersFilled s xs l ys → Words s l.source
  wolff_numbers_words = fills_words (number_rules true 119 119 (length xs) s) (number_at (number_from_one 119) s) (numbers_words 119 (length xs) s)

-- from the words 1, 2, 3, 4
pub first_words : (word (source 1 2 3 4) ≡ 11520) × (word (next (source 1 2 3 4)) ≡ 0)
first_words = (refl, refl)
