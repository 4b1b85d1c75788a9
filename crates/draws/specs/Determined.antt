-- Each function has one result and leaves one content of what was lent.
use Rattle.std.specs.Prelude.{◌≡◌, ℕ, zero, suc, ◌+◌, ◌/◌, ◌<◌, Bool, true, false, List, [], ◌∷◌, length, ◌==◌, slice_index_or, Result}
use Rattle.std.proofs.Common.{refl, ap, ◌∙◌, arith, ext_get_or}
use Rattle.lemmas.specs.Determined.{one_value}
use Rattle.paper.specs.declared.Refusal.{Refusal}
use Rattle.paper.specs.Refusal.Numbers.{verdict_of, verdict_of_injective}
use Rattle.paper.specs.Refusal.Rule.{Rule, broken_unique, broken_not_kept}
use Rattle.paper.specs.Refusal.Verdict.{Verdict, verdict_unique}
use Rattle.draws.specs.declared.Source.{Source}
use Rattle.draws.specs.declared.Drawn as Drawing
use Rattle.draws.specs.declared.Row as Rowing
use Rattle.draws.specs.Answer.{Drawn, Row, Left, taken}
use Rattle.draws.specs.Answer.{drawn_of, row_of, left_of, drawn_of_injective, row_of_injective, left_of_injective}
use Rattle.draws.specs.Words.{source, stepped, is_blank}
use Rattle.draws.specs.Draw.{left, number, flipped, within, new_of, word_of, coin_of, below_of}
use Rattle.draws.specs.Rows.{refused_row, permuted, row_by, permutation_of}
use Rattle.draws.specs.Promise.{WordDrawn, CoinDrawn, BelowDrawn, PermutationDrawn, FlipsFilled, BelowFilled, BytesFilled}
use Rattle.draws.specs.Promise.{PermutationsFilled, WolffFilled, GreysFilled, NumbersFilled, WolffNumbersFilled}
use Rattle.draws.specs.Writing.{DrawnInto}
use Rattle.draws.specs.Fill.{Written, Fills, FillsBy, FillsRows, number_at, entry_at, stop, go_on, go_down, number_from_one, word_rules, number_rules, row_rules}

pub new_determined : (a b c d : ℕ) (x y : Left) → x ≡ new_of (source a b c d) → y ≡ new_of (source a b c d) → x ≡ y
new_determined a b c d x y = one_value

pub is_blank_determined : (s : Source) (x y : Bool) → x ≡ is_blank s → y ≡ is_blank s → x ≡ y
is_blank_determined s x y = one_value

pub next_determined : (s : Source) (x y : Drawn) → x ≡ word_of s → y ≡ word_of s → x ≡ y
next_determined s x y = one_value

pub coin_determined : (s : Source) (x y : Drawn) → x ≡ coin_of s → y ≡ coin_of s → x ≡ y
coin_determined s x y = one_value

pub below_within_determined : (k m : ℕ) (s : Source) (x y : Drawn) → x ≡ below_of k m s → y ≡ below_of k m s → x ≡ y
below_within_determined k m s x y = one_value

pub below_determined : (m : ℕ) (s : Source) (x y : Drawn) → x ≡ below_of 64 m s → y ≡ below_of 64 m s → x ≡ y
below_determined m = below_within_determined 64 m

pub permutation_determined : (n : ℕ) (s : Source) (x y : Row) → x ≡ permutation_of n s → y ≡ permutation_of n s → x ≡ y
permutation_determined n s x y = one_value

pub members_ok_determined : (n : ℕ) (x y : Bool) → x ≡ within 2 8 n → y ≡ within 2 8 n → x ≡ y
members_ok_determined n x y = one_value

pub refused_row_determined : (s : Source) (x y : Row) → x ≡ refused_row s → y ≡ refused_row s → x ≡ y
refused_row_determined s x y = one_value

pub shuffle_determined : (n : ℕ) (s : Source) (x y : Row) → x ≡ permuted n s → y ≡ permuted n s → x ≡ y
shuffle_determined n s x y = one_value

pub row_by_determined : (moving : Bool) (n : ℕ) (s : Source) (x y : Row) → x ≡ row_by moving n s → y ≡ row_by moving n s → x ≡ y
row_by_determined moving n s x y = one_value

pub drawn_number_determined : (m : ℕ) (s : Source) (x y : Drawing.Drawn) → x ≡ taken (number m s) → y ≡ taken (number m s) → x ≡ y
drawn_number_determined m s x y = one_value

-- the tests
pub word_verdict_determined : (fits : Bool) (s : Source) (x y : ℕ) → Verdict (word_rules fits s) x → Verdict (word_rules fits s) y → x ≡ y
word_verdict_determined fits s = verdict_unique (word_rules fits s)

pub number_verdict_determined :
    (fits : Bool) (most m k : ℕ) (s : Source) (x y : ℕ) → Verdict (number_rules fits most m k s) x → Verdict (number_rules fits most m k s) y → x ≡ y
number_verdict_determined fits most m k s = verdict_unique (number_rules fits most m k s)

pub row_verdict_determined :
    (single moving : Bool) (n len : ℕ) (s : Source) (x y : ℕ) → Verdict (row_rules single moving n len s) x → Verdict (row_rules single moving n len s) y
    → x ≡ y
row_verdict_determined single moving n len s = verdict_unique (row_rules single moving n len s)

-- one answer, and one content of what was lent
pub record Same {A : Type 0} (a b : A) (ys zs : List ℕ) : Type 0 where
  pub answer : a ≡ b
  pub buffer : ys ≡ zs

module _ {at : ℕ → ℕ} {t u v : Source} {xs ys zs : List ℕ} where
  same_written : Written at t xs u ys → Written at t xs v zs → Same u v ys zs
  same_written p q = record {
    answer = one_value p.source q.source;
    buffer = ext_get_or 0 ys zs (one_value p.long q.long) (λ i l. one_value (p.each i (omega (arith, p.long))) (q.each i (omega (arith, p.long))));
  }

-- what `write` leaves with the closures of the fills: coins, numbers below m, and these with `plus` added
pub write_flips_determined :
    (s u v : Source) (xs ys zs : List ℕ) → Written (number_at flipped s) (stop (go_on flipped) (length xs) s) xs u ys
    → Written (number_at flipped s) (stop (go_on flipped) (length xs) s) xs v zs → Same u v ys zs
write_flips_determined s u v xs ys zs = same_written

pub write_numbers_determined :
    (m : ℕ) (s u v : Source) (xs ys zs : List ℕ) → Written (number_at (number m) s) (stop (go_on (number m)) (length xs) s) xs u ys
    → Written (number_at (number m) s) (stop (go_on (number m)) (length xs) s) xs v zs → Same u v ys zs
write_numbers_determined m s u v xs ys zs = same_written

pub write_bytes_determined :
    (plus m : ℕ) (s u v : Source) (xs ys zs : List ℕ)
    → Written (λ j. number_at (number m) s j + plus) (stop (go_on (number m)) (length xs) s) xs u ys
    → Written (λ j. number_at (number m) s j + plus) (stop (go_on (number m)) (length xs) s) xs v zs → Same u v ys zs
write_bytes_determined plus m s u v xs ys zs = same_written

-- what `write_rows` leaves
pub write_rows_determined :
    (moving : Bool) (n k : ℕ) (s u v : Source) (xs ys zs : List ℕ) → Written (entry_at moving n s) (stop (go_down moving n) k s) xs u ys
    → Written (entry_at moving n s) (stop (go_down moving n) k s) xs v zs → Same u v ys zs
write_rows_determined moving n k s u v xs ys zs = same_written

-- what `write` leaves with any closure whose contract allows each source no pair but its `value` and `leaves`
pub record SameDrawn {T : Type 0} (u v : Source) (ys zs : List T) : Type 0 where
  pub source : u ≡ v
  pub places : ys ≡ zs

same_places : {T : Type 0} (ys zs : List T) → length ys ≡ length zs
    → ((j : ℕ) (d : T) → j < length ys → slice_index_or ys j d ≡ slice_index_or zs j d) → ys ≡ zs
same_places [] [] e h = refl
same_places [] (z ∷ zs) e h = absurd (omega (arith, e))
same_places (y ∷ ys) zs e h = ext_get_or y (y ∷ ys) zs e (λ j l. h j y l)

pub write_determined :
    {T : Type 0} (Draws : Source → T × Source → Type 0) (value : Source → T) (leaves : Source → Source)
    → ((t : Source) (r : T × Source) → Draws t r → (r.0 ≡ value t) × (r.1 ≡ leaves t))
    → (s u v : Source) (xs ys zs : List T) → DrawnInto Draws s xs u ys → DrawnInto Draws s xs v zs → SameDrawn u v ys zs
write_determined Draws value leaves only s u v xs ys zs p q =
    let a = p.drawn value leaves only in
    let b = q.drawn value leaves only in
    record {
      source = one_value a.0 b.0;
      places = same_places ys zs (one_value p.long q.long) (λ j d l. one_value (a.1 j d (omega (arith, p.long, l))) (b.1 j d (omega (arith, p.long, l))));
    }

-- with one whose contract allows each source one pair: some, and any two are equal
pub record OneEach {T : Type 0} (Draws : Source → T × Source → Type 0) : Type 0 where
  pub some : Source → T × Source
  pub allowed : (t : Source) → Draws t (some t)
  pub one : (t : Source) (r q : T × Source) → Draws t r → Draws t q → r ≡ q

pub write_one_determined :
    {T : Type 0} (Draws : Source → T × Source → Type 0) → OneEach Draws → (s u v : Source) (xs ys zs : List T) → DrawnInto Draws s xs u ys
    → DrawnInto Draws s xs v zs → SameDrawn u v ys zs
write_one_determined {T} Draws f = write_determined Draws (λ t. (f.some t).0) (λ t. (f.some t).1) only
  where
    only : (t : Source) (r : T × Source) → Draws t r → (r.0 ≡ (f.some t).0) × (r.1 ≡ (f.some t).1)
    only t r k = let e = f.one t r (f.some t) k (f.allowed t) in (ap (λ (q : T × Source). q.0) e, ap (λ (q : T × Source). q.1) e)

-- with one that gives what d draws
abbrev pub Gives : (Source → Drawn) → Source → ℕ × Source → Type 0
Gives d t r = (r.0 ≡ (d t).value) × (r.1 ≡ (d t).source)

pub gives_one_each : (d : Source → Drawn) → OneEach (Gives d)
gives_one_each d = record { some = λ t. ((d t).value, (d t).source); allowed = λ t. (refl, refl); one = equal }
  where
    equal : (t : Source) (r q : ℕ × Source) → Gives d t r → Gives d t q → r ≡ q
    equal t r q k l = ap (λ (x : ℕ). (x, r.1)) (one_value k.0 l.0) ∙ ap (λ (u : Source). (q.0, u)) (one_value k.1 l.1)

pub write_draws_determined :
    (d : Source → Drawn) (s u v : Source) (xs ys zs : List ℕ) → DrawnInto (Gives d) s xs u ys → DrawnInto (Gives d) s xs v zs → SameDrawn u v ys zs
write_draws_determined d = write_one_determined (Gives d) (gives_one_each d)

-- a fill has one number, one source and one content
module _ (rs : List Rule) (at : ℕ → ℕ) (t s : Source) (xs : List ℕ) where
  by_number : (a b : ℕ) {u v : Source} {ys zs : List ℕ} → Fills rs at t s xs a u ys → Fills rs at t s xs b v zs → Same (left a u) (left b v) ys zs
  by_number zero zero p q =
      let w = same_written p.written q.written in record { answer = ap (λ (x : Source). left 0 x) w.answer; buffer = w.buffer }
  by_number zero (suc b) p q = absurd (broken_not_kept rs (suc b) q.why p.valid)
  by_number (suc a) zero p q = absurd (broken_not_kept rs (suc a) p.why q.valid)
  by_number (suc a) (suc b) {u} {v} p q = record {
    answer = ap (λ (x : ℕ). left x u) (broken_unique rs (suc a) (suc b) p.why q.why) ∙ ap (λ (x : Source). left (suc b) x)
        (one_value p.source q.source);
    buffer = one_value p.kept q.kept;
  }

  pub fills_determined :
      (x y : Left) (ys zs : List ℕ) → Fills rs at t s xs x.refusal x.source ys → Fills rs at t s xs y.refusal y.source zs → Same x y ys zs
  fills_determined x y ys zs p q = by_number x.refusal y.refusal p q

module _ (s : Source) (xs : List ℕ) (x y : Left) (ys zs : List ℕ) where
  by_draws : (d : Source → Drawn) (rs : List Rule) → FillsBy d rs s xs x ys → FillsBy d rs s xs y zs → Same x y ys zs
  by_draws d rs = fills_determined rs (number_at d s) (stop (go_on d) (length xs) s) s xs x y ys zs

  by_rows : (moving : Bool) (n : ℕ) (rs : List Rule) → FillsRows moving n rs s xs x ys → FillsRows moving n rs s xs y zs → Same x y ys zs
  by_rows moving n rs = fills_determined rs (entry_at moving n s) (stop (go_down moving n) (length xs / n) s) s xs x y ys zs

  pub one_word_determined : WordDrawn s xs x ys → WordDrawn s xs y zs → Same x y ys zs
  one_word_determined = by_draws stepped (word_rules (length xs == 1) s)

  pub one_coin_determined : CoinDrawn s xs x ys → CoinDrawn s xs y zs → Same x y ys zs
  one_coin_determined = by_draws flipped (word_rules (length xs == 1) s)

  pub fill_flips_determined : FlipsFilled s xs x ys → FlipsFilled s xs y zs → Same x y ys zs
  fill_flips_determined = by_draws flipped (word_rules true s)

  pub one_below_determined : (m : ℕ) → BelowDrawn m s xs x ys → BelowDrawn m s xs y zs → Same x y ys zs
  one_below_determined m = by_draws (number m) (number_rules (length xs == 1) 4096 m (length xs) s)

  pub fill_below_determined : (m : ℕ) → BelowFilled m s xs x ys → BelowFilled m s xs y zs → Same x y ys zs
  fill_below_determined m = by_draws (number m) (number_rules true 4096 m (length xs) s)

  pub fill_bytes_below_determined : (m : ℕ) → BytesFilled m s xs x ys → BytesFilled m s xs y zs → Same x y ys zs
  fill_bytes_below_determined m = by_draws (number m) (number_rules true 256 m (length xs) s)

  pub wolff_greys_determined : GreysFilled s xs x ys → GreysFilled s xs y zs → Same x y ys zs
  wolff_greys_determined = by_draws (number_from_one 3) (number_rules true 3 3 (length xs) s)

  pub fill_numbers_determined : NumbersFilled s xs x ys → NumbersFilled s xs y zs → Same x y ys zs
  fill_numbers_determined = fill_bytes_below_determined 120

  pub wolff_numbers_determined : WolffNumbersFilled s xs x ys → WolffNumbersFilled s xs y zs → Same x y ys zs
  wolff_numbers_determined = by_draws (number_from_one 119) (number_rules true 119 119 (length xs) s)

  pub one_permutation_determined : (m : ℕ) → PermutationDrawn m s xs x ys → PermutationDrawn m s xs y zs → Same x y ys zs
  one_permutation_determined m = by_rows false m (row_rules true false m (length xs) s)

  pub fill_permutations_determined : (m : ℕ) → PermutationsFilled m s xs x ys → PermutationsFilled m s xs y zs → Same x y ys zs
  fill_permutations_determined m = by_rows false m (row_rules false false m (length xs) s)

  pub wolff_permutations_determined : (m : ℕ) → WolffFilled m s xs x ys → WolffFilled m s xs y zs → Same x y ys zs
  wolff_permutations_determined m = by_rows true m (row_rules false true m (length xs) s)

-- ---- and one result of each function
pub new_result_determined :
    (a b c d : ℕ) (x y : Result Source Refusal) → left_of (source a b c d) x ≡ new_of (source a b c d) → left_of (source a b c d) y ≡ new_of (source a b c d)
    → x ≡ y
new_result_determined a b c d x y p q = left_of_injective (source a b c d) x y (new_determined a b c d _ _ p q)

module _ (s : Source) (x y : Result Drawing.Drawn Refusal) where
  pub next_result_determined : drawn_of s x ≡ word_of s → drawn_of s y ≡ word_of s → x ≡ y
  next_result_determined p q = drawn_of_injective s x y (next_determined s _ _ p q)

  pub coin_result_determined : drawn_of s x ≡ coin_of s → drawn_of s y ≡ coin_of s → x ≡ y
  coin_result_determined p q = drawn_of_injective s x y (coin_determined s _ _ p q)

  pub below_within_result_determined : (k m : ℕ) → drawn_of s x ≡ below_of k m s → drawn_of s y ≡ below_of k m s → x ≡ y
  below_within_result_determined k m p q = drawn_of_injective s x y (below_within_determined k m s _ _ p q)

  pub below_result_determined : (m : ℕ) → drawn_of s x ≡ below_of 64 m s → drawn_of s y ≡ below_of 64 m s → x ≡ y
  below_result_determined m p q = drawn_of_injective s x y (below_determined m s _ _ p q)

module _ (s : Source) (x y : Result Rowing.Row Refusal) where
  pub permutation_result_determined : (n : ℕ) → row_of s x ≡ permutation_of n s → row_of s y ≡ permutation_of n s → x ≡ y
  permutation_result_determined n p q = row_of_injective s x y (permutation_determined n s _ _ p q)

  pub shuffle_result_determined : (n : ℕ) → row_of s x ≡ permuted n s → row_of s y ≡ permuted n s → x ≡ y
  shuffle_result_determined n p q = row_of_injective s x y (shuffle_determined n s _ _ p q)

  pub row_by_result_determined : (moving : Bool) (n : ℕ) → row_of s x ≡ row_by moving n s → row_of s y ≡ row_by moving n s → x ≡ y
  row_by_result_determined moving n p q = row_of_injective s x y (row_by_determined moving n s _ _ p q)

-- of the tests
module _ (s : Source) (x y : Result (Unit {0}) Refusal) where
  pub word_verdict_result_determined : (fits : Bool) → Verdict (word_rules fits s) (verdict_of x) → Verdict (word_rules fits s) (verdict_of y) → x ≡ y
  word_verdict_result_determined fits p q = verdict_of_injective x y (word_verdict_determined fits s _ _ p q)

  pub number_verdict_result_determined :
      (fits : Bool) (most m k : ℕ) → Verdict (number_rules fits most m k s) (verdict_of x) → Verdict (number_rules fits most m k s) (verdict_of y) → x ≡ y
  number_verdict_result_determined fits most m k p q = verdict_of_injective x y (number_verdict_determined fits most m k s _ _ p q)

  pub row_verdict_result_determined :
      (single moving : Bool) (n len : ℕ) → Verdict (row_rules single moving n len s) (verdict_of x)
      → Verdict (row_rules single moving n len s) (verdict_of y) → x ≡ y
  row_verdict_result_determined single moving n len p q = verdict_of_injective x y (row_verdict_determined single moving n len s _ _ p q)

-- of the fills, with one content of the buffer
module _ (s : Source) (xs : List ℕ) (x y : Result Source Refusal) (ys zs : List ℕ) where
  by_left : Same (left_of s x) (left_of s y) ys zs → Same x y ys zs
  by_left w = record { answer = left_of_injective s x y w.answer; buffer = w.buffer }

  pub one_word_result_determined : WordDrawn s xs (left_of s x) ys → WordDrawn s xs (left_of s y) zs → Same x y ys zs
  one_word_result_determined p q = by_left (one_word_determined s xs _ _ ys zs p q)

  pub one_coin_result_determined : CoinDrawn s xs (left_of s x) ys → CoinDrawn s xs (left_of s y) zs → Same x y ys zs
  one_coin_result_determined p q = by_left (one_coin_determined s xs _ _ ys zs p q)

  pub fill_flips_result_determined : FlipsFilled s xs (left_of s x) ys → FlipsFilled s xs (left_of s y) zs → Same x y ys zs
  fill_flips_result_determined p q = by_left (fill_flips_determined s xs _ _ ys zs p q)

  pub one_below_result_determined : (m : ℕ) → BelowDrawn m s xs (left_of s x) ys → BelowDrawn m s xs (left_of s y) zs → Same x y ys zs
  one_below_result_determined m p q = by_left (one_below_determined s xs _ _ ys zs m p q)

  pub fill_below_result_determined : (m : ℕ) → BelowFilled m s xs (left_of s x) ys → BelowFilled m s xs (left_of s y) zs → Same x y ys zs
  fill_below_result_determined m p q = by_left (fill_below_determined s xs _ _ ys zs m p q)

  pub fill_bytes_below_result_determined : (m : ℕ) → BytesFilled m s xs (left_of s x) ys → BytesFilled m s xs (left_of s y) zs → Same x y ys zs
  fill_bytes_below_result_determined m p q = by_left (fill_bytes_below_determined s xs _ _ ys zs m p q)

  pub wolff_greys_result_determined : GreysFilled s xs (left_of s x) ys → GreysFilled s xs (left_of s y) zs → Same x y ys zs
  wolff_greys_result_determined p q = by_left (wolff_greys_determined s xs _ _ ys zs p q)

  pub fill_numbers_result_determined : NumbersFilled s xs (left_of s x) ys → NumbersFilled s xs (left_of s y) zs → Same x y ys zs
  fill_numbers_result_determined p q = by_left (fill_numbers_determined s xs _ _ ys zs p q)

  pub wolff_numbers_result_determined : WolffNumbersFilled s xs (left_of s x) ys → WolffNumbersFilled s xs (left_of s y) zs → Same x y ys zs
  wolff_numbers_result_determined p q = by_left (wolff_numbers_determined s xs _ _ ys zs p q)

  pub one_permutation_result_determined : (m : ℕ) → PermutationDrawn m s xs (left_of s x) ys → PermutationDrawn m s xs (left_of s y) zs → Same x y ys zs
  one_permutation_result_determined m p q = by_left (one_permutation_determined s xs _ _ ys zs m p q)

  pub fill_permutations_result_determined : (m : ℕ) → PermutationsFilled m s xs (left_of s x) ys → PermutationsFilled m s xs (left_of s y) zs → Same x y ys zs
  fill_permutations_result_determined m p q = by_left (fill_permutations_determined s xs _ _ ys zs m p q)

  pub wolff_permutations_result_determined : (m : ℕ) → WolffFilled m s xs (left_of s x) ys → WolffFilled m s xs (left_of s y) zs → Same x y ys zs
  wolff_permutations_result_determined m p q = by_left (wolff_permutations_determined s xs _ _ ys zs m p q)
