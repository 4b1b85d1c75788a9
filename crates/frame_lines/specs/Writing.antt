-- What writing an answer leaves in the lent buffer.
use Rattle.std.specs.Prelude.{ℕ, suc, ◌+◌, ◌*◌, ◌/◌, ◌%◌, ◌≤◌, ◌<◌, ◌≡◌, List, [], ◌∷◌, ◌++◌, map, length, get_or, take, drop, set, ℤ}
use Rattle.std.proofs.Math.Path.{refl}
use Rattle.std.proofs.Common.{sym, ◌∙◌, ap, inl, inr, add-one, length-append, take_at, drop_at, take-suc, take_all, length-take-le}
use native.Mathlib.Omega.{arith}
use Rattle.std.proofs.lemmas.List.{length-map}
use Rattle.std.proofs.lemmas.List.Edits.{sets, sets-eq}
use Rattle.std.proofs.Math.Seq.{length-sets}
use Rattle.paper.specs.Panel.Made.{buffers_of}
use Rattle.paper.specs.Refusal.Rule.{Rule, rule}
use Rattle.paper.specs.Refusal.Verdict.{Verdict}
use Rattle.paper.specs.Answer.Frame.{digit, hex, line, result, refusal, two_bytes, spin_byte}
use Rattle.frame_lines.specs.Outcome.{Written}
use Rattle.frame_lines.specs.Outcome.Written.{Wrote, NoRoom}
use Rattle.frame_lines.specs.Number.{written_number, written_values}
use Rattle.frame_text.specs.Digits.{Below, hex_length}
use Rattle.frame_lines.specs.Words.{two_bytes_length}

-- the answer of a move that left these labels, counts and spins
abbrev pub result_of : List ℕ → List ℕ → List ℤ → List ℕ
result_of labels counts spins = result (buffers_of spins labels [] counts [] [] [] [])

-- labels and counts that two bytes hold
pub record TwoByte (labels counts : List ℕ) : Type 0 where
  pub small_labels : Below 65536 labels
  pub small_counts : Below 65536 counts

-- there is room for bs
abbrev pub room_rules : List ℕ → List ℕ → List Rule
room_rules bs before = rule 65 (length bs ≤ length before) ∷ []

-- bs stands at the front, and behind it what was there
pub record Fitted (bs before : List ℕ) (m : ℕ) (after : List ℕ) : Type 0 where
  pub fits : Verdict (room_rules bs before) (written_number (Wrote m))
  pub told : written_values (Wrote m) ≡ length bs ∷ []
  pub is : after ≡ bs ++ drop (length bs) before

-- bs is too long, and nothing is written
pub record Short (bs before after : List ℕ) : Type 0 where
  pub short : Verdict (room_rules bs before) (written_number NoRoom)
  pub kept : after ≡ before

abbrev pub WrittenAs : List ℕ → List ℕ → Written → List ℕ → Type 0
WrittenAs bs before (Wrote m) after = Fitted bs before m after
WrittenAs bs before NoRoom after = Short bs before after

pub short_of : (bs before : List ℕ) → length before < length bs → Short bs before before
short_of bs before l = record { short = inl ((λ h. omega (arith, h, l)), refl); kept = refl }

pub shorter : (bs before after : List ℕ) → Short bs before after → length before < length bs
shorter bs before after s = go s.short
  where
    go : Verdict (room_rules bs before) 65 → length before < length bs
    go (inl w) = omega (arith, w.0)
    go (inr w) = absurd w.1

-- a refusal's line has a number of two decimal digits; a larger one is not written
pub record Unwritten (before : List ℕ) (w : Written) (after : List ℕ) : Type 0 where
  pub answer : w ≡ NoRoom
  pub kept : after ≡ before

pub record RefusalAs (r : ℕ) (before : List ℕ) (w : Written) (after : List ℕ) : Type 0 where
  pub two : r < 100 → WrittenAs (refusal r) before w after
  pub larger : 100 ≤ r → Unwritten before w after

-- what is written, and what is kept
pub count : {bs before : List ℕ} {m : ℕ} {after : List ℕ} → Fitted bs before m after → m ≡ length bs
count f = ap (λ (vs : List ℕ). get_or vs 0 0) f.told

pub fitted_take : (bs before : List ℕ) (m : ℕ) (after : List ℕ) → Fitted bs before m after → take m after ≡ bs
fitted_take bs before m after f = rw f.is (take_at bs (drop (length bs) before) m (sym (count f)))

pub fitted_drop : (bs before : List ℕ) (m : ℕ) (after : List ℕ) → Fitted bs before m after → drop m after ≡ drop m before
fitted_drop bs before m after f = rw f.is (drop_at bs (drop (length bs) before) m (sym (count f))) ∙ ap (λ (k : ℕ). drop k before) (sym (count f))

-- ---- runs of stores
pub sets_front : (bs before : List ℕ) → length bs ≤ length before → sets before 0 bs ≡ bs ++ drop (length bs) before
sets_front bs before h =
    let z : 0 + length bs ≡ length bs = omega arith in
    sets-eq bs before 0 (omega arith) ∙ ap (λ (k : ℕ). bs ++ drop k before) z

pub sets_append : (vs ws before : List ℕ) (a : ℕ) → sets before a (vs ++ ws) ≡ sets (sets before a vs) (a + length vs) ws
sets_append [] ws before a = let z : a + 0 ≡ a = omega arith in ap (λ (k : ℕ). sets before k ws) (sym z)
sets_append (v ∷ vs) ws before a =
    let z : suc a + length vs ≡ a + suc (length vs) = omega arith in
    sets_append vs ws (set before a v) (suc a) ∙ ap (λ (k : ℕ). sets (sets (set before a v) (suc a) vs) k ws) z

-- room at a: for vs; for a number in two bytes; for a line of such numbers
pub record Room (vs : List ℕ) (a n : ℕ) : Type 0 where
  pub fits : a + length vs ≤ n

pub record WordRoom (x a n : ℕ) : Type 0 where
  pub small : x < 65536
  pub fits : a + 3 < n

pub record WordsRoom (tag : ℕ) (xs : List ℕ) (a n : ℕ) : Type 0 where
  pub small : Below 65536 xs
  pub fits : a + length (line tag (two_bytes xs)) ≤ n

-- vs is written from the place a on, and r is the place behind it
pub record Put (vs before : List ℕ) (a r : ℕ) (after : List ℕ) : Type 0 where
  pub next : r ≡ a + length vs
  pub is : after ≡ sets before a vs

pub put_both : (vs ws b0 b1 b2 : List ℕ) (a r q : ℕ) → Put vs b0 a r b1 → Put ws b1 r q b2 → Put (vs ++ ws) b0 a q b2
put_both vs ws b0 b1 b2 a r q x y = record {
  next = rw (y.next, x.next, length-append vs ws) (omega arith);
  is = rw (y.is, x.is, x.next) (sym (sets_append vs ws b0 a));
}

-- ---- the bytes of a line, one after another, each as its two digits
pub two_digits : (before : List ℕ) (a b x y : ℕ) → x ≡ digit (b / 16) → y ≡ digit (b % 16) → set (set before a x) (a + 1) y ≡ sets before a (hex (b ∷ []))
unfolding hex
two_digits before a b x y e q = rw (e, q, add-one a) refl

hex_append : (xs ys : List ℕ) → hex (xs ++ ys) ≡ hex xs ++ hex ys
unfolding hex
hex_append [] ys = refl
hex_append (x ∷ xs) ys = ap (λ (r : List ℕ). digit (x / 16) ∷ digit (x % 16) ∷ r) (hex_append xs ys)

pub four_digits : (before : List ℕ) (a p q : ℕ) (ys zs : List ℕ) → ys ≡ sets before a (hex (p ∷ [])) → zs ≡ sets ys (a + 2) (hex (q ∷ []))
    → zs ≡ sets before a (hex (p ∷ q ∷ []))
unfolding hex
four_digits before a p q ys zs e w = w ∙ rw e (sym (sets_append (hex (p ∷ [])) (hex (q ∷ [])) before a))

pub line_length : (tag : ℕ) (bs : List ℕ) → length (line tag bs) ≡ 2 * length bs + 3
unfolding hex
line_length tag bs = let h = hex_length bs in let e = length-append (hex bs) (10 ∷ []) in omega arith

-- the first j of bs are written at a
pub record Hexing (bs before : List ℕ) (a j : ℕ) (ys : List ℕ) : Type 0 where
  pub within : j ≤ length bs
  pub is : ys ≡ sets before a (hex (take j bs))
  pub long : length ys ≡ length before

module _ (bs before : List ℕ) (a : ℕ) where
  pub hexing_none : Hexing bs before a 0 before
  unfolding hex
  hexing_none = record { within = omega arith; is = refl; long = refl }

  pub hexing_more : (j p b : ℕ) (ys zs : List ℕ) → Hexing bs before a j ys → j < length bs → p ≡ a + 2 * j → b ≡ get_or bs j 0
      → zs ≡ sets ys p (hex (b ∷ [])) → Hexing bs before a (j + 1) zs
  hexing_more j p b ys zs h l e q w = record {
    within = omega arith;
    is =
        rw (
          w,
          e,
          h.is,
          q,
          add-one j,
          take-suc bs j 0,
          hex_append (take j bs) (get_or bs j 0 ∷ []),
          behind,
          hex_length (take j bs),
          length-take-le j bs (omega arith),
        ) refl;
    long = rw (w, length-sets ys p (hex (b ∷ []))) h.long;
  }
    where
      behind : sets before a (hex (take j bs) ++ hex (get_or bs j 0 ∷ []))
          ≡ sets (sets before a (hex (take j bs))) (a + length (hex (take j bs))) (hex (get_or bs j 0 ∷ []))
      behind = sets_append (hex (take j bs)) (hex (get_or bs j 0 ∷ [])) before a

  pub hexing_two : (j p b d : ℕ) (ys zs : List ℕ) → Hexing bs before a j ys → j + 1 < length bs → p ≡ a + 2 * j → b ≡ get_or bs j 0
      → d ≡ get_or bs (j + 1) 0 → zs ≡ sets ys p (hex (b ∷ d ∷ [])) → Hexing bs before a (j + 2) zs
  unfolding hex
  hexing_two j p b d ys zs h l e q r w =
      rw next (hexing_more (j + 1) (p + 2) d (sets ys p (hex (b ∷ []))) zs first l (omega arith) r (w ∙ sets_append (hex (b ∷ [])) (hex (d ∷ [])) ys p))
    where
      next : j + 2 ≡ j + 1 + 1
      next = omega arith

      first : Hexing bs before a (j + 1) (sets ys p (hex (b ∷ [])))
      first = hexing_more j p b ys (sets ys p (hex (b ∷ []))) h (omega arith) e q refl

  -- with a line feed behind them
  pub hexed : (j p : ℕ) (ys : List ℕ) → Hexing bs before a j ys → length bs ≡ j → p ≡ a + 2 * j → Put (hex bs ++ (10 ∷ [])) before a (p + 1) (set ys p 10)
  hexed j p ys h l e = record {
    next = rw (length-append (hex bs) (10 ∷ []), hex_length bs) (omega arith);
    is = rw (h.is, take_all j bs (omega arith), sets_append (hex bs) (10 ∷ []) before a, hex_length bs, l, e) refl;
  }

-- a line: its tag, its bytes and a line feed
pub put_line : (tag : ℕ) (bs b0 b1 b2 : List ℕ) (a r : ℕ) → b1 ≡ sets b0 a (hex (tag ∷ [])) → Put (hex bs ++ (10 ∷ [])) b1 (a + 2) r b2
    → Put (line tag bs) b0 a r b2
unfolding hex
put_line tag bs b0 b1 b2 a r e p = put_both (hex (tag ∷ [])) (hex bs ++ (10 ∷ [])) b0 b1 b2 a (a + 2) r (record { next = refl; is = e }) p

pub words_line_length : (tag : ℕ) (xs : List ℕ) → length (line tag (two_bytes xs)) ≡ 4 * length xs + 3
words_line_length tag xs = let e = line_length tag (two_bytes xs) in let q = two_bytes_length xs in omega arith

pub spins_line_length : (tag : ℕ) (zs : List ℤ) → length (line tag (map spin_byte zs)) ≡ 2 * length zs + 3
spins_line_length tag zs = let e = line_length tag (map spin_byte zs) in let q = length-map zs spin_byte in omega arith

pub result_length : (labels counts : List ℕ) (spins : List ℤ)
    → length (result_of labels counts spins) ≡ 4 * length labels + 4 * length counts + 2 * length spins + 9
result_length labels counts spins =
    let a = words_line_length 0x20 labels in
    let b = words_line_length 0x21 counts in
    let c = spins_line_length 0x22 spins in
    length-append (line 0x20 (two_bytes labels)) (line 0x21 (two_bytes counts) ++ line 0x22 (map spin_byte spins))
    ∙ (ap (λ (k : ℕ). length (line 0x20 (two_bytes labels)) + k) (length-append (line 0x21 (two_bytes counts)) (line 0x22 (map spin_byte spins))) ∙ omega arith)

pub put_long : (vs before : List ℕ) (a r : ℕ) (after : List ℕ) → Put vs before a r after → length after ≡ length before
put_long vs before a r after p = rw p.is (length-sets before a vs)

-- all of it, at the front
pub put_fitted : (vs before : List ℕ) (r : ℕ) (after : List ℕ) → length vs ≤ length before → Put vs before 0 r after → Fitted vs before r after
put_fitted vs before r after h p =
    let e : r ≡ length vs = rw p.next (omega arith) in
    record { fits = (h, tt); told = ap (λ (k : ℕ). k ∷ []) e; is = p.is ∙ sets_front vs before h }
