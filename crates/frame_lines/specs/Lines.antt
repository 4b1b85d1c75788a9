-- A frame by its places in the text: a line of m bytes after its tag takes 2m + 3 characters.
use Rattle.std.specs.Prelude.{ℕ, zero, suc, ◌+◌, ◌-◌, ◌*◌, ◌≤◌, ◌<◌, ◌≡◌, refl, length, take}
use Rattle.std.proofs.Common.{sym, ◌∙◌, subst, length-drop, take-append-drop, drop-drop, get_or-drop, get_or-take, drop-cons, length-take-le}
use Rattle.std.proofs.Math.Path.{ap}
use mathlib.Core.List.{List, [], ◌∷◌, ◌++◌}
use native.Mathlib.Omega.{arith}
use Rattle.std.proofs.Math.Decide.{dec_lt}
use Rattle.std.proofs.Math.ListN.{get_or, drop, length-append, get_or-append}
use Rattle.std.proofs.Math.Seq.{get_or_at}
use Rattle.paper.specs.Answer.Frame.{digit_value, hex, unhex, next, bytes, Spelt, Frame}
use Rattle.frame_text.specs.Digits.{Digit, Digits, Below, feed_no_digit, hex_length, hex_digits, unhex_hex, unhex_at}
use Rattle.frame_text.specs.Line.{DigitsEnd, frame_of}

-- the byte whose two digits stand at p
abbrev pub byte_at : List ℕ → ℕ → ℕ
byte_at t p = 16 * digit_value (get_or t p 0) + digit_value (get_or t (p + 1) 0)

-- the number whose two bytes stand at p
abbrev pub word_at : List ℕ → ℕ → ℕ
word_at t p = 256 * byte_at t p + byte_at t (p + 2)

pub record TwoDigits (t : List ℕ) (p : ℕ) : Type 0 where
  pub inside : p + 1 < length t
  pub high : Digit (get_or t p 0)
  pub low : Digit (get_or t (p + 1) 0)

pub record FourDigits (t : List ℕ) (p : ℕ) : Type 0 where
  pub first : TwoDigits t p
  pub second : TwoDigits t (p + 2)

-- ---- what a frame says of the text's characters
after_feed : (ds r : List ℕ) (w : ℕ) → length ds ≡ w → r ≡ drop (w + 1) (ds ++ (10 ∷ r))
after_feed [] r zero l = refl
after_feed [] r (suc w) l = absurd (omega arith)
after_feed (a ∷ ds) r zero l = absurd (omega arith)
after_feed (a ∷ ds) r (suc w) l = rw (shift w) (after_feed ds r w (omega arith))
  where
    shift : (w : ℕ) → suc w + 1 ≡ suc (w + 1)
    shift w = omega arith

module _ (tag m : ℕ) (text : List ℕ) (small : tag < 256) (f : Frame tag m text) where
  written : List ℕ
  written = hex (tag ∷ bytes text)

  all_small : Below 256 (tag ∷ bytes text)
  all_small zero l = small
  all_small (suc k) l = f.spelt.small k (omega arith)

  written_long : length written ≡ 2 * m + 2
  unfolding written
  written_long = let e = hex_length (tag ∷ bytes text) in omega (arith, e, f.long)

  pub frame_length : 2 * m + 3 ≤ length text
  unfolding written
  frame_length = omega (arith, written_long, length-append written (10 ∷ next text), ap (length {A = ℕ}) f.spelt.is)

  -- the next line begins behind the line feed
  pub frame_next : next text ≡ drop (2 * m + 3) text
  unfolding written
  frame_next =
      let e : 2 * m + 2 + 1 ≡ 2 * m + 3 = omega arith in
      after_feed written (next text) (2 * m + 2) written_long ∙ (ap (drop (2 * m + 2 + 1)) (sym f.spelt.is) ∙ ap (λ (k : ℕ). drop k text) e)

  at_written : (k : ℕ) → k < 2 * m + 2 → get_or text k 0 ≡ get_or written k 0
  unfolding written
  at_written k l = ap (λ (t : List ℕ). get_or t k 0) f.spelt.is ∙ get_or-append written (10 ∷ next text) 0 k (omega (arith, written_long))

  pub frame_digit : (k : ℕ) → k < 2 * m + 2 → Digit (get_or text k 0)
  unfolding written
  frame_digit k l = rw (at_written k l) (hex_digits (tag ∷ bytes text) all_small k (omega (arith, written_long)))

  pub frame_feed : get_or text (2 * m + 2) 0 ≡ 10
  unfolding written
  frame_feed = ap (λ (t : List ℕ). get_or t (2 * m + 2) 0) f.spelt.is ∙ get_or_at written 10 (next text) 0 (2 * m + 2) written_long

  byte_of : (k : ℕ) → k < suc m → get_or (tag ∷ bytes text) k 0 ≡ byte_at text (2 * k)
  unfolding written
  byte_of k l =
      ap (λ (bs : List ℕ). get_or bs k 0) (sym (unhex_hex (tag ∷ bytes text) all_small))
      ∙ (unhex_at written k (omega (arith, written_long))
      ∙ two (sym (at_written (2 * k) (omega arith))) (sym (at_written (2 * k + 1) (omega arith))))
    where
      two : {a a' b b' : ℕ} → a ≡ a' → b ≡ b' → 16 * digit_value a + digit_value b ≡ 16 * digit_value a' + digit_value b'
      two p q = λ i. 16 * digit_value (p i) + digit_value (q i)

  pub frame_tag : byte_at text 0 ≡ tag
  frame_tag = sym (byte_of 0 (omega arith))

  pub frame_byte : (k : ℕ) → k < m → get_or (bytes text) k 0 ≡ byte_at text (2 * k + 2)
  frame_byte k l =
      let e : 2 * suc k ≡ 2 * k + 2 = omega arith in
      byte_of (suc k) (omega arith) ∙ ap (byte_at text) e

-- ---- a frame at the place a of the text
byte_dropped : (a : ℕ) (t : List ℕ) (k p : ℕ) → a + k ≡ p → byte_at (drop a t) k ≡ byte_at t p
byte_dropped a t k p e = rw (← e, get_or-drop a t k 0, get_or-drop a t (k + 1) 0, one) refl
  where
    one : a + (k + 1) ≡ a + k + 1
    one = omega arith

module _ (tag m : ℕ) (t : List ℕ) (a : ℕ) (small : tag < 256) (f : Frame tag m (drop a t)) where
  pub line_fits : a + 2 * m + 3 ≤ length t
  line_fits = omega (arith, frame_length tag m (drop a t) small f, length-drop a t)

  pub line_next : next (drop a t) ≡ drop (a + 2 * m + 3) t
  line_next =
      let e : a + (2 * m + 3) ≡ a + 2 * m + 3 = omega arith in
      frame_next tag m (drop a t) small f ∙ (drop-drop (2 * m + 3) a t ∙ ap (λ (k : ℕ). drop k t) e)

  pub line_digit : (k : ℕ) → a ≤ k → k < a + 2 * m + 2 → Digit (get_or t k 0)
  line_digit k l h =
      let e : a + (k - a) ≡ k = omega arith in
      rw (← e, ← get_or-drop a t (k - a) 0) (frame_digit tag m (drop a t) small f (k - a) (omega arith))

  pub line_feed : get_or t (a + 2 * m + 2) 0 ≡ 10
  line_feed =
      let e : a + 2 * m + 2 ≡ a + (2 * m + 2) = omega arith in
      ap (λ (k : ℕ). get_or t k 0) e ∙ (sym (get_or-drop a t (2 * m + 2) 0) ∙ frame_feed tag m (drop a t) small f)

  pub line_tag : byte_at t a ≡ tag
  line_tag = sym (byte_dropped a t 0 a (omega arith)) ∙ frame_tag tag m (drop a t) small f

  pub line_byte : (k : ℕ) → k < m → get_or (bytes (drop a t)) k 0 ≡ byte_at t (a + 2 * k + 2)
  line_byte k l = frame_byte tag m (drop a t) small f k l ∙ byte_dropped a t (2 * k + 2) (a + 2 * k + 2) (omega arith)

  pub line_two : (k : ℕ) → k < m → TwoDigits t (a + 2 * k + 2)
  line_two k l = record {
    inside = omega (arith, line_fits);
    high = line_digit (a + 2 * k + 2) (omega arith) (omega arith);
    low = line_digit (a + 2 * k + 2 + 1) (omega arith) (omega arith);
  }

  pub line_end : (e : ℕ) → DigitsEnd t a e → e ≡ a + 2 * m + 2
  line_end e d = at (dec_lt e (a + 2 * m + 2)) (dec_lt (a + 2 * m + 2) e)
    where
      at : Dec (e < a + 2 * m + 2) → Dec (a + 2 * m + 2 < e) → e ≡ a + 2 * m + 2
      at (yes l) q = absurd (d.stop (omega (arith, line_fits)) (line_digit e d.run.from l))
      at (no l) (yes h) = absurd (feed_no_digit (subst Digit line_feed (d.run.digits (a + 2 * m + 2) (omega arith) h)))
      at (no l) (no h) = omega arith

-- where the digits at a are a line that is spelt with the tag, how they end
pub record LineEnd (tag : ℕ) (t : List ℕ) (a e : ℕ) : Type 0 where
  pub count : ℕ
  pub is : e ≡ a + 2 * count + 2
  pub inside : e < length t
  pub feed : get_or t e 0 ≡ 10
  pub tagged : byte_at t a ≡ tag

pub ended : (tag : ℕ) (t : List ℕ) (a e : ℕ) → tag < 256 → DigitsEnd t a e → Spelt tag (drop a t) → LineEnd tag t a e
ended tag t a e small d s = record {
  count = length (bytes (drop a t));
  is = is;
  inside = omega (arith, is, line_fits tag (length (bytes (drop a t))) t a small f);
  feed = rw is (line_feed tag (length (bytes (drop a t))) t a small f);
  tagged = line_tag tag (length (bytes (drop a t))) t a small f;
}
  where
    f : Frame tag (length (bytes (drop a t))) (drop a t)
    f = record { spelt = s; long = refl }

    is : e ≡ a + 2 * length (bytes (drop a t)) + 2
    is = line_end tag (length (bytes (drop a t))) t a small f e d

abbrev part : List ℕ → ℕ → ℕ → List ℕ
part t a w = take w (drop a t)

-- digits with a line feed behind them are a frame, if there are whole bytes, the tag first
pub line_of : (tag m : ℕ) (t : List ℕ) (a e : ℕ) → DigitsEnd t a e → e < length t → get_or t e 0 ≡ 10 → a + 2 * m + 2 ≡ e → byte_at t a ≡ tag
    → Frame tag m (drop a t)
line_of tag m t a e d l g q b = subst (λ (u : List ℕ). Frame tag m u) (sym split) (frame_of tag m (part t a (2 * suc m)) (drop (suc e) t) long digits head)
  where
    long : length (part t a (2 * suc m)) ≡ 2 * suc m
    long = length-take-le (2 * suc m) (drop a t) (omega (arith, length-drop a t))

    there : a + 2 * suc m ≡ e
    there = omega arith

    behind : drop (2 * suc m) (drop a t) ≡ 10 ∷ drop (suc e) t
    behind = drop-drop (2 * suc m) a t ∙ (ap (λ (k : ℕ). drop k t) there ∙ (drop-cons t e 0 l ∙ ap (λ (x : ℕ). x ∷ drop (suc e) t) g))

    split : drop a t ≡ part t a (2 * suc m) ++ (10 ∷ drop (suc e) t)
    split = sym (take-append-drop (2 * suc m) (drop a t)) ∙ ap (λ (r : List ℕ). part t a (2 * suc m) ++ r) behind

    at : (k p : ℕ) → k < 2 * suc m → a + k ≡ p → get_or (part t a (2 * suc m)) k 0 ≡ get_or t p 0
    at k p h z = get_or-take (2 * suc m) (drop a t) k 0 h ∙ (get_or-drop a t k 0 ∙ ap (λ (x : ℕ). get_or t x 0) z)

    digits : Digits (part t a (2 * suc m))
    digits k h = let h' : k < 2 * suc m = omega (arith, long) in rw (at k (a + k) h' refl) (d.run.digits (a + k) (omega arith) (omega arith))

    first : get_or (part t a (2 * suc m)) 0 0 ≡ get_or t a 0
    first = at 0 a (omega arith) (omega arith)

    second : get_or (part t a (2 * suc m)) 1 0 ≡ get_or t (a + 1) 0
    second = at 1 (a + 1) (omega arith) refl

    head : get_or (unhex (part t a (2 * suc m))) 0 0 ≡ tag
    head = unhex_at (part t a (2 * suc m)) 0 (omega (arith, long)) ∙ ((λ i. 16 * digit_value (first i) + digit_value (second i)) ∙ b)
