-- The entries that a line's bytes stand for, by their places in the text.
use Rattle.std.specs.Prelude.{ℕ, ◌+◌, ◌*◌, ◌<◌, ◌≡◌, List, map, length, get_or, drop, pos}
use Rattle.std.proofs.Common.{sym, ◌∙◌, ap, arith}
use Rattle.std.proofs.lemmas.List.{length-map}
use Rattle.std.proofs.Math.ListN.{get_or-map}
use Rattle.paper.specs.Answer.Frame.{bytes, words, signed, Frame}
use Rattle.frame_lines.specs.Lines.{byte_at, word_at, FourDigits, line_byte, line_two}
use Rattle.frame_lines.specs.Words.{words_at, words_length}

-- where the two bytes of word k stand
high_place : (a k : ℕ) → a + 4 * k + 2 ≡ a + 2 * (2 * k) + 2
high_place a k = omega arith

low_place : (a k : ℕ) → a + 4 * k + 2 + 2 ≡ a + 2 * (2 * k + 1) + 2
low_place a k = omega arith

module _ (tag m : ℕ) (t : List ℕ) (a : ℕ) (small : tag < 256) (f : Frame tag m (drop a t)) where
  pub spins_long : length (map signed (bytes (drop a t))) ≡ m
  spins_long = length-map (bytes (drop a t)) signed ∙ f.long

  pub spin_entry : (k : ℕ) → k < m → signed (byte_at t (a + 2 * k + 2)) ≡ get_or (map signed (bytes (drop a t))) k (pos 0)
  spin_entry k l = ap signed (sym (line_byte tag m t a small f k l)) ∙ sym (get_or-map signed (bytes (drop a t)) k 0)

module _ (tag m : ℕ) (t : List ℕ) (a : ℕ) (small : tag < 256) (f : Frame tag (2 * m) (drop a t)) where
  pub words_long : length (words (bytes (drop a t))) ≡ m
  words_long = words_length (bytes (drop a t)) m f.long

  pub word_entry : (k : ℕ) → k < m → word_at t (a + 4 * k + 2) ≡ get_or (words (bytes (drop a t))) k 0
  word_entry k l = (λ i. 256 * high i + low i) ∙ sym (words_at (bytes (drop a t)) k (omega (arith, f.long)))
    where
      high : byte_at t (a + 4 * k + 2) ≡ get_or (bytes (drop a t)) (2 * k) 0
      high = ap (byte_at t) (high_place a k) ∙ sym (line_byte tag (2 * m) t a small f (2 * k) (omega arith))

      low : byte_at t (a + 4 * k + 2 + 2) ≡ get_or (bytes (drop a t)) (2 * k + 1) 0
      low = ap (byte_at t) (low_place a k) ∙ sym (line_byte tag (2 * m) t a small f (2 * k + 1) (omega arith))

  pub word_four : (k : ℕ) → k < m → FourDigits t (a + 4 * k + 2)
  word_four k l = record {
    first = rw (high_place a k) (line_two tag (2 * m) t a small f (2 * k) (omega arith));
    second = rw (low_place a k) (line_two tag (2 * m) t a small f (2 * k + 1) (omega arith));
  }
