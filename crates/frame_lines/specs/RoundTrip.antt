-- What is written reads back.
use Rattle.std.specs.Prelude.{ℕ, zero, suc, ◌<◌, ◌≡◌, refl, List, [], ◌∷◌, ◌++◌, map, length, get_or, ℤ, pos}
use Rattle.std.proofs.Common.{◌∙◌, ap, inl, inr, append_assoc, append-nil, arith}
use Rattle.std.proofs.lemmas.List.{length-map}
use Rattle.std.proofs.Math.ListN.{get_or-map}
use Rattle.std.specs.Int.Signed.{mag}
use Rattle.paper.specs.Refusal.Rules.{Spin}
use Rattle.paper.specs.Answer.Frame.{hex, next, bytes, words, signed, two_bytes, spin_byte, line}
use Rattle.frame_text.specs.Digits.{Below, hex_digits, unhex_hex}
use Rattle.frame_text.specs.Line.{Clean, digits_clean, first_line_lem, next_line}
use Rattle.frame_lines.specs.Words.{two_bytes_small, words_two_bytes, spin_byte_small, signed_spin_byte}
use Rattle.frame_lines.specs.Writing.{result_of, TwoByte}

-- a line's bytes, and what is behind it
pub record LineBack (bs rest text : List ℕ) : Type 0 where
  pub bytes_are : bytes text ≡ bs
  pub next_is : next text ≡ rest

pub line_back : (tag : ℕ) (bs rest : List ℕ) → tag < 256 → Below 256 bs → LineBack bs rest (line tag bs ++ rest)
line_back tag bs rest small h = rw (append_assoc (hex (tag ∷ bs)) (10 ∷ []) rest) (record {
  bytes_are = rw (first_line_lem (hex (tag ∷ bs)) rest clean, unhex_hex (tag ∷ bs) all) refl;
  next_is = next_line (hex (tag ∷ bs)) rest clean;
})
  where
    all : Below 256 (tag ∷ bs)
    all zero l = small
    all (suc k) l = h k (omega arith)

    clean : Clean (hex (tag ∷ bs))
    clean = digits_clean (hex (tag ∷ bs)) (hex_digits (tag ∷ bs) all)

-- signed bytes
abbrev pub SignedBytes : List ℤ → Type 0
SignedBytes zs = (k : ℕ) → k < length zs → mag (get_or zs k (pos 0)) < 128

pub spin_bytes : (zs : List ℤ) → SignedBytes zs → Below 256 (map spin_byte zs)
spin_bytes zs h k l = rw (get_or-map spin_byte zs k (pos 0)) (spin_byte_small (get_or zs k (pos 0)) (h k (omega (arith, length-map zs spin_byte))))

pub signed_back : (zs : List ℤ) → SignedBytes zs → map signed (map spin_byte zs) ≡ zs
signed_back [] h = refl
signed_back (z ∷ zs) h = λ i. signed_spin_byte z (h 0 (omega arith)) i ∷ signed_back zs (λ k l. h (suc k) (omega arith)) i

-- every spin is one
pub spins_signed : (zs : List ℤ) → ((k : ℕ) → k < length zs → Spin (get_or zs k (pos 0))) → SignedBytes zs
spins_signed zs h k l = at (get_or zs k (pos 0)) (h k l)
  where
    at : (z : ℤ) → Spin z → mag z < 128
    at z (inl e) = rw e (omega arith)
    at z (inr e) = rw e (omega arith)

-- the three lines of an answer
pub record ReadsBack (labels counts : List ℕ) (spins : List ℤ) (text : List ℕ) : Type 0 where
  pub labels_back : words (bytes text) ≡ labels
  pub counts_back : words (bytes (next text)) ≡ counts
  pub spins_back : map signed (bytes (next (next text))) ≡ spins
  pub end : next (next (next text)) ≡ []

pub result_back : (labels counts : List ℕ) (spins : List ℤ) → TwoByte labels counts → SignedBytes spins
    → ReadsBack labels counts spins (result_of labels counts spins)
result_back labels counts spins w h = record {
  labels_back = ap words first.bytes_are ∙ words_two_bytes labels;
  counts_back = ap (λ (t : List ℕ). words (bytes t)) first.next_is ∙ (ap words second.bytes_are ∙ words_two_bytes counts);
  spins_back = ap (λ (t : List ℕ). map signed (bytes t)) behind ∙ (ap (map signed) third.bytes_are ∙ signed_back spins h);
  end = ap next behind ∙ third.next_is;
}
  where
    first : LineBack (two_bytes labels) (line 0x21 (two_bytes counts) ++ line 0x22 (map spin_byte spins)) (result_of labels counts spins)
    first =
        line_back 0x20 (two_bytes labels) (line 0x21 (two_bytes counts) ++ line 0x22 (map spin_byte spins)) (omega arith)
        (two_bytes_small labels w.small_labels)

    second : LineBack (two_bytes counts) (line 0x22 (map spin_byte spins)) (line 0x21 (two_bytes counts) ++ line 0x22 (map spin_byte spins))
    second = line_back 0x21 (two_bytes counts) (line 0x22 (map spin_byte spins)) (omega arith) (two_bytes_small counts w.small_counts)

    third : LineBack (map spin_byte spins) [] (line 0x22 (map spin_byte spins))
    third = rw append-nil at (line_back 0x22 (map spin_byte spins) [] (omega arith) (spin_bytes spins h))

    behind : next (next (result_of labels counts spins)) ≡ line 0x22 (map spin_byte spins)
    behind = ap next first.next_is ∙ second.next_is
