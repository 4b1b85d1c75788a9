-- Lines at the end of what is read that cannot be told apart, whatever follows: long ones of digits, and misspelt ones.
use Rattle.std.specs.Prelude.{ℕ, zero, suc, ◌+◌, ◌-◌, ◌*◌, ◌/◌, ◌%◌, ◌≤◌, ◌<◌, ◌≡◌, refl, List, ◌∷◌, ◌++◌, length, get_or, take, drop}
use Rattle.std.proofs.Common.{sym, ◌∙◌, ap, subst, append_assoc, arith, length-append, take-append-drop, get_or-append-add}
use Rattle.std.proofs.Math.Decide.{dec_lt}
use Rattle.std.proofs.Math.ListN.{get_or-append}
use Rattle.std.proofs.Math.Seq.{take-append_seam, drop-append_seam, get_or-append_seam}
use Rattle.std.proofs.lemmas.List.{take-append-le, drop-append-le}
use Rattle.paper.specs.Answer.Frame.{digit_value, hex, unhex, next, bytes, Spelt}
use Rattle.frame_text.specs.Digits.{Digit, Digits, Below, hex_length, hex_digits, unhex_hex, unhex_at}
use Rattle.frame_text.specs.Line.{Clean, digits_clean, frame_of}
use Rattle.frame_text.specs.Shared.{Stuck}

-- b begins a line that is spelt: what is left of the line, and what is behind it
record Through (tag : ℕ) (b rest : List ℕ) : Type 0 where
  tail : List ℕ
  behind : List ℕ
  is : rest ≡ tail ++ (10 ∷ behind)
  digits : Digits (b ++ tail)
  long : length (b ++ tail) ≡ 2 * suc (length (bytes (b ++ rest)))
  tagged : get_or (unhex (b ++ tail)) 0 0 ≡ tag

abbrev written : ℕ → List ℕ → List ℕ
written tag x = hex (tag ∷ bytes x)

module _ (tag : ℕ) (b rest : List ℕ) (small : tag < 256) (c : Clean b) (s : Spelt tag (b ++ rest)) where
  all : Below 256 (tag ∷ bytes (b ++ rest))
  all zero l = small
  all (suc k) l = s.small k (omega arith)

  within : length b ≤ length (written tag (b ++ rest))
  within = at (dec_lt (length (written tag (b ++ rest))) (length b))
    where
      feed : length (written tag (b ++ rest)) < length b → get_or b (length (written tag (b ++ rest))) 0 ≡ 10
      feed l =
          sym (get_or-append b rest 0 (length (written tag (b ++ rest))) l)
          ∙ (ap (λ (u : List ℕ). get_or u (length (written tag (b ++ rest))) 0) s.is
          ∙ get_or-append_seam (written tag (b ++ rest)) 10 (next (b ++ rest)) 0)

      at : Dec (length (written tag (b ++ rest)) < length b) → length b ≤ length (written tag (b ++ rest))
      at (yes l) = absurd (c (length (written tag (b ++ rest))) l (feed l))
      at (no l) = omega arith

  front : take (length b) (written tag (b ++ rest)) ≡ b
  front =
      sym (take-append-le (length b) (written tag (b ++ rest)) (10 ∷ next (b ++ rest)) within)
      ∙ (ap (take (length b)) (sym s.is) ∙ take-append_seam b rest)

  whole : b ++ drop (length b) (written tag (b ++ rest)) ≡ written tag (b ++ rest)
  whole = ap (λ (u : List ℕ). u ++ drop (length b) (written tag (b ++ rest))) (sym front) ∙ take-append-drop (length b) (written tag (b ++ rest))

  through : Through tag b rest
  through = record {
    tail = drop (length b) (written tag (b ++ rest));
    behind = next (b ++ rest);
    is =
        sym (drop-append_seam b rest)
        ∙ (ap (drop (length b)) s.is ∙ drop-append-le (length b) (written tag (b ++ rest)) (10 ∷ next (b ++ rest)) within);
    digits = rw whole (hex_digits (tag ∷ bytes (b ++ rest)) all);
    long = rw whole (hex_length (tag ∷ bytes (b ++ rest)));
    tagged = rw (whole, unhex_hex (tag ∷ bytes (b ++ rest)) all) refl;
  }

-- ---- long runs of digits that begin alike and are both even or both odd
pub record Alike (b c : List ℕ) : Type 0 where
  pub digits : Digits b
  pub digits' : Digits c
  pub first : get_or b 0 0 ≡ get_or c 0 0
  pub second : get_or b 1 0 ≡ get_or c 1 0
  pub halves : length b % 2 ≡ length c % 2
  pub long : 4100 ≤ length b
  pub long' : 4100 ≤ length c

alike_sym : {b c : List ℕ} → Alike b c → Alike c b
alike_sym a = record {
  digits = a.digits';
  digits' = a.digits;
  first = sym a.first;
  second = sym a.second;
  halves = sym a.halves;
  long = a.long';
  long' = a.long;
}

later : (xs ys : List ℕ) → Digits (xs ++ ys) → Digits ys
later xs ys h k l = rw (← get_or-append-add xs ys k 0) (h (length xs + k) (omega (arith, length-append xs ys)))

both : (xs ys : List ℕ) → Digits xs → Digits ys → Digits (xs ++ ys)
both xs ys g h k l = at (dec_lt k (length xs))
  where
    at : Dec (k < length xs) → Digit (get_or (xs ++ ys) k 0)
    at (yes i) = rw (get_or-append xs ys 0 k i) (g k i)
    at (no i) =
        let e : k ≡ length xs + (k - length xs) = omega arith in
        rw (e, get_or-append-add xs ys (k - length xs) 0) (h (k - length xs) (omega (arith, length-append xs ys)))

module _ (b c rest : List ℕ) (a : Alike b c) (tag : ℕ) (small : tag < 256) where
  pub spelt_alike : Spelt tag (b ++ rest) → Spelt tag (c ++ rest)
  spelt_alike s = subst (λ (u : List ℕ). Spelt tag u) (sym is) (frame_of tag m (c ++ t.tail) t.behind long digits tagged).spelt
    where
      t : Through tag b rest
      t = through tag b rest small (digits_clean b a.digits) s

      m : ℕ
      m = (length c + length t.tail) / 2 - 1

      is : c ++ rest ≡ (c ++ t.tail) ++ (10 ∷ t.behind)
      is = ap (λ (u : List ℕ). c ++ u) t.is ∙ sym (append_assoc c t.tail (10 ∷ t.behind))

      long : length (c ++ t.tail) ≡ 2 * suc m
      long = length-append c t.tail ∙ omega (arith, t.long, length-append b t.tail, a.halves, a.long')

      digits : Digits (c ++ t.tail)
      digits = both c t.tail a.digits' (later b t.tail t.digits)

      at : (k : ℕ) → k < 2 → get_or b k 0 ≡ get_or c k 0 → get_or (c ++ t.tail) k 0 ≡ get_or (b ++ t.tail) k 0
      at k l e =
          get_or-append c t.tail 0 k (omega (arith, a.long')) ∙ (sym e ∙ sym (get_or-append b t.tail 0 k (omega (arith, a.long))))

      tagged : get_or (unhex (c ++ t.tail)) 0 0 ≡ tag
      tagged =
          unhex_at (c ++ t.tail) 0 (omega (arith, length-append c t.tail, a.long'))
          ∙ ((λ i. 16 * digit_value (at 0 (omega arith) a.first i) + digit_value (at 1 (omega arith) a.second i))
          ∙ (sym (unhex_at (b ++ t.tail) 0 (omega (arith, length-append b t.tail, a.long))) ∙ t.tagged))

  pub wide_alike : Spelt tag (b ++ rest) → 2048 < length (bytes (b ++ rest))
  wide_alike s = omega (arith, t.long, length-append b t.tail, a.long)
    where
      t : Through tag b rest
      t = through tag b rest small (digits_clean b a.digits) s

pub stuck_alike : (b c rest : List ℕ) → Alike b c → Stuck (b ++ rest) (c ++ rest)
stuck_alike b c rest a = record {
  to = spelt_alike b c rest a;
  from = spelt_alike c b rest (alike_sym a);
  wide = wide_alike b c rest a;
  wide' = wide_alike c b rest (alike_sym a);
  some = omega (arith, length-append b rest, a.long);
  some' = omega (arith, length-append c rest, a.long');
}

-- ---- a line with a character that is no digit
pub record Misspelt (b : List ℕ) : Type 0 where
  pub clean : Clean b
  pub place : ℕ
  pub inside : place < length b
  pub wrong : Digit (get_or b place 0) → ⊥

unspelt : (b rest : List ℕ) → Misspelt b → (tag : ℕ) → tag < 256 → Spelt tag (b ++ rest) → ⊥
unspelt b rest m tag small s =
    m.wrong (rw (← get_or-append b t.tail 0 m.place m.inside) (t.digits m.place (omega (arith, length-append b t.tail, m.inside))))
  where
    t : Through tag b rest
    t = through tag b rest small m.clean s

pub stuck_misspelt : (b r r' : List ℕ) → Misspelt b → Stuck (b ++ r) (b ++ r')
stuck_misspelt b r r' m = record {
  to = λ tag l s. absurd (unspelt b r m tag l s);
  from = λ tag l s. absurd (unspelt b r' m tag l s);
  wide = λ tag l s. absurd (unspelt b r m tag l s);
  wide' = λ tag l s. absurd (unspelt b r' m tag l s);
  some = omega (arith, length-append b r, m.inside);
  some' = omega (arith, length-append b r', m.inside);
}
