-- Lines of a text: where digits end, where the last line begins, and that digits with a line feed behind them are a frame.
use Rattle.std.specs.Prelude.{ℕ, suc, ◌+◌, ◌-◌, ◌*◌, ◌≤◌, ◌<◌, ◌≡◌, refl, List, [], ◌∷◌, ◌++◌, length, get_or, drop}
use Rattle.std.proofs.Common.{ap, subst, arith, ne_eqb, length-drop, get_or-drop}
use Rattle.std.proofs.Math.Decide.{dec_lt}
use Rattle.paper.specs.Answer.Frame.{unhex, first_line, next, Frame}
use Rattle.frame_text.specs.Digits.{Digit, Digits, feed_no_digit, hex_unhex, unhex_small, unhex_length}

-- from the place a to e there are digits; and they end at e
pub record DigitsTo (t : List ℕ) (a e : ℕ) : Type 0 where
  pub from : a ≤ e
  pub to : e ≤ length t
  pub digits : (k : ℕ) → a ≤ k → k < e → Digit (get_or t k 0)

pub record DigitsEnd (t : List ℕ) (a e : ℕ) : Type 0 where
  pub run : DigitsTo t a e
  pub stop : e < length t → Digit (get_or t e 0) → ⊥

pub one_more : {t : List ℕ} {a e : ℕ} → DigitsTo t a e → e < length t → Digit (get_or t e 0) → DigitsTo t a (e + 1)
one_more {t} {a} {e} d l h = record { from = omega arith; to = omega arith; digits = λ k low high. at k low (dec_lt k e) high }
  where
    at : (k : ℕ) → a ≤ k → Dec (k < e) → k < e + 1 → Digit (get_or t k 0)
    at k low (yes q) high = d.digits k low q
    at k low (no q) high = let same : k ≡ e = omega arith in rw same h

-- no line feed stands from s on; and the last line begins there
abbrev pub CleanFrom : List ℕ → ℕ → Type 0
CleanFrom t s = (k : ℕ) → s ≤ k → k < length t → get_or t k 0 ≡ 10 → ⊥

pub record LineStart (t : List ℕ) (s : ℕ) : Type 0 where
  pub within : s ≤ length t
  pub begins : (k : ℕ) → s ≡ suc k → get_or t k 0 ≡ 10
  pub clean : CleanFrom t s

pub clean_more : (t : List ℕ) (s : ℕ) → 0 < s → CleanFrom t s → (get_or t (s - 1) 0 ≡ 10 → ⊥) → CleanFrom t (s - 1)
clean_more t s some h n k l q e = at (dec_lt k s)
  where
    at : Dec (k < s) → ⊥
    at (yes i) = let same : k ≡ s - 1 = omega arith in n (rw same at e)
    at (no i) = h k (omega arith) q e

-- ---- a text that begins with characters and a line feed
abbrev pub Clean : List ℕ → Type 0
Clean l = (k : ℕ) → k < length l → get_or l k 0 ≡ 10 → ⊥

pub digits_clean : (ds : List ℕ) → Digits ds → Clean ds
digits_clean ds h k l e = feed_no_digit (subst Digit e (h k l))

pub first_line_lem : (l r : List ℕ) → Clean l → first_line (l ++ (10 ∷ r)) ≡ l
unfolding first_line
first_line_lem [] r h = refl
first_line_lem (a ∷ l) r h = rw (ne_eqb a 10 (h 0 (omega arith))) (ap (λ (q : List ℕ). a ∷ q) (first_line_lem l r (λ k i. h (suc k) (omega arith))))

pub next_line : (l r : List ℕ) → Clean l → next (l ++ (10 ∷ r)) ≡ r
unfolding next
next_line [] r h = refl
next_line (a ∷ l) r h = rw (ne_eqb a 10 (h 0 (omega arith))) (next_line l r (λ k i. h (suc k) (omega arith)))

headed : (xs : List ℕ) (tag m : ℕ) → length xs ≡ suc m → get_or xs 0 0 ≡ tag → xs ≡ tag ∷ drop 1 xs
headed [] tag m l e = absurd (omega arith)
headed (x ∷ xs) tag m l e = ap (λ (y : ℕ). y ∷ xs) e

pub frame_of : (tag m : ℕ) (ds r : List ℕ) → length ds ≡ 2 * suc m → Digits ds → get_or (unhex ds) 0 0 ≡ tag → Frame tag m (ds ++ (10 ∷ r))
frame_of tag m ds r l h e = record {
  spelt = record {
    is = rw (first_line_lem ds r clean, next_line ds r clean, ← headed (unhex ds) tag m count e, hex_unhex ds (suc m) l h) refl;
    small = rw (first_line_lem ds r clean) (λ k q. small k q);
  };
  long = rw (first_line_lem ds r clean, length-drop 1 (unhex ds)) (omega (arith, count));
}
  where
    clean : Clean ds
    clean = digits_clean ds h

    count : length (unhex ds) ≡ suc m
    count = unhex_length ds (suc m) l

    small : (k : ℕ) → k < length (drop 1 (unhex ds)) → get_or (drop 1 (unhex ds)) k 0 < 256
    small k q = rw (get_or-drop 1 (unhex ds) k 0) (unhex_small ds h (1 + k) (omega (arith, length-drop 1 (unhex ds))))
