-- Why a part of the buffer has the answers of the whole text: by where the last line begins and how it is spelt.
use Rattle.std.specs.Prelude.{ℕ, suc, ◌+◌, ◌-◌, ◌≤◌, ◌<◌, ◌≡◌, refl, ◌⊎◌, length, get_or, take, drop}
use Rattle.std.proofs.Common.{sym, ◌∙◌, subst, inl, inr, arith, take-append-drop, take_all, take-add, get_or-drop}
use Rattle.std.proofs.Math.Path.{ap}
use mathlib.Core.List.{List, [], ◌++◌, append_assoc, append-nil}
use Rattle.std.proofs.Math.Decide.{dec_lt}
use Rattle.std.proofs.Math.ListN.{length-drop}
use Rattle.std.proofs.Math.Seq.{length-take-le, get_or-take}
use Rattle.frame_text.specs.Digits.{Digit, Digits, feed_no_digit}
use Rattle.frame_text.specs.Line.{Clean, LineStart, DigitsEnd}
use Rattle.frame_text.specs.Cut.{SameAnswers, head, long, kept, Unended, EnoughAs, MoreAs}
use Rattle.frame_text.specs.Shared.{Lines, Stuck, lines_of}
use Rattle.frame_text.specs.Walk.{shared_same}
use Rattle.frame_text.specs.Ends.{Alike, Misspelt, stuck_alike, stuck_misspelt}

pub same_self : (t : List ℕ) → SameAnswers t t
same_self t = record { to = λ out h. h; from = λ out h. h }

-- ---- what is read does not fill the buffer
pub all_read : (t : List ℕ) (n : ℕ) → n < length t → EnoughAs t n n
all_read t n h = record {
  same = λ rest f. rw (f h, append-nil (take n t)) (same_self (take n t));
  all = sym (length-take-le n t (omega arith));
  ended = λ s u. omega (arith, u.full);
}

-- ---- the buffer is full
module _ (t : List ℕ) (s : ℕ) (h : LineStart t s) where
  lines : Lines (take s t)
  lines = lines_of (take s t) (λ k e. at k (omega (arith, e, length-take-le s t h.within)))
    where
      at : (k : ℕ) → s ≡ suc k → get_or (take s t) k 0 ≡ 10
      at k e = get_or-take s t k 0 (omega arith) ∙ h.begins k e

  split : (r : List ℕ) → t ++ r ≡ take s t ++ (drop s t ++ r)
  split r = ap (λ (u : List ℕ). u ++ r) (sym (take-append-drop s t)) ∙ append_assoc (take s t) (drop s t) r

  behind : (k : ℕ) → get_or (drop s t) k 0 ≡ get_or t (s + k) 0
  behind k = get_or-drop s t k 0

  clean : Clean (drop s t)
  clean k l e = h.clean (s + k) (omega arith) (omega (arith, length-drop s t)) (sym (behind k) ∙ e)

  -- the last line decides nothing, or is misspelt, whatever follows
  module _ (far : (r r' : List ℕ) → (12327 < length (take s t)) ⊎ Stuck (drop s t ++ r) (drop s t ++ r')) where
    any : (r r' : List ℕ) → SameAnswers (t ++ r) (t ++ r')
    any r r' = shared_same (record {
      head = take s t;
      p = drop s t ++ r;
      q = drop s t ++ r';
      lines = lines;
      left = split r;
      right = split r';
      far = far r r';
    })

    enough : (n : ℕ) → length t ≤ n → ((a : ℕ) → Unended t n a → ⊥) → EnoughAs t n (length t)
    enough n full ended = record {
      same = λ rest f. rw (take_all n t full, take_all (length t) t (omega arith)) (rw (append-nil t) at (any rest []));
      all = rw (take_all n t full) refl;
      ended = ended;
    }

  pub late : (n : ℕ) → length t ≤ n → head < s → EnoughAs t n (length t)
  late n full l = enough (λ r r'. inl (omega (arith, length-take-le s t h.within))) n full closed
    where
      closed : (a : ℕ) → Unended t n a → ⊥
      closed a u =
          let e : s ≡ suc (s - 1) = omega arith in
          feed_no_digit (subst Digit (h.begins (s - 1) e) (u.digits (s - 1) (omega (arith, u.early)) (omega (arith, h.within))))

  module _ (e : ℕ) (d : DigitsEnd t s e) where
    pub broken_off : (n : ℕ) → length t ≤ n → e < length t → EnoughAs t n (length t)
    broken_off n full l = enough (λ r r'. inr (stuck_misspelt (drop s t) r r' misspelt)) n full closed
      where
        misspelt : Misspelt (drop s t)
        misspelt = record {
          clean = clean;
          place = e - s;
          inside = omega (arith, length-drop s t, d.run.from);
          wrong = λ g. d.stop l (let z : s + (e - s) ≡ e = omega (arith, d.run.from) in rw (behind (e - s), z) at g);
        }

        closed : (a : ℕ) → Unended t n a → ⊥
        closed a u = at (dec_lt e a)
          where
            at : Dec (e < a) → ⊥
            at (yes q) =
                let z : a ≡ suc (a - 1) = omega arith in
                h.clean (a - 1) (omega (arith, d.run.from)) (omega (arith, u.within)) (u.begins (a - 1) z)
            at (no q) = d.stop l (u.digits e (omega arith) l)

    -- a long line of digits
    part : List ℕ
    part = take (kept (length t - s)) (drop s t)

    module _ (early : s ≤ head) (wide : head + long < length t) (is : e ≡ length t) where
      all_digits : Digits (drop s t)
      all_digits k l = rw (behind k) (d.run.digits (s + k) (omega arith) (omega (arith, length-drop s t)))

      part_long : length part ≡ kept (length t - s)
      unfolding part
      part_long = length-take-le (kept (length t - s)) (drop s t) (omega (arith, length-drop s t))

      part_at : (k : ℕ) → k < kept (length t - s) → get_or part k 0 ≡ get_or (drop s t) k 0
      unfolding part
      part_at k l = get_or-take (kept (length t - s)) (drop s t) k 0 l

      cut_split : (r : List ℕ) → take (s + kept (length t - s)) t ++ r ≡ take s t ++ (part ++ r)
      unfolding part
      cut_split r = ap (λ (u : List ℕ). u ++ r) (take-add s (kept (length t - s)) t) ∙ append_assoc (take s t) part r

      pub read_on : (n m : ℕ) → length t ≤ n → m ≡ s + kept (length t - s) → MoreAs t n m
      read_on n m full z = record {
        same = λ rest. rw (take_all n t full, z) (shared_same (record {
          head = take s t;
          p = drop s t ++ rest;
          q = part ++ rest;
          lines = lines;
          left = split rest;
          right = cut_split rest;
          far = inr (stuck_alike (drop s t) part rest alike);
        }));
        start = s;
        unended = record { full = full; within = h.within; early = early; begins = h.begins; digits = λ k l q. d.run.digits k l (omega arith) };
        cut = z;
      }
        where
          alike : Alike (drop s t) part
          alike = record {
            digits = all_digits;
            digits' = λ k l. rw (part_at k (omega (arith, part_long))) (all_digits k (omega (arith, part_long, length-drop s t)));
            first = sym (part_at 0 (omega arith));
            second = sym (part_at 1 (omega arith));
            halves = omega (arith, part_long, length-drop s t);
            long = omega (arith, length-drop s t);
            long' = omega (arith, part_long);
          }
