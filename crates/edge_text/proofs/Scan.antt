-- How digits are passed one by one, and what a number that ends well or badly says of the text.
use Prim.Native.Nat.{ℕ, zero, suc, ◌+◌, ◌≤◌, ◌<◌}
use mathlib.Core.Path.{◌≡◌, refl, sym, ◌∙◌, ap}
use mathlib.Core.Bool.{Bool, true, false, ◌&&◌}
use mathlib.Core.List.{List, [], ◌∷◌, ◌++◌}
use native.Mathlib.Omega.{arith}
use native.Mathlib.Numerals.{add-one}
use native.Mathlib.Decide.{ℕ_discrete}
use lib.ListN.{length, get_or, drop, drop_of_length-le, length-drop, get_or-append}
use lib.Seq.{drop-cons, get_or-drop}
use Rattle.edge_text.specs.Decimal.{is_digit, lead, rest, gather, step_to, value_from, decimal, Digits, Led, Started}
use Rattle.edge_text.specs.Decimal.{gather_held, lead_digits, lead_rest, decimal_back, decimal_zero, decimal_led, decimal_started}
use Rattle.edge_text.specs.Decimal.Led.{by}
use Rattle.edge_text.specs.Decimal.Started.{digit}
use Rattle.edge_text.specs.Reading.{RunAs, NumberAt}
use Rattle.edge_text.specs.Numbers.{Begins, begins, begins_lead, begins_rest}

pub record Gathering (t : List ℕ) (a v e : ℕ) : Type 0 where
  pub is : gather v (lead (drop e t)) ≡ gather 0 (lead (drop a t))
  pub behind : rest (drop e t) ≡ rest (drop a t)
  pub long : e + length (lead (drop e t)) ≡ a + length (lead (drop a t))
  pub within : e ≤ length t

module _ (t : List ℕ) (a : ℕ) where
  pub gathering_none : a ≤ length t → Gathering t a 0 a
  gathering_none l = record { is = refl; behind = refl; long = refl; within = l }

  module _ (v e : ℕ) (g : Gathering t a v e) where
    module _ (l : e < length t) where
      split : drop e t ≡ get_or t e 0 ∷ drop (e + 1) t
      split = rw (add-one e) (drop-cons t e 0 l)

      pub gathering_more : (x : ℕ) → is_digit (get_or t e 0) ≡ true → x ≡ step_to v (get_or t e 0) → Gathering t a x (e + 1)
      unfolding lead rest gather
      gathering_more x d q = record {
        is = ap (λ (y : ℕ). gather y (lead (drop (e + 1) t))) q ∙ (sym (ap (gather v) led) ∙ g.is);
        behind = sym left ∙ g.behind;
        long = let n = ap (length {A = ℕ}) led in omega (arith, g.long);
        within = omega arith;
      }
        where
          led : lead (drop e t) ≡ get_or t e 0 ∷ lead (drop (e + 1) t)
          led = rw (split, d) refl

          left : rest (drop e t) ≡ rest (drop (e + 1) t)
          left = rw (split, d) refl

      pub gathering_stop : is_digit (get_or t e 0) ≡ false → RunAs t a v e
      unfolding lead rest gather
      gathering_stop d = record {
        is = sym (ap (gather v) led) ∙ g.is;
        behind = sym left ∙ g.behind;
        long = let n = ap (length {A = ℕ}) led in omega (arith, g.long);
        within = g.within;
      }
        where
          led : lead (drop e t) ≡ []
          led = rw (split, d) refl

          left : rest (drop e t) ≡ drop e t
          left = rw (split, d) refl

    pub gathering_end : length t ≤ e → RunAs t a v e
    unfolding lead rest gather
    gathering_end l = record {
      is = sym (ap (λ (s : List ℕ). gather v (lead s)) none) ∙ g.is;
      behind = none ∙ (sym (ap rest none) ∙ g.behind);
      long = let n = ap (λ (s : List ℕ). length {A = ℕ} (lead s)) none in omega (arith, g.long);
      within = g.within;
    }
      where
        none : drop e t ≡ []
        none = drop_of_length-le t {i = e} l

-- ---- a number's end
led_first : {xs : List ℕ} → Led xs → get_or xs 0 0 ≡ 48 → ⊥
led_first (by h) e = h e

started_long : {xs : List ℕ} → Started xs → 0 < length xs
started_long (digit h) = omega arith

canonical : (ds : List ℕ) → Digits ds → 0 < length ds → (get_or ds 0 0 ≡ 48 → length ds ≡ 1) → decimal (value_from 0 ds) ≡ ds
unfolding value_from
canonical [] d p z = absurd (omega arith)
canonical (c ∷ s) d p z = at s d (ℕ_discrete c 48) z
  where
    at : (s : List ℕ) → Digits (c ∷ s) → Dec (c ≡ 48) → (c ≡ 48 → suc (length s) ≡ 1) → decimal (value_from 0 (c ∷ s)) ≡ c ∷ s
    at [] d (yes e) z = rw e decimal_zero
    at (x ∷ s) d (yes e) z = let l = z e in absurd (omega arith)
    at s d (no e) z = decimal_back (c ∷ s) d (by e)

module _ (t : List ℕ) (a v e c : ℕ) (r : RunAs t a v e) (n : is_digit c ≡ false) where
  abbrev ds : List ℕ
  ds = lead (drop a t)

  first : 0 < length ds → get_or ds 0 0 ≡ get_or t a 0
  first p =
      let z : a + 0 ≡ a = omega arith in
      sym (get_or-append ds (rest (drop a t)) 0 0 p)
      ∙ (ap (λ (s : List ℕ). get_or s 0 0) (sym (lead_rest (drop a t))) ∙ (get_or-drop a t 0 0 ∙ ap (λ (k : ℕ). get_or t k 0) z))

  module _ (w : ℕ) (q : List ℕ) (b : Begins (drop a t) w c q) where
    same : ds ≡ decimal w
    same = begins_lead b n

    stops : drop e t ≡ c ∷ q
    stops = r.behind ∙ begins_rest b n

    pub no_digits : e ≡ a → ⊥
    no_digits h = let l = ap (length {A = ℕ}) same in omega (arith, r.long, started_long (decimal_started w))

    pub no_stop : e ≡ length t → ⊥
    no_stop h = let l = ap (length {A = ℕ}) stops in omega (arith, length-drop e t)

    pub other_stop : e < length t → (get_or t e 0 ≡ c → ⊥) → ⊥
    other_stop l h =
        let z : e + 0 ≡ e = omega arith in
        h (sym (get_or-drop e t 0 0 ∙ ap (λ (k : ℕ). get_or t k 0) z) ∙ ap (λ (s : List ℕ). get_or s 0 0) stops)

    pub zero_led : get_or t a 0 ≡ 48 → a + 1 < e → ⊥
    zero_led h l = at w same
      where
        long : 1 < length ds
        long = omega (arith, r.long)

        at : (w : ℕ) → ds ≡ decimal w → ⊥
        at zero f = let k = ap (length {A = ℕ}) (f ∙ decimal_zero) in omega (arith, long)
        at (suc w) f = led_first (decimal_led (suc w) (omega arith)) (sym (ap (λ (s : List ℕ). get_or s 0 0) f) ∙ (first (omega (arith, long)) ∙ h))

  module _ (some : e ≡ a → ⊥) (inside : e < length t) (stop : get_or t e 0 ≡ c) (alone : get_or t a 0 ≡ 48 → e ≤ a + 1) where
    long_one : 0 < length ds
    long_one = at (length ds) r.long
      where
        at : (k : ℕ) → e ≡ a + k → 0 < k
        at zero q = absurd (some (omega arith))
        at (suc k) q = omega arith

    spelt : decimal (value_from 0 ds) ≡ ds
    spelt = canonical ds (lead_digits (drop a t)) long_one (λ h. omega (arith, alone (sym (first long_one) ∙ h), r.long, long_one))

    pub number_at : NumberAt t a c v (e + 1)
    number_at = record {
      number = value_from 0 ds;
      is = begins _ c _ (lead_rest (drop a t) ∙ (λ i. sym spelt i ++ behind i));
      held = rw r.is (gather_held ds 0 0 (record { small = λ _. refl; large = λ h. h }));
      within = omega arith;
    }
      where
        behind : rest (drop a t) ≡ c ∷ drop (e + 1) t
        behind = sym r.behind ∙ (rw (add-one e) (drop-cons t e 0 inside) ∙ ap (λ (x : ℕ). x ∷ drop (e + 1) t) stop)

-- ---- two tests at once
pub both_first : (a b : Bool) → (a && b) ≡ true → a ≡ true
both_first true b e = refl
both_first false b e = e

pub both_second : (a b : Bool) → (a && b) ≡ true → b ≡ true
both_second true b e = e
both_second false b e = let z : ◌≡◌ {A = ℕ} 0 1 = cc in absurd (omega arith)

pub not_both : (a b : Bool) → (a && b) ≡ false → a ≡ true → b ≡ false
not_both true b e h = e
not_both false b e h = let z : ◌≡◌ {A = ℕ} 0 1 = cc in absurd (omega arith)
