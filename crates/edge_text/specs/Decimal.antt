-- Decimal numbers without leading zeros, in the codes of the characters: their digits, and their values back from these.
use Rattle.std.specs.Prelude.{ℕ, zero, suc, ◌+◌, ◌-◌, ◌*◌, ◌/◌, ◌%◌, ◌≤◌, ◌<◌, ◌≡◌, refl, Bool, true, false, cond, ◌&&◌, List, [], ◌∷◌, ◌++◌, ltb, leb}
use Rattle.std.proofs.Common.{sym, ◌∙◌, ap, append_assoc, append-nil, arith, lt-ltb, le-ltb, le-leb, ltb-true, leb-true}
use Rattle.std.proofs.Math.Decide.{dec_lt}

-- ---- writing: the digits of v, highest first. The first number only bounds the steps: there are no more digits than v + 1
unfoldable pub digits_in : ℕ → ℕ → List ℕ
digits_in zero v = []
digits_in (suc f) v = cond (ltb v 10) ((48 + v) ∷ []) (digits_in f (v / 10) ++ ((48 + v % 10) ∷ []))

unfoldable pub decimal : ℕ → List ℕ
decimal v = digits_in (suc v) v

-- ---- reading: the digits that a text begins with, what stands behind them, and their value, a being that of the digits before
abbrev pub is_digit : ℕ → Bool
is_digit c = leb 48 c && ltb c 58

unfoldable pub lead : List ℕ → List ℕ
lead [] = []
lead (c ∷ s) = cond (is_digit c) (c ∷ lead s) []

unfoldable pub rest : List ℕ → List ℕ
rest [] = []
rest (c ∷ s) = cond (is_digit c) (rest s) (c ∷ s)

unfoldable pub value_from : ℕ → List ℕ → ℕ
value_from a [] = a
value_from a (c ∷ s) = value_from (10 * a + (c - 48)) s

-- ---- laws: one digit, or one more
enough : (f g v : ℕ) → v < f → v < g → digits_in f v ≡ digits_in g v
unfolding digits_in
enough zero g v h k = absurd (omega arith)
enough (suc f) zero v h k = absurd (omega arith)
enough (suc f) (suc g) v h k = at (dec_lt v 10) (λ l. enough f g (v / 10) (omega arith) (omega arith))
  where
    at : Dec (v < 10) → (10 ≤ v → digits_in f (v / 10) ≡ digits_in g (v / 10)) → digits_in (suc f) v ≡ digits_in (suc g) v
    at (yes l) ih = rw (lt-ltb v 10 l) refl
    at (no l) ih = rw (le-ltb v 10 (omega arith), ih (omega arith)) refl

pub decimal_one : (v : ℕ) → v < 10 → decimal v ≡ (48 + v) ∷ []
unfolding decimal digits_in
decimal_one v l = rw (lt-ltb v 10 l) refl

pub decimal_more : (v : ℕ) → 10 ≤ v → decimal v ≡ decimal (v / 10) ++ ((48 + v % 10) ∷ [])
unfolding decimal digits_in
decimal_more v l = rw (le-ltb v 10 l, enough v (suc (v / 10)) (v / 10) (omega arith) (omega arith)) refl

-- what holds of one digit and goes on to one more
by_digits : (P : ℕ → Type 0) → ((v : ℕ) → v < 10 → P v) → ((v : ℕ) → 10 ≤ v → P (v / 10) → P v) → (v : ℕ) → P v
by_digits P one more v = go (suc v) v (omega arith)
  where
    at : (v : ℕ) → Dec (v < 10) → (10 ≤ v → P (v / 10)) → P v
    at v (yes l) ih = one v l
    at v (no l) ih = let m : 10 ≤ v = omega arith in more v m (ih m)

    go : (f v : ℕ) → v < f → P v
    go zero v h = absurd (omega arith)
    go (suc f) v h = at v (dec_lt v 10) (λ l. go f (v / 10) (omega arith))

-- ---- the value of what is written
value_append : (xs ys : List ℕ) (a : ℕ) → value_from a (xs ++ ys) ≡ value_from (value_from a xs) ys
unfolding value_from
value_append [] ys a = refl
value_append (x ∷ xs) ys a = value_append xs ys (10 * a + (x - 48))

pub value_decimal : (v : ℕ) → value_from 0 (decimal v) ≡ v
unfolding value_from
value_decimal = by_digits (λ v. value_from 0 (decimal v) ≡ v) one more
  where
    one : (v : ℕ) → v < 10 → value_from 0 (decimal v) ≡ v
    one v l = rw (decimal_one v l) (omega arith)

    more : (v : ℕ) → 10 ≤ v → value_from 0 (decimal (v / 10)) ≡ v / 10 → value_from 0 (decimal v) ≡ v
    more v l h = rw (decimal_more v l, value_append (decimal (v / 10)) ((48 + v % 10) ∷ []) 0, h) (omega arith)

-- ---- all are digits
pub data Digits : List ℕ → Type 0 where
  none : Digits []
  some : {c : ℕ} {s : List ℕ} → is_digit c ≡ true → Digits s → Digits (c ∷ s)

digits_append : {xs ys : List ℕ} → Digits xs → Digits ys → Digits (xs ++ ys)
digits_append none q = q
digits_append (some e p) q = some e (digits_append p q)

is_digit_of : (x : ℕ) → x < 10 → is_digit (48 + x) ≡ true
is_digit_of x l = rw (le-leb 48 (48 + x) (omega arith), lt-ltb (48 + x) 58 (omega arith)) refl

pub decimal_digits : (v : ℕ) → Digits (decimal v)
decimal_digits = by_digits (λ v. Digits (decimal v)) one more
  where
    one : (v : ℕ) → v < 10 → Digits (decimal v)
    one v l = rw (decimal_one v l) (some (is_digit_of v l) none)

    more : (v : ℕ) → 10 ≤ v → Digits (decimal (v / 10)) → Digits (decimal v)
    more v l h = rw (decimal_more v l) (digits_append h (some (is_digit_of (v % 10) (omega arith)) none))

-- the first is one
pub data Started : List ℕ → Type 0 where
  digit : {c : ℕ} {s : List ℕ} → is_digit c ≡ true → Started (c ∷ s)

started_append : {xs : List ℕ} (ys : List ℕ) → Started xs → Started (xs ++ ys)
started_append ys (digit h) = digit h

pub decimal_started : (v : ℕ) → Started (decimal v)
decimal_started = by_digits (λ v. Started (decimal v)) one more
  where
    one : (v : ℕ) → v < 10 → Started (decimal v)
    one v l = rw (decimal_one v l) (digit (is_digit_of v l))

    more : (v : ℕ) → 10 ≤ v → Started (decimal (v / 10)) → Started (decimal v)
    more v l h = rw (decimal_more v l) (started_append ((48 + v % 10) ∷ []) h)

-- ---- a first digit that is not 0
pub data Led : List ℕ → Type 0 where
  by : {c : ℕ} {s : List ℕ} → (c ≡ 48 → ⊥) → Led (c ∷ s)

led_append : {xs : List ℕ} (ys : List ℕ) → Led xs → Led (xs ++ ys)
led_append ys (by h) = by h

above : (v : ℕ) → 0 < v → 48 + v ≡ 48 → ⊥
above v p e = omega arith

pub decimal_led : (v : ℕ) → 0 < v → Led (decimal v)
decimal_led = by_digits (λ v. 0 < v → Led (decimal v)) one more
  where
    one : (v : ℕ) → v < 10 → 0 < v → Led (decimal v)
    one v l p = rw (decimal_one v l) (by (above v p))

    more : (v : ℕ) → 10 ≤ v → (0 < v / 10 → Led (decimal (v / 10))) → 0 < v → Led (decimal v)
    more v l h p = rw (decimal_more v l) (led_append ((48 + v % 10) ∷ []) (h (omega arith)))

pub decimal_zero : decimal 0 ≡ 48 ∷ []
decimal_zero = decimal_one 0 (omega arith)

-- ---- the digits of what is read
pub digit_low : (c : ℕ) → is_digit c ≡ true → 48 ≤ c
digit_low c e = leb-true 48 c (first (leb 48 c) (ltb c 58) e)
  where
    first : (a b : Bool) → (a && b) ≡ true → a ≡ true
    first true b q = refl
    first false b q = q

pub digit_high : (c : ℕ) → is_digit c ≡ true → c < 58
digit_high c e = ltb-true c 58 (second (leb 48 c) (ltb c 58) e)
  where
    second : (a b : Bool) → (a && b) ≡ true → b ≡ true
    second true b q = q
    second false b q = let z : ◌≡◌ {A = ℕ} 0 1 = cc in absurd (omega arith)

snoc : (a x : ℕ) → 0 < a → x < 10 → decimal (10 * a + x) ≡ decimal a ++ ((48 + x) ∷ [])
snoc a x p l =
    let h : (10 * a + x) / 10 ≡ a = omega arith in
    let m : (10 * a + x) % 10 ≡ x = omega arith in
    decimal_more (10 * a + x) (omega arith) ∙ rw (h, m) refl

behind : (s : List ℕ) → Digits s → (a : ℕ) → 0 < a → decimal (value_from a s) ≡ decimal a ++ s
unfolding value_from
behind [] none a p = sym (append-nil (decimal a))
behind (c ∷ s) (some e q) a p =
    let low = digit_low c e in
    let high = digit_high c e in
    let x : 48 + (c - 48) ≡ c = omega arith in
    behind s q (10 * a + (c - 48)) (omega arith) ∙ (ap (λ (l : List ℕ). l ++ s) (snoc a (c - 48) p (omega arith))
    ∙ (append_assoc (decimal a) ((48 + (c - 48)) ∷ []) s ∙ ap (λ (y : ℕ). decimal a ++ (y ∷ s)) x))

-- digits without a leading zero are those of their value
pub decimal_back : (s : List ℕ) → Digits s → Led s → decimal (value_from 0 s) ≡ s
unfolding value_from
decimal_back (c ∷ s) (some e q) (by h) =
    let low = digit_low c e in
    let high = digit_high c e in
    let x : 48 + (c - 48) ≡ c = omega arith in
    let z : 10 * 0 + (c - 48) ≡ c - 48 = omega arith in
    rw z (behind s q (c - 48) (positive low) ∙ (ap (λ (l : List ℕ). l ++ s) (decimal_one (c - 48) (omega arith)) ∙ ap (λ (y : ℕ). y ∷ s) x))
  where
    positive : 48 ≤ c → 0 < c - 48
    positive l = at (dec_lt 48 c)
      where
        at : Dec (48 < c) → 0 < c - 48
        at (yes k) = omega arith
        at (no k) = absurd (h (omega arith))
decimal_back [] _ x3 = elim x3 [ ]

-- ---- where the digits of a text end
pub lead_digits : (s : List ℕ) → Digits (lead s)
unfolding lead
lead_digits [] = none
lead_digits (c ∷ s) = at (is_digit c) refl (lead_digits s)
  where
    at : (b : Bool) → is_digit c ≡ b → Digits (lead s) → Digits (cond b (c ∷ lead s) [])
    at true e ih = some e ih
    at false e ih = none

pub lead_rest : (s : List ℕ) → s ≡ lead s ++ rest s
unfolding lead rest
lead_rest [] = refl
lead_rest (c ∷ s) = at (is_digit c) (lead_rest s)
  where
    at : (b : Bool) → s ≡ lead s ++ rest s → c ∷ s ≡ cond b (c ∷ lead s) [] ++ cond b (rest s) (c ∷ s)
    at true ih = ap (λ (l : List ℕ). c ∷ l) ih
    at false ih = refl

pub lead_of : {ds : List ℕ} → Digits ds → (c : ℕ) (s : List ℕ) → is_digit c ≡ false → lead (ds ++ (c ∷ s)) ≡ ds
unfolding lead
lead_of none c s e = rw e refl
lead_of (some {c = x} d q) c s e = rw d (ap (λ (l : List ℕ). x ∷ l) (lead_of q c s e))

pub rest_of : {ds : List ℕ} → Digits ds → (c : ℕ) (s : List ℕ) → is_digit c ≡ false → rest (ds ++ (c ∷ s)) ≡ c ∷ s
unfolding rest
rest_of none c s e = rw e refl
rest_of (some {c = x} d q) c s e = rw d (rest_of q c s e)

-- ---- a value that is kept small: no number of a list that is taken has 8 digits, so past that only its size is known
abbrev pub limit : ℕ
limit = 10000000

abbrev pub step_to : ℕ → ℕ → ℕ
step_to v c = cond (ltb v limit) (10 * v + (c - 48)) v

unfoldable pub gather : ℕ → List ℕ → ℕ
gather v [] = v
gather v (c ∷ s) = gather (step_to v c) s

pub record Held (v w : ℕ) : Type 0 where
  pub small : v < limit → v ≡ w
  pub large : limit ≤ v → limit ≤ w

pub gather_held : (s : List ℕ) (v w : ℕ) → Held v w → Held (gather v s) (value_from w s)
unfolding gather value_from
gather_held [] v w h = h
gather_held (c ∷ s) v w h = gather_held s (step_to v c) (10 * w + (c - 48)) (at (dec_lt v limit))
  where
    at : Dec (v < limit) → Held (step_to v c) (10 * w + (c - 48))
    at (yes l) = let e = h.small l in rw (lt-ltb v limit l) (record { small = λ _. omega arith; large = λ k. omega arith })
    at (no l) = let e = h.large (omega arith) in rw (le-ltb v limit (omega arith)) (record { small = λ k. absurd (omega arith); large = λ _. omega arith })
