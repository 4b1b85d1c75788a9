-- The backward table, worked out from the forward one.
use Rattle.std.specs.Prelude.{ℕ, ◌+◌, ◌*◌, ◌/◌, ◌%◌, ◌≤◌, ◌<◌, ◌≡◌, refl, Bool, true, false, List, length, get_or, set}
use Rattle.std.proofs.Common.{sym, ◌∙◌, ap, subst, div-add-mod', div-lt_iff_lt-mul, mod-lt, mul-le-mul_right, suc-mul, arith, length-set, ext_get_or, get_or-set_same, get_or-set_other}
use Rattle.std.proofs.Math.Decide.{dec_lt, ℕ_discrete}
use Rattle.lemmas.specs.Cells.{cell_lt}
use Rattle.paper.specs.Refusal.Rules.{Inverse}
use Rattle.neighbours.specs.Tables.{inverse_of}

-- what is lent: a table to read and one to fill
pub record Turnable (n d : ℕ) (fwd bwd : List ℕ) : Type 0 where
  pub n_low : 1 ≤ n
  pub n_high : n ≤ 4096
  pub d_low : 1 ≤ d
  pub d_high : d ≤ 4
  pub fwd_long : length fwd ≡ n * d
  pub bwd_long : length bwd ≡ n * d

pub record Found (n d : ℕ) (fwd bwd : List ℕ) : Type 0 where
  pub long : length bwd ≡ n * d
  pub inverse : Inverse n d fwd bwd

abbrev pub Zeros : List ℕ → Type 0
Zeros xs = (k : ℕ) → k < length xs → get_or xs k 0 ≡ 0

-- no table at all is inverse to fwd, and bwd is all 0
pub record Missing (n d : ℕ) (fwd bwd : List ℕ) : Type 0 where
  pub none : (w : List ℕ) → Inverse n d fwd w → ⊥
  pub long : length bwd ≡ n * d
  pub zeros : Zeros bwd

-- what is answered, and the table as it is left
abbrev pub Turned : ℕ → ℕ → List ℕ → Bool → List ℕ → Type 0
Turned n d fwd true bwd = Found n d fwd bwd
Turned n d fwd false bwd = Missing n d fwd bwd

-- ---- the table is determined

found_at : (n d : ℕ) (fwd b b' : List ℕ) → Inverse n d fwd b → Inverse n d fwd b' → (i e : ℕ) → i < n → e < d → get_or b (i * d + e) 0 ≡ get_or b' (i * d + e) 0
found_at n d fwd b b' v v' i e li le =
    let w = v.here i e li le in
    sym (v'.there (get_or b (i * d + e) 0) e w.inside le).home ∙ ap (λ (x : ℕ). get_or b' (x * d + e) 0) w.home

found_same : (n d : ℕ) (fwd b b' : List ℕ) → 1 ≤ d → Found n d fwd b → Found n d fwd b' → b ≡ b'
found_same n d fwd b b' p f f' = ext_get_or 0 b b' (f.long ∙ sym f'.long) at
  where
    at : (k : ℕ) → k < length b → get_or b k 0 ≡ get_or b' k 0
    at k l =
        let li : k / d < n = (div-lt_iff_lt-mul p).1 (rw f.long at l) in
        rw (div-add-mod' k d) at (found_at n d fwd b b' f.inverse f'.inverse (k / d) (k % d) li (mod-lt k p))

missing_same : (n d : ℕ) (fwd b b' : List ℕ) → Missing n d fwd b → Missing n d fwd b' → b ≡ b'
missing_same n d fwd b b' m m' =
    ext_get_or 0 b b' (m.long ∙ sym m'.long) (λ k l. m.zeros k l ∙ sym (m'.zeros k (omega (arith, m.long, m'.long))))

pub backward_determined : (n d : ℕ) (fwd : List ℕ) → 1 ≤ d → (r r' : Bool) (b b' : List ℕ) → Turned n d fwd r b → Turned n d fwd r' b' → (r ≡ r') × (b ≡ b')
backward_determined n d fwd p true true b b' f f' = (refl, found_same n d fwd b b' p f f')
backward_determined n d fwd p true false b b' f f' = absurd (f'.none b f.inverse)
backward_determined n d fwd p false true b b' f f' = absurd (f.none b' f'.inverse)
backward_determined n d fwd p false false b b' f f' = (refl, missing_same n d fwd b b' f f')

-- ---- filling it

-- of the first t bonds, the table leads back from the neighbour, provided that there is an inverse
pub record Led (n d : ℕ) (fwd : List ℕ) (t : ℕ) (bwd : List ℕ) : Type 0 where
  pub long : length bwd ≡ n * d
  pub led : (w : List ℕ) → Inverse n d fwd w → (i e : ℕ) → i < n → e < d → i * d + e < t → get_or bwd (get_or fwd (i * d + e) 0 * d + e) 0 ≡ i

pub record Filling (n d : ℕ) (fwd : List ℕ) (t : ℕ) (bwd : List ℕ) : Type 0 where
  pub n_high : n ≤ 4096
  pub fwd_long : length fwd ≡ n * d
  pub so_far : Led n d fwd t bwd

pub record FillingSite (n d : ℕ) (fwd bwd : List ℕ) (i : ℕ) : Type 0 where
  pub filling : Filling n d fwd (i * d) bwd
  pub site : i < n

pub record FillingBond (n d : ℕ) (fwd bwd : List ℕ) (i e : ℕ) : Type 0 where
  pub filling : Filling n d fwd (i * d + e) bwd
  pub site : i < n
  pub way : e < d

-- a cell's row and column are its own
same_row : (d i e j f : ℕ) → e < d → f < d → i * d + e ≡ j * d + f → i ≡ j
same_row d i e j f le lf q = go (dec_lt i j) (dec_lt j i)
  where
    apart : (a b x y : ℕ) → x < d → a < b → a * d + x ≡ b * d + y → ⊥
    apart a b x y l h p = omega (arith, suc-mul a d, mul-le-mul_right d h)

    go : Dec (i < j) → Dec (j < i) → i ≡ j
    go (yes l) r = absurd (apart i j e f le l q)
    go (no n) (yes l) = absurd (apart j i f e lf l (sym q))
    go (no n) (no m) = omega arith

module _ {n d : ℕ} {fwd bwd : List ℕ} {i e : ℕ} (h : Led n d fwd (i * d + e) bwd) (li : i < n) (le : e < d) where
  -- the neighbour is no site: there is no inverse
  pub led_past : n ≤ get_or fwd (i * d + e) 0 → Led n d fwd (i * d + e + 1) bwd
  led_past l = record { long = h.long; led = λ w v j f lj lf lt. absurd (omega (arith, (v.there i e li le).inside)) }

  pub led_more : {x : ℕ} → x ≡ get_or fwd (i * d + e) 0 → x < n → Led n d fwd (i * d + e + 1) (set bwd (x * d + e) i)
  led_more {x} q lx = record { long = length-set bwd (x * d + e) i ∙ h.long; led = step }
    where
      inside : x * d + e < length bwd
      inside = rw h.long (cell_lt n d x e lx le)

      after : List ℕ
      after = set bwd (x * d + e) i

      step : (w : List ℕ) → Inverse n d fwd w → (j f : ℕ) → j < n → f < d → j * d + f < i * d + e + 1 → get_or after (get_or fwd (j * d + f) 0 * d + f) 0 ≡ j
      step w v j f lj lf lt = go (ℕ_discrete (get_or fwd (j * d + f) 0 * d + f) (x * d + e))
        where
          go : Dec (get_or fwd (j * d + f) 0 * d + f ≡ x * d + e) → get_or after (get_or fwd (j * d + f) 0 * d + f) 0 ≡ j
          go (yes s) = rw s (get_or-set_same bwd (x * d + e) i 0 inside ∙ one)
            where
              one : i ≡ j
              one = cc ((v.there i e li le).home, (v.there j f lj lf).home)
          go (no s) = get_or-set_other bwd (x * d + e) (get_or fwd (j * d + f) 0 * d + f) i 0 s ∙ h.led w v j f lj lf (omega (arith, earlier))
            where
              earlier : j * d + f ≡ i * d + e → ⊥
              earlier t = let r : j ≡ i = same_row d j f i e lf le t in let c : f ≡ e = omega (arith, ap (λ (y : ℕ). y * d) r) in s (cc)

-- all bonds done: where an inverse is there, the table is one
pub led_inverse : {n d : ℕ} {fwd bwd : List ℕ} → Led n d fwd (n * d) bwd → (w : List ℕ) → Inverse n d fwd w → Inverse n d fwd bwd
led_inverse {n} {d} {fwd} {bwd} h w v =
    inverse_of n d fwd bwd (λ i e li le. record { inside = (v.there i e li le).inside; home = h.led w v i e li le (cell_lt n d i e li le) })

-- the number of bonds done, written in another way
pub led_to : {n d : ℕ} {fwd bwd : List ℕ} {s t : ℕ} → Led n d fwd s bwd → s ≡ t → Led n d fwd t bwd
led_to {n} {d} {fwd} {bwd} h e = subst (λ (k : ℕ). Led n d fwd k bwd) e h
