-- Rows written through a lent middle part: where the part comes back, and what one row more does to the group's spins.
use Prim.Native.Nat.{ℕ, ◌+◌, ◌-◌, ◌*◌, ◌≤◌, ◌<◌}
use mathlib.Core.Path.{◌≡◌, refl, ◌∙◌}
use mathlib.Core.Logic.{◌⊎◌, inl, inr, ◌≢◌}
use mathlib.Core.List.{List, ◌++◌}
use native.Mathlib.Omega.{arith}
use native.Mathlib.Decide.{ℕ_discrete, dec_lt}
use native.Mathlib.Nat.{mul-le-mul_right, suc-mul}
use lib.ListN.{length, get_or, take, drop, length-append, length-take, length-drop, get_or-append}
use lib.Seq.{length-take-le, get_or-append-add, get_or-take, get_or-drop, ext_get_or}
use lib.IntN.{ℤ, pos}
use Rattle.lemmas.specs.Stores.{Whole}
use Rattle.paper.specs.declared.Group.{Group}
use Rattle.paper.specs.Panel.Input.{member, spin, pattern_of}
use Rattle.paper.specs.Refusal.Rules.{Distinct}
use Rattle.columns.specs.Column.{shown, Inside}
use Rattle.columns.specs.Rows.{Written}

-- the m elements of xs from a on are put back as ys
abbrev back : {A : Type 0} → List A → ℕ → ℕ → List A → List A
back xs a m ys = take a xs ++ (ys ++ drop m (drop a xs))

module _ {A : Type 0} (d : A) (xs ys : List A) (a m : ℕ) (fits : a + m ≤ length xs) (long : length ys ≡ m) where
  front : length (take a xs) ≡ a
  front = length-take-le a xs (omega arith)

  back_length : length (back xs a m ys) ≡ length xs
  back_length = simp (length-append, length-take, length-drop) (omega arith)

  behind : (j : ℕ) → get_or (back xs a m ys) (a + j) d ≡ get_or (ys ++ drop m (drop a xs)) j d
  behind j = rw front at (get_or-append-add (take a xs) (ys ++ drop m (drop a xs)) j d)

  back_in : (i : ℕ) → i < m → get_or (back xs a m ys) (a + i) d ≡ get_or ys i d
  back_in i h = behind i ∙ get_or-append ys (drop m (drop a xs)) d i (omega arith)

  back_out : (p : ℕ) → (p < a) ⊎ (a + m ≤ p) → get_or (back xs a m ys) p d ≡ get_or xs p d
  back_out p (inl h) = get_or-append (take a xs) (ys ++ drop m (drop a xs)) d p (omega (arith, front)) ∙ get_or-take a xs p d h
  back_out p (inr h) =
      let q : a + (m + (p - (a + m))) ≡ p = omega arith in
      rw (← q) (behind (m + (p - (a + m))) ∙ after (p - (a + m)) ∙ get_or-drop a xs (m + (p - (a + m))) d)
    where
      after : (j : ℕ) → get_or (ys ++ drop m (drop a xs)) (m + j) d ≡ get_or (drop a xs) (m + j) d
      after j = rw long at (get_or-append-add ys (drop m (drop a xs)) j d) ∙ get_or-drop m (drop a xs) j d

-- a system's row is apart from another's
apart : (n s t i : ℕ) → i < n → t ≢ s → (t * n + i < s * n) ⊎ (s * n + n ≤ t * n + i)
apart n s t i h ne = go (dec_lt t s)
  where
    go : Dec (t < s) → (t * n + i < s * n) ⊎ (s * n + n ≤ t * n + i)
    go (yes l) = inl (omega (arith, mul-le-mul_right n l, suc-mul t n))
    go (no l) = let k : s < t = omega (arith, ne) in inr (omega (arith, mul-le-mul_right n k, suc-mul s n))

module _ {n : ℕ} {g : Group} {cols : List ℕ} {xs : List ℤ} where
  pub none_written : Written n 0 g cols xs xs
  none_written = record { long = refl; group = λ i k h l. absurd (omega arith); others = λ i t h o. refl; empty = λ e. refl }

  -- the row of the member k, lent from a to a + n, comes back as zs
  pub row_written :
      {k : ℕ} {ys zs : List ℤ} (few : k < g.len)
      → Written n k g cols xs ys → Inside n g xs → Distinct g.len (member g)
      → let a = member g k * n in
      Whole (pos 0) (λ i. shown (get_or cols i 0) k) (take (a + n - a) (drop a ys)) zs → Written n (k + 1) g cols xs (back ys a (a + n - a) zs)
  row_written {k} {ys} {zs} few was inside distinct filled =
      record {
        long = back_length (pos 0) ys zs a m fits long ∙ was.long;
        group = λ i j h l. at i j h l (ℕ_discrete j k);
        others = λ i t h o. out i t h (o k (omega arith)) ∙ was.others i t h (λ j l. o j (omega arith));
        empty = λ e. same e ∙ was.empty e;
      }
    where
      a : ℕ
      a = member g k * n

      m : ℕ
      m = a + n - a

      em : m ≡ n
      em = omega arith

      new : List ℤ
      new = back ys a m zs

      fits : a + m ≤ length ys
      fits = omega (arith, em, was.long, inside k few)

      part : length (take m (drop a ys)) ≡ m
      part = simp (length-take, length-drop) (omega (arith, fits))

      long : length zs ≡ m
      long = filled.long ∙ part

      out : (i t : ℕ) → i < n → t ≢ member g k → spin n new t i ≡ spin n ys t i
      out i t h ne = back_out (pos 0) ys zs a m fits long (t * n + i) (rw em (apart n (member g k) t i h ne))

      at : (i j : ℕ) → i < n → j < k + 1 → Dec (j ≡ k) → pattern_of n g new i j ≡ shown (get_or cols i 0) j
      at i j h l (yes q) = rw q (back_in (pos 0) ys zs a m fits long i (omega (arith, em)) ∙ filled.done i (omega (arith, part, em)))
      at i j h l (no q) = let b : j < k = omega arith in out i (member g j) h (λ e. q (distinct j k (omega arith) few e)) ∙ was.group i j h b

      same : n ≡ 0 → new ≡ ys
      same e = ext_get_or (pos 0) new ys (back_length (pos 0) ys zs a m fits long) (λ p h. back_out (pos 0) ys zs a m fits long p (side p (dec_lt p a)))
        where
          side : (p : ℕ) → Dec (p < a) → (p < a) ⊎ (a + m ≤ p)
          side p (yes l) = inl l
          side p (no l) = inr (omega (arith, em))
