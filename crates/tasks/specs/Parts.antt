-- A part of a buffer that is lent and comes back written, also where the buffer ends before the part does.
use Rattle.std.specs.Prelude.{ℕ, min, ◌+◌, ◌-◌, ◌*◌, ◌≤◌, ◌<◌, ◌≡◌, refl, ◌⊎◌, ◌≢◌, List, ◌++◌, length, get_or, take, drop}
use Rattle.std.proofs.Common.{sym, ◌∙◌, ap, inl, inr, arith, mul-le-mul, mul-le-mul_right, suc-mul, length-append, length-take, length-drop, take-append-drop, drop_of_length-le, take_all, length-take-le, get_or-append-add, get_or-take, get_or-drop, ext_get_or, take_at, drop_at}
use Rattle.std.proofs.Math.Decide.{dec_le, dec_lt}
use Rattle.std.proofs.Math.ListN.{get_or-append}
use Rattle.std.proofs.Math.Seq.{take-nil}
use Rattle.paper.specs.Answer.Task.{part}
use Rattle.tasks.specs.Plan.{Few, Bounding}

-- the elements of xs from a to e come back as ys
abbrev pub back : {A : Type 0} → List A → ℕ → ℕ → List A → List A
back xs a e ys = take a xs ++ (ys ++ drop (e - a) (drop a xs))

pub record Lendable {A : Type 0} (xs : List A) (a e : ℕ) : Type 0 where
  pub ordered : a ≤ e
  pub inside : e ≤ length xs
  pub few : a ≤ 2097152

module _ {A : Type 0} (xs : List A) (k m a e : ℕ) (h : Bounding (length xs) k m a e) where
  pub in_order : a ≤ e
  in_order = omega (arith, h.starts, h.ends)

  pub in_buffer : e ≤ length xs
  in_buffer = omega (arith, h.ends)

  -- the lent elements are the part
  pub lent_part : take (e - a) (drop a xs) ≡ part k m xs
  lent_part = go (dec_le (k * m) (length xs))
    where
      go : Dec (k * m ≤ length xs) → take (e - a) (drop a xs) ≡ part k m xs
      go (yes l) = let q : a ≡ k * m = omega (arith, h.starts) in rw q (shorter (dec_le (k * m + m) (length xs)) q)
        where
          shorter : Dec (k * m + m ≤ length xs) → a ≡ k * m → take (e - k * m) (drop (k * m) xs) ≡ take m (drop (k * m) xs)
          shorter (yes f) q = let z : e - k * m ≡ m = omega (arith, h.ends) in rw z refl
          shorter (no f) q =
              take_all (e - k * m) (drop (k * m) xs) (simp length-drop (omega (arith, h.ends)))
              ∙ sym (take_all m (drop (k * m) xs) (simp length-drop (omega arith)))
      go (no l) = let z : e - a ≡ 0 = omega (arith, h.starts, h.ends) in rw (z, drop_of_length-le xs {i = k * m} (omega arith)) (sym (take-nil m))

  pub lent_length : length (take (e - a) (drop a xs)) ≡ e - a
  lent_length = simp (length-take, length-drop) (omega (arith, in_order, in_buffer))

  -- so it can be lent, and its place is a small number
  pub lendable : Few k m → Lendable xs a e
  lendable f = record { ordered = in_order; inside = in_buffer; few = omega (arith, h.starts, mul-le-mul f.number f.elements) }

  module _ (ys : List A) (long : length ys ≡ e - a) where
    front : length (take a xs) ≡ a
    front = length-take-le a xs (omega (arith, in_order, in_buffer))

    pub back_length : length (back xs a e ys) ≡ length xs
    back_length = simp (length-append, length-take, length-drop) (omega (arith, in_order, in_buffer))

    behind : drop a (back xs a e ys) ≡ ys ++ drop (e - a) (drop a xs)
    behind = drop_at (take a xs) (ys ++ drop (e - a) (drop a xs)) a front

    pub back_same : ys ≡ part k m xs → back xs a e ys ≡ xs
    back_same q = rw (q, ← lent_part, take-append-drop (e - a) (drop a xs), take-append-drop a xs)

    module _ (d : A) where
      out : (p : ℕ) → (p < a) ⊎ (e ≤ p) → get_or (back xs a e ys) p d ≡ get_or xs p d
      out p (inl l) = get_or-append (take a xs) (ys ++ drop (e - a) (drop a xs)) d p (omega (arith, front)) ∙ get_or-take a xs p d l
      out p (inr l) =
          let q : a + (e - a + (p - e)) ≡ p = omega (arith, in_order) in
          rw (← q)
          (sym (get_or-drop a (back xs a e ys) (e - a + (p - e)) d)
          ∙ (ap (λ (z : List A). get_or z (e - a + (p - e)) d) behind ∙ (after (p - e) ∙ get_or-drop a xs (e - a + (p - e)) d)))
        where
          after : (o : ℕ) → get_or (ys ++ drop (e - a) (drop a xs)) (e - a + o) d ≡ get_or (drop a xs) (e - a + o) d
          after o = rw long at (get_or-append-add ys (drop (e - a) (drop a xs)) o d) ∙ get_or-drop (e - a) (drop a xs) o d

      -- the other parts are as they were
      pub back_other : (j : ℕ) → j ≢ k → part j m (back xs a e ys) ≡ part j m xs
      back_other j ne =
          ext_get_or d (part j m (back xs a e ys)) (part j m xs) (simp (length-take, length-drop, back_length) refl)
          (λ o l. at o (rw (length-take, length-drop) at l))
        where
          at : (o : ℕ) → o < min m (length (back xs a e ys) - j * m) → get_or (part j m (back xs a e ys)) o d ≡ get_or (part j m xs) o d
          at o l = element (back xs a e ys) ∙ (out (j * m + o) (side (dec_lt j k)) ∙ sym (element xs))
            where
              element : (zs : List A) → get_or (part j m zs) o d ≡ get_or zs (j * m + o) d
              element zs = get_or-take m (drop (j * m) zs) o d (omega arith) ∙ get_or-drop (j * m) zs o d

              side : Dec (j < k) → (j * m + o < a) ⊎ (e ≤ j * m + o)
              side (yes q) = inl (omega (arith, h.starts, mul-le-mul_right m q, suc-mul j m, back_length))
              side (no q) = let r : k < j = omega (arith, ne) in inr (omega (arith, h.ends, mul-le-mul_right m r, suc-mul k m))

-- the part is what came back
pub back_own : {A : Type 0} (xs : List A) (k m a e : ℕ) → Bounding (length xs) k m a e → (ys : List A) → length ys ≡ e - a → part k m (back xs a e ys) ≡ ys
back_own xs k m a e h ys long =
    sym (lent_part (back xs a e ys) k m a e (rw (back_length xs k m a e h ys long) h))
    ∙ rw (behind xs k m a e h ys long, take_at ys (drop (e - a) (drop a xs)) (e - a) long)
