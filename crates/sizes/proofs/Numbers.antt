-- What stands at a component's number: the byte of its first site. And counts over numbers, in place of counts over sites.
use Prim.Native.Nat.{ℕ, zero, suc, ◌+◌, ◌≤◌, ◌<◌}
use mathlib.Core.Path.{◌≡◌, sym, ap, refl, ◌∙◌}
use mathlib.Core.Bool.{Bool, true, false, ◌&&◌}
use mathlib.Core.List.{List}
use native.Mathlib.Nat.{le_refl, add-zero}
use native.Mathlib.Decide.{ℕ_discrete}
use native.Mathlib.Omega.{arith}
use borrow.Author.Tests.{eqb-true}
use lib.ListN.{length, get_or, set, length-set}
use Rattle.lemmas.specs.Counts.{bit, count_where, count_suc}
use Rattle.lemmas.specs.Stores.{AfterSet, AfterSet.here, AfterSet.there, after_set}
use Rattle.paper.specs.Component.Sizes.{label_of, is_first}
use Rattle.laws.specs.Numbering.{Ranked, FirstOf, first_of, first_only, count_rises}
use Rattle.sizes.specs.Steps.{Marking, Marked}

module _ (l : List ℕ) (ranked : Ranked l) where
  -- a first's number is how many firsts come before it, and every number is that of a first
  first_number : (i : ℕ) → i < length l → is_first l i ≡ true → label_of l i ≡ count_where (is_first l) i
  first_number i il e = eqb-true _ _ (sym (ranked i il) ∙ e)

  pub number_lt : (i : ℕ) → i < length l → label_of l i < count_where (is_first l) (length l)
  number_lt i il = rw (← f.same, first_number f.at low f.is) (count_rises (is_first l) f.at (length l) low f.is)
    where
      f : FirstOf l i
      f = first_of l i

      low : f.at < length l
      low = omega (arith, f.low)

  -- as many firsts below m have a number that passes as numbers do
  pub by_number : (g : ℕ → Bool) (m : ℕ) → m ≤ length l → count_where (λ i. is_first l i && g (label_of l i)) m ≡ count_where g (count_where (is_first l) m)
  unfolding count_where
  by_number g zero h = refl
  by_number g (suc m) h = go (is_first l m) refl (by_number g m (omega arith))
    where
      go : (b : Bool) → is_first l m ≡ b → count_where (λ i. is_first l i && g (label_of l i)) m ≡ count_where g (count_where (is_first l) m)
          → count_where (λ i. is_first l i && g (label_of l i)) m + bit (b && g (label_of l m)) ≡ count_where g (count_where (is_first l) m + bit b)
      go true e ih = rw (ih, first_number m h e) (sym (count_suc g (count_where (is_first l) m)))
      go false e ih = rw (add-zero (count_where (is_first l) m)) (add-zero _ ∙ ih)

-- `component_marks` has taken the sites from i on
pub record Mark (l marks : List ℕ) (room : ℕ) (bytes : List ℕ) (i : ℕ) : Type 0 where
  pub long : length bytes ≡ room
  pub within : i ≤ length l
  pub done : (j : ℕ) → i ≤ j → j < length l → is_first l j ≡ true → get_or bytes (label_of l j) 0 ≡ get_or marks j 0

pub mark_none : (l marks bytes : List ℕ) → Mark l marks (length bytes) bytes (length l)
mark_none l marks bytes = record { long = refl; within = le_refl (length l); done = λ j a b e. absurd (omega arith) }

-- the site x before them, with the number k: a first behind it has another number
module _
    {l marks : List ℕ} {room : ℕ} {bytes : List ℕ} {i : ℕ} (h : Mark l marks room bytes i) (g : Marking l marks room) (x : ℕ) (e : i ≡ x + 1)
    (k : ℕ) (ek : k ≡ label_of l x)
  where
    pub number_low : k < length l
    number_low = rw ek (g.low x (omega (arith, h.within)))

    pub mark_lt : k < length bytes
    mark_lt = omega (arith, h.long, number_low, g.fits)

    pub mark_more : Mark l marks room (set bytes k (get_or marks x 0)) x
    mark_more = record {
      long = simp length-set h.long;
      within = omega (arith, h.within);
      done = λ j a b f. at j a b f (ℕ_discrete j x) (after_set bytes k (get_or marks x 0) (label_of l j) mark_lt);
    }
      where
        at : (j : ℕ) → x ≤ j → j < length l → is_first l j ≡ true → Dec (j ≡ x) → AfterSet bytes k (get_or marks x 0) (label_of l j)
            → get_or (set bytes k (get_or marks x 0)) (label_of l j) 0 ≡ get_or marks j 0
        at j a b f (yes q) (here s r) = r ∙ ap (λ (y : ℕ). get_or marks y 0) (sym q)
        at j a b f (yes q) (there ne r) = absurd (ne (ap (label_of l) q ∙ sym ek))
        at j a b f (no q) (here s r) = absurd (first_only l j x f (omega arith) (sym (s ∙ ek)))
        at j a b f (no q) (there ne r) = r ∙ h.done j (omega arith) b f

pub mark_end : {l marks : List ℕ} {room : ℕ} {bytes : List ℕ} {i : ℕ} → Mark l marks room bytes i → i ≤ 0 → Marked l marks bytes
mark_end h e = λ j jl f. h.done j (omega arith) jl f
