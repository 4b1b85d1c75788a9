-- Numbering is the monotone bijection of the labels as they were, each a component's smallest site, to the numbers below how many there are.
use Rattle.std.specs.Prelude.{ℕ, ◌≤◌, ◌<◌, ◌≡◌, ◌↔◌, Bool, true, List}
use Rattle.std.proofs.Common.{sym, ◌∙◌, ap, arith, eqb-true}
use Rattle.std.proofs.Math.Decide.{dec_lt}
use Rattle.lemmas.specs.Counts.{count_where}
use Rattle.lemmas.specs.Cells.{table, table_at, length_table}
use Rattle.paper.specs.Panel.Input.{Graph}
use Rattle.paper.specs.Component.Labels.{Joined, Labels}
use Rattle.paper.specs.Component.Sizes.{label_of}
use Rattle.laws.specs.Numbering.{count_mono, count_rises, nth, FirstOf, first_of, first_only}
use Rattle.laws.specs.Numbering.{Smallest, own, smallest_same, smallest_own, carried}
use Rattle.laws.specs.Unique.{labels_unique, found_unique}

-- s are the smallest sites and l the numbers of the same components
module _ {t : Graph} {holding : ℕ → ℕ → Bool} {s l : List ℕ} {found : ℕ} (h : Smallest t holding s) (w : Labels t holding l found) where
  -- the numbers worked out from the smallest sites
  counted : List ℕ
  counted = table t.n (λ i. count_where (own s) (label_of s i))

  counted_at : (i : ℕ) → i < t.n → label_of counted i ≡ count_where (own s) (label_of s i)
  unfolding counted
  counted_at i il = table_at t.n (λ i. count_where (own s) (label_of s i)) i il

  counted_labels : Labels t holding counted (count_where (own s) t.n)
  unfolding counted
  counted_labels = carried h counted (length_table t.n (λ i. count_where (own s) (label_of s i))) counted_at

  -- a number is how many smallest sites are before the component's own, and found is how many there are
  pub number_is : (i : ℕ) → i < t.n → label_of l i ≡ count_where (own s) (label_of s i)
  number_is i il = ap (λ (m : List ℕ). label_of m i) (labels_unique t holding l counted w counted_labels) ∙ counted_at i il

  pub found_is : found ≡ count_where (own s) t.n
  found_is = found_unique t holding l counted w counted_labels

  pub in_order : (i j : ℕ) → i < t.n → j < t.n → (label_of s i < label_of s j) ↔ (label_of l i < label_of l j)
  in_order i j il jl = (up, down)
    where
      up : label_of s i < label_of s j → label_of l i < label_of l j
      up less = rw (number_is i il, number_is j jl) (count_rises (own s) (label_of s i) (label_of s j) less (smallest_own h i il))

      -- else the counts stand the other way round
      falls : label_of s j ≤ label_of s i → label_of l j ≤ label_of l i
      falls high = rw (number_is i il, number_is j jl) (count_mono (own s) (label_of s j) (label_of s i) high)

      down : label_of l i < label_of l j → label_of s i < label_of s j
      down less = go (dec_lt (label_of s i) (label_of s j))
        where
          go : Dec (label_of s i < label_of s j) → label_of s i < label_of s j
          go (yes q) = q
          go (no q) = absurd (omega (arith, less, falls (omega arith)))

  pub one_to_one : (i j : ℕ) → i < t.n → j < t.n → (label_of s i ≡ label_of s j) ↔ (label_of l i ≡ label_of l j)
  one_to_one i j il jl = (
    λ e. number_is i il ∙ (ap (count_where (own s)) e ∙ sym (number_is j jl)),
    λ e. smallest_same h i j il jl (w.joined i j il jl e),
  )

  -- the smallest site of the component r
  pub record SmallestOf (r : ℕ) : Type 0 where
    pub at : ℕ
    pub below : at < t.n
    pub smallest : own s at ≡ true
    pub number : label_of l at ≡ r

  pub onto : (r : ℕ) → r < found → SmallestOf r
  onto r rl =
      let q = nth (own s) t.n r (rw found_is at rl) in
      record {
        at = q.at;
        below = q.below;
        smallest = q.passes;
        number = number_is q.at q.below ∙ (ap (count_where (own s)) (eqb-true _ _ q.passes) ∙ q.before);
      }

-- where there are numbers there are smallest sites: the first site with each number
module _ {t : Graph} {holding : ℕ → ℕ → Bool} {l : List ℕ} {found : ℕ} (w : Labels t holding l found) where
  firsts : List ℕ
  firsts = table t.n (λ i. (first_of l i).at)

  pub smallest_exists : (s : List ℕ) × Smallest t holding s
  unfolding firsts
  smallest_exists = (firsts, record { long = length_table t.n (λ i. (first_of l i).at); joined = joined; least = least })
    where
      is : (i : ℕ) → i < t.n → label_of firsts i ≡ (first_of l i).at
      is i il = table_at t.n (λ i. (first_of l i).at) i il

      joined : (i : ℕ) → i < t.n → Joined t holding i (label_of firsts i)
      joined i il = let r = first_of l i in rw (is i il) (w.joined i r.at il (omega (arith, r.low)) (sym r.same))

      least : (i j : ℕ) → i < t.n → j < t.n → Joined t holding i j → label_of firsts i ≤ j
      least i j il jl q = rw (is i il) (go (dec_lt j r.at))
        where
          r : FirstOf l i
          r = first_of l i

          go : Dec (j < r.at) → r.at ≤ j
          go (yes less) = absurd (first_only l r.at j r.is less (sym (w.same i j il jl q) ∙ sym r.same))
          go (no less) = omega arith
