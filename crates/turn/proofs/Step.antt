-- The list in the making: no column is chosen yet and no site written, and one more.
use Prim.Native.Nat.{ℕ, ◌+◌, ◌<◌}
use mathlib.Core.Path.{◌≡◌, refl, sym, ◌∙◌, ap}
use mathlib.Core.List.{List}
use native.Mathlib.Omega.{arith}
use native.Mathlib.Decide.{ℕ_discrete}
use lib.Dec.{ltb}
use lib.ListN.{length, get_or, set, length-set}
use lib.IntN.{ℤ}
use Rattle.lemmas.specs.Places.{Unplaced}
use Rattle.lemmas.specs.Stores.{AfterSet, AfterSet.here, AfterSet.there, after_set, lt_of_ne}
use Rattle.paper.specs.declared.Group.{Group}
use Rattle.paper.specs.declared.Task.{Task}
use Rattle.paper.specs.Panel.Input.{member, pattern_of}
use Rattle.paper.specs.Refusal.Rules.{Distinct}
use Rattle.columns.specs.Column.{shown}
use Rattle.columns.specs.Rows.{SiteWritten}
use Rattle.columns.specs.Laws.{other_sites, other_systems}
use Rattle.turn.specs.Turned.{turned_column, ColumnsTurned, ListWritten}

abbrev site : List ℕ → ℕ → ℕ
site list x = get_or list x 0

-- ---- columns
module _ (t : Task) (gauge : ℕ) (choices greys list cols : List ℕ) (blue : ℕ) (news : List ℕ) where
  pub none_chosen : ColumnsTurned t gauge choices greys list cols blue 0 news news
  none_chosen = record { long = refl; listed = λ x h. absurd (omega arith); others = λ i o. refl }

  module _ {len x : ℕ} {was : List ℕ} (apart : Distinct len (site list)) (h : x < len) (w : ColumnsTurned t gauge choices greys list cols blue x news was)
      {i new : ℕ} (room : i < length was) (is : i ≡ site list x) (e : new ≡ turned_column t gauge choices greys (ltb x blue) (get_or cols i 0)) where
    pub one_chosen : ColumnsTurned t gauge choices greys list cols blue (x + 1) news (set was i new)
    one_chosen = record {
      long = length-set was i new ∙ w.long;
      listed = λ y l. listed y l (after_set was i new (site list y) room) (ℕ_discrete y x);
      others = λ j o. other j o (after_set was i new j room);
    }
      where
        listed :
            (y : ℕ) → y < x + 1 → AfterSet was i new (site list y) → Dec (y ≡ x)
            → get_or (set was i new) (site list y) 0 ≡ turned_column t gauge choices greys (ltb y blue) (get_or cols (site list y) 0)
        listed y l (here q g) (yes p) =
            let back = sym p in
            let home = sym q in
            g ∙ (e ∙ (λ j. turned_column t gauge choices greys (ltb (back j) blue) (get_or cols (home j) 0)))
        listed y l (there q g) (yes p) = absurd (q (ap (site list) p ∙ sym is))
        listed y l (here q g) (no p) = absurd (p (apart y x (omega arith) h (q ∙ is)))
        listed y l (there q g) (no p) = g ∙ w.listed y (lt_of_ne l p)

        other : (j : ℕ) → Unplaced (x + 1) (site list) j → AfterSet was i new j → get_or (set was i new) j 0 ≡ get_or news j 0
        other j o (here q g) = absurd (o x (omega arith) (q ∙ is))
        other j o (there q g) = g ∙ w.others j (λ y l. o y (omega arith))

-- ---- rows
module _ (n : ℕ) (g : Group) (list news : List ℕ) (xs : List ℤ) where
  pub none_written : ListWritten n g list 0 news xs xs
  none_written = record {
    long = refl;
    listed = λ x k h l. absurd (omega arith);
    others = λ i s h o. refl;
    systems = λ i s h o. refl;
    empty = λ e. refl;
  }

  -- what was written before at the same site has the same column
  module _ {x : ℕ} {ys zs : List ℤ} (below : (y : ℕ) → y < x + 1 → site list y < n) (was : ListWritten n g list x news xs ys)
      (w : SiteWritten n g.len g (site list x) (get_or news (site list x) 0) ys zs) where
    pub one_written : ListWritten n g list (x + 1) news xs zs
    one_written = let last = below x (omega arith) in record {
      long = w.long ∙ was.long;
      listed = λ y k l h. listed y k l h (ℕ_discrete (site list y) (site list x));
      others = λ i s l o. other_sites w last i s l (o x (omega arith)) ∙ was.others i s l (λ y h. o y (omega arith));
      systems = λ i s l o. other_systems w last i s l o ∙ was.systems i s l o;
      empty = λ z. absurd (omega (arith, last));
    }
      where
        listed :
            (y k : ℕ) → y < x + 1 → k < g.len → Dec (site list y ≡ site list x)
            → pattern_of n g zs (site list y) k ≡ shown (get_or news (site list y) 0) k
        listed y k l h (yes q) = rw q (w.group k h)
        listed y k l h (no q) =
            other_sites w (below x (omega arith)) (site list y) (member g k) (below y l) q
            ∙ was.listed y k (lt_of_ne l (λ e. q (ap (site list) e))) h
