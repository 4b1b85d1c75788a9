-- What the steps of `count` come to.
use Prim.Native.Nat.{ℕ, zero, suc, ◌+◌, ◌≤◌, ◌<◌}
use mathlib.Core.Path.{◌≡◌, refl, sym, ap, ◌∙◌}
use mathlib.Core.Bool.{Bool, true, false, not, cond, ◌&&◌}
use mathlib.Core.List.{List}
use native.Mathlib.Nat.{lt_irrefl, le_refl, le_trans, le_of_eq, lt_of_lt_of_le}
use native.Mathlib.Omega.{arith}
use borrow.Author.Count.{below_none, below_more}
use borrow.Author.Tests.{eq-eqb, ne_eqb, eqb-true, le-leb, leb-true}
use lib.Dec.{eqb, leb}
use lib.ListN.{length, get_or, set, take, length-set}
use lib.Seq.{length-take-le, get_or-take, get_or-set_same, get_or-set_other}
use Rattle.lemmas.specs.Bools.{and_no}
use Rattle.lemmas.specs.Counts.{bit, count_where, count_zero, count_pos, count_most, count_ext}
use Rattle.paper.specs.Component.Sizes.{label_of, is_first, counted, size_of, of_size, at_least, Counted, Rank, Largest, Sized}
use Rattle.sizes.specs.Contract.{is_one, Countable}
use Rattle.sizes.specs.Steps.{Marking, Marked, single, several, Picked, Histogramming, ones_pass, Histogram, all_or_more, Place, Top4}
use Rattle.sizes.proofs.Numbers.{number_lt, by_number}
use Rattle.sizes.proofs.Ranks.{top_ext}

-- a component has a site
no_empty : (mark : ℕ → Bool) (l : List ℕ) → of_size mark l 0 ≡ 0
unfolding size_of
no_empty mark l = count_zero (λ i. counted mark l i && eqb (size_of l (label_of l i)) 0) (length l) (λ i il. rw (some i il) (and_no (counted mark l i)))
  where
    some : (i : ℕ) → i < length l → eqb (size_of l (label_of l i)) 0 ≡ false
    some i il =
        ne_eqb (size_of l (label_of l i)) 0
        (λ z. lt_irrefl 0 (rw z at (count_pos (λ j. eqb (label_of l j) (label_of l i)) (length l) i il (eq-eqb (label_of l i) (label_of l i) refl))))

-- another component, which is counted or not, with one site or not
turn : (c q a b : Bool) (x y z : ℕ) → (q ≡ true → a ≡ b) → cond a x 0 + y ≡ z
    → cond a (x + bit (c && q)) 0 + (y + bit ((c && not q) && b)) ≡ z + bit (c && b)
turn false q true b x y z e h = omega (arith, h)
turn false q false b x y z e h = omega (arith, h)
turn true true true b x y z e h = rw (← e refl) (omega (arith, h))
turn true true false b x y z e h = rw (← e refl) (omega (arith, h))
turn true false true b x y z e h = omega (arith, h)
turn true false false b x y z e h = omega (arith, h)

-- those of one site and the others are all
parts : (tally bytes : List ℕ) (f : ℕ → Bool) (m : ℕ)
    → ones_pass (count_where (single tally bytes) m) f + count_where (λ k. several tally bytes k && f (get_or tally k 0)) m
    ≡ count_where (λ k. is_one bytes k && f (get_or tally k 0)) m
unfolding count_where
parts tally bytes f zero = none (f 1)
  where
    none : (b : Bool) → cond b 0 0 + 0 ≡ 0
    none true = refl
    none false = refl
parts tally bytes f (suc m) =
    turn (is_one bytes m) (eqb (get_or tally m 0) 1) (f 1) (f (get_or tally m 0)) _ _ _ (λ e. ap f (sym (eqb-true _ _ e)))
    (parts tally bytes f m)

size_le : {l tally : List ℕ} → Sized l tally → (r : ℕ) → r < length l → get_or tally r 0 ≤ length l
unfolding size_of
size_le {l} {tally} h r rl = le_trans (le_of_eq (h.each r rl)) (count_most _ (length l))

-- there are not more numbers than sites
module _ {l tally marks : List ℕ} {found counts sizes : ℕ} (g : Countable l found tally marks counts sizes) where
  pub found_le : found ≤ length l
  found_le = rw g.firsts (count_most (is_first l) (length l))

  label_lt : (i : ℕ) → i < length l → label_of l i < length l
  label_lt i il = lt_of_lt_of_le (number_lt l g.ranked i il) (count_most (is_first l) (length l))

  pub found_as : (k : ℕ) → k ≡ found → Countable l k tally marks counts sizes
  found_as k e = rw e g

  pub marking : Marking l marks 4096
  marking = record { marked = g.marked; low = label_lt; fits = g.n_high }

module _
    {l tally marks bytes list : List ℕ} {found counts sizes ones m : ℕ} (g : Countable l found tally marks counts sizes) (w : Marked l marks bytes)
    (p : Picked found tally bytes list ones m) (fits : m ≤ length list)
  where
    pub part_long : length (take m list) ≡ m
    part_long = length-take-le m list fits

    -- at a first's number stand its byte and its component's size
    at_first : (f : ℕ → Bool) (i : ℕ) → i < length l
        → is_first l i && (is_one bytes (label_of l i) && f (get_or tally (label_of l i) 0)) ≡ counted (is_one marks) l i && f (size_of l (label_of l i))
    at_first f i il = go (is_first l i) refl
      where
        go : (b : Bool) → is_first l i ≡ b
            → b && (is_one bytes (label_of l i) && f (get_or tally (label_of l i) 0)) ≡ (b && is_one marks i) && f (size_of l (label_of l i))
        go true e = rw (w i il e, g.sized.each (label_of l i) (label_lt g i il)) refl
        go false e = refl

    -- as many of the list and of the sizes 1 pass a test as components
    passing : (f : ℕ → Bool)
        → ones_pass ones f + count_where (λ t. f (get_or (take m list) t 0)) (length (take m list))
        ≡ count_where (λ i. counted (is_one marks) l i && f (size_of l (label_of l i))) (length l)
    passing f =
        rw (p.singles, listed) (parts tally bytes f found)
        ∙ (ap (count_where test) g.firsts
        ∙ (sym (by_number l g.ranked test (length l) (le_refl (length l)))
        ∙ count_ext (λ i. is_first l i && test (label_of l i)) (λ i. counted (is_one marks) l i && f (size_of l (label_of l i))) (length l) (at_first f)))
      where
        test : ℕ → Bool
        test k = is_one bytes k && f (get_or tally k 0)

        listed : count_where (λ t. f (get_or (take m list) t 0)) (length (take m list)) ≡ count_where (λ k. several tally bytes k && f (get_or tally k 0)) found
        listed = rw part_long (count_ext (λ t. f (get_or (take m list) t 0)) (λ t. f (get_or list t 0)) m (λ t tl. ap f (get_or-take m list t 0 tl))) ∙ p.same f

    few : ones ≤ length l
    few = le_trans (rw p.singles (count_most (single tally bytes) found)) (found_le g)

    -- none that is listed is larger than all sites are, since no tally is
    low : (t : ℕ) → t < m → get_or list t 0 ≤ length l
    low t tl = go (leb (get_or list t 0) (length l)) refl
      where
        large : ℕ → Bool
        large x = not (leb x (length l))

        none : count_where (λ k. several tally bytes k && large (get_or tally k 0)) found ≡ 0
        none = count_zero (λ k. several tally bytes k && large (get_or tally k 0)) found
            (λ k kl. rw (le-leb _ _ (size_le g.sized k (omega (arith, found_le g)))) (and_no (several tally bytes k)))

        go : (b : Bool) → leb (get_or list t 0) (length l) ≡ b → get_or list t 0 ≤ length l
        go true e = leb-true _ _ e
        go false e = absurd (omega (arith, count_pos (λ t. large (get_or list t 0)) m t tl (rw e refl), p.same large, none))

    pub histogramming : Histogramming (take m list) ones (length l + 1)
    histogramming = record {
      few = omega (arith, part_long, p.short, found_le g, g.n_high);
      low = λ t tl. below t (rw part_long at tl);
      few_ones = le_trans few g.n_high;
      ones_low = omega (arith, few);
    }
      where
        below : (t : ℕ) → t < m → get_or (take m list) t 0 < length l + 1
        below t tl = rw (get_or-take m list t 0 tl) (omega (arith, low t tl))

    pub counted_are : {counts : List ℕ} → Histogram (take m list) ones counts (length l + 1) → Counted (is_one marks) l counts
    counted_are {counts} h = record { long = h.long; zeroth = each 0 (omega arith) ∙ no_empty (is_one marks) l; each = each }
      where
        each : (s : ℕ) → s ≤ length l → get_or counts s 0 ≡ of_size (is_one marks) l s
        each s sl = h.each s (omega arith) ∙ passing (λ x. eqb x s)

    pub largest_are : {a b c d : ℕ} → Top4 (all_or_more ones (take m list) (length (take m list))) a b c d → Top4 (at_least (is_one marks) l) a b c d
    largest_are = top_ext (λ v. passing (leb v))

-- ---- the four sizes are written
past : (xs : List ℕ) (i j v : ℕ) → j < i → get_or (set xs i v) j 0 ≡ get_or xs j 0
past xs i j v l = get_or-set_other xs i j v 0 (λ e. lt_irrefl i (rw e at l))

at : (xs : List ℕ) (i v : ℕ) → length xs ≡ 4 → i < 4 → get_or (set xs i v) i 0 ≡ v
at xs i v long l = get_or-set_same xs i v 0 (omega arith)

abbrev pub written : List ℕ → ℕ → ℕ → ℕ → ℕ → List ℕ
written xs a b c d = set (set (set (set xs 0 a) 1 b) 2 c) 3 d

module _ {mark : ℕ → Bool} (l xs : List ℕ) (long : length xs ≡ 4) {a b c d : ℕ} (h : Top4 (at_least mark l) a b c d) where
  rank : {t x : ℕ} → Place (at_least mark l) t x → get_or (written xs a b c d) t 0 ≡ x → Rank mark l t (get_or (written xs a b c d) t 0)
  rank p e = rw e (record { larger = p.larger; reached = p.reached })

  pub largest_written : Largest mark l (written xs a b c d)
  largest_written = record { long = simp length-set long; each = below_more P 3 (below_more P 2 (below_more P 1 (below_more P 0 (below_none P) p0) p1) p2) p3 }
    where
      P : ℕ → Type 0
      P t = Rank mark l t (get_or (written xs a b c d) t 0)

      s1 : List ℕ
      s1 = set xs 0 a

      s2 : List ℕ
      s2 = set s1 1 b

      s3 : List ℕ
      s3 = set s2 2 c

      p0 : P 0
      p0 = rank h.first (past s3 3 0 d (omega arith) ∙ (past s2 2 0 c (omega arith) ∙ (past s1 1 0 b (omega arith) ∙ at xs 0 a long (omega arith))))

      p1 : P 1
      p1 = rank h.second (past s3 3 1 d (omega arith) ∙ (past s2 2 1 c (omega arith) ∙ at s1 1 b (simp length-set long) (omega arith)))

      p2 : P 2
      p2 = rank h.third (past s3 3 2 d (omega arith) ∙ at s2 2 c (simp length-set long) (omega arith))

      p3 : P 3
      p3 = rank h.fourth (at s3 3 d (simp length-set long) (omega arith))
