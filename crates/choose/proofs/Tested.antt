-- The test that `reach` makes at a site is the form's.
use Prim.Native.Nat.{ℕ, ◌<◌}
use mathlib.Core.Path.{◌≡◌, refl, sym, ◌∙◌, ap}
use mathlib.Core.Bool.{Bool, true, false, not, cond, ◌&&◌}
use mathlib.Core.List.{List}
use native.Mathlib.Omega.{arith}
use borrow.Author.Tests.{le-leb, lt-leb}
use lib.Dec.{eqb, leb}
use lib.ListN.{length, get_or}
use Rattle.lemmas.specs.Bools.{and_no}
use Rattle.lemmas.specs.Counts.{bit}
use Rattle.paper.specs.declared.Form.{Form}
use Rattle.paper.specs.declared.Form.TheVariants.{Sw, Wolff, Observe, Grow}
use Rattle.paper.specs.declared.Mode.{Mode}
use Rattle.paper.specs.Panel.Takes.{is_sw, is_perm, one_cluster, grows_by}
use Rattle.paper.specs.Component.Sizes.{label_of, size_of}
use Rattle.paper.specs.Move.Moving.{least_size, reached_by, has_one}
use Rattle.choose.specs.Chosen.{Becomes, Marked, is_one, has_itself, reached_at, Reached}

-- the label of the one component that moves, or grow's 1
abbrev pub own_of : Form → ℕ → List ℕ → ℕ
own_of form seed l = cond (one_cluster form) (cond (grows_by form) 1 (label_of l seed)) 0

-- by the smallest size that SW moves and by that label
abbrev pub tested : Form → ℕ → ℕ → List ℕ → List ℕ → List ℕ → ℕ → Bool
tested form least own acts labels tally i =
    is_one acts i
    && cond (is_sw form) (leb least (get_or tally (label_of labels i) 0))
    (one_cluster form && (eqb (label_of labels i) own && leb 1 (get_or tally (label_of labels i) 0)))

bit_is : (b : Bool) → cond b 1 0 ≡ bit b
bit_is true = refl
bit_is false = refl

and_yes : (b : Bool) → b ≡ (b && true)
and_yes true = refl
and_yes false = refl

-- a size from 1 on is asked, so that one of 0 is too small
by_size : (least s : ℕ) (held : Bool) → 0 < least → leb least (cond held 0 s) ≡ (leb least s && not held)
by_size least s true h = lt-leb least 0 h ∙ sym (and_no (leb least s))
by_size least s false h = and_yes (leb least s)

one_or_none : (s : ℕ) (held : Bool) → 0 < s → leb 1 (cond held 0 s) ≡ not held
one_or_none s true h = lt-leb 1 0 (omega arith)
one_or_none s false h = le-leb 1 s (omega arith)

least_some : (mode : Mode) → 0 < least_size mode
least_some mode = go (is_perm mode)
  where
    go : (b : Bool) → 0 < cond b 1 2
    go true = omega arith
    go false = omega arith

is_reached : (form : Form) (mode : Mode) (seed : ℕ) (l tally : List ℕ) (i : ℕ) (held : Bool) → 0 < size_of l (label_of l i)
    → get_or tally (label_of l i) 0 ≡ cond held 0 (size_of l (label_of l i))
    → cond (is_sw form) (leb (least_size mode) (get_or tally (label_of l i) 0))
    (one_cluster form && (eqb (label_of l i) (own_of form seed l) && leb 1 (get_or tally (label_of l i) 0)))
    ≡ (reached_by form mode seed l i && not held)
is_reached Sw mode seed l tally i held h e = rw e (by_size (least_size mode) (size_of l (label_of l i)) held (least_some mode))
is_reached Wolff mode seed l tally i held h e =
    ap (λ (x : Bool). eqb (label_of l i) (label_of l seed) && x) (rw e (one_or_none (size_of l (label_of l i)) held h))
is_reached Observe mode seed l tally i held h e = refl
is_reached Grow mode seed l tally i held h e = ap (λ (x : Bool). eqb (label_of l i) 1 && x) (rw e (one_or_none (size_of l (label_of l i)) held h))

pub all_reached : (form : Form) (mode : Mode) (seed : ℕ) (acts labels tally xs ys : List ℕ) (least own : ℕ) → Marked form seed acts labels tally xs
    → least ≡ least_size mode → own ≡ own_of form seed labels → Becomes (λ i. cond (tested form least own acts labels tally i) 1 0) xs ys
    → Reached form mode seed acts labels tally ys
all_reached form mode seed acts labels tally xs ys least own m e o b pins f = record {
  long = b.long ∙ m.lent;
  at = λ i h. b.at i (omega (arith, m.lent)) ∙ (bit_is (tested form least own acts labels tally i) ∙ ap bit (same i h));
}
  where
    same : (i : ℕ) → i < length acts → tested form least own acts labels tally i ≡ reached_at form mode seed pins acts labels i
    same i h =
        rw (e, o)
        (ap (λ (x : Bool). is_one acts i && x)
        (is_reached form mode seed labels tally i (has_one (is_one pins) labels (label_of labels i)) (has_itself labels i (omega (arith, m.labelled)))
        (f.each (label_of labels i) (omega (arith, m.below i h, m.labelled)))))
