-- How tight the promises are: they allow one column, one content of the area of columns, and one of the spins.
use Rattle.std.specs.Prelude.{ℕ, ◌/◌, ◌%◌, ◌<◌, ◌≡◌, ◌⊎◌, Bool, List, get_or, ℤ, pos}
use Rattle.std.proofs.Common.{sym, ◌∙◌, inl, inr, arith, div-add-mod', mod-lt, ext_get_or}
use Rattle.std.proofs.Math.Decide.{ℕ_discrete}
use Rattle.lemmas.specs.Places.{Placed, Unplaced, place}
use Rattle.paper.specs.declared.Group.{Group}
use Rattle.paper.specs.declared.Task.{Task}
use Rattle.paper.specs.Panel.Input.{member, spin}
use Rattle.turn.specs.Turned.{turned_column, ColumnsTurned, ListWritten}

pub turned_column_determined :
    (t : Task) (gauge : ℕ) (choices greys : List ℕ) (acts : Bool) (column r r' : ℕ)
    → r ≡ turned_column t gauge choices greys acts column
    → r' ≡ turned_column t gauge choices greys acts column
    → r ≡ r'
turned_column_determined t gauge choices greys acts column r r' e e' = e ∙ sym e'

pub turn_columns_determined :
    (t : Task) (gauge : ℕ) (choices greys list cols : List ℕ) (blue len : ℕ) (news ys zs : List ℕ)
    → ColumnsTurned t gauge choices greys list cols blue len news ys
    → ColumnsTurned t gauge choices greys list cols blue len news zs
    → ys ≡ zs
turn_columns_determined t gauge choices greys list cols blue len news ys zs w v =
    ext_get_or 0 ys zs (w.long ∙ sym v.long) (λ i h. at i (place len (λ x. get_or list x 0) i))
  where
    at : (i : ℕ) → Placed len (λ x. get_or list x 0) i ⊎ Unplaced len (λ x. get_or list x 0) i → get_or ys i 0 ≡ get_or zs i 0
    at i (inl p) = rw p.2 (w.listed p.0 p.1 ∙ sym (v.listed p.0 p.1))
    at i (inr p) = w.others i p ∙ sym (v.others i p)

pub write_listed_determined :
    (n : ℕ) (g : Group) (list : List ℕ) (len : ℕ) (news : List ℕ) (xs ys zs : List ℤ)
    → ListWritten n g list len news xs ys
    → ListWritten n g list len news xs zs
    → ys ≡ zs
write_listed_determined n g list len news xs ys zs w v = go (ℕ_discrete n 0)
  where
    at :
        (s i : ℕ) → i < n → Placed g.len (member g) s ⊎ Unplaced g.len (member g) s
        → Placed len (λ x. get_or list x 0) i ⊎ Unplaced len (λ x. get_or list x 0) i → spin n ys s i ≡ spin n zs s i
    at s i h (inl p) (inl q) = rw (p.2, q.2) (w.listed q.0 p.0 q.1 p.1 ∙ sym (v.listed q.0 p.0 q.1 p.1))
    at s i h (inr p) q = w.systems i s h p ∙ sym (v.systems i s h p)
    at s i h (inl p) (inr q) = w.others i s h q ∙ sym (v.others i s h q)

    cell : 0 < n → (x : ℕ) → get_or ys x (pos 0) ≡ get_or zs x (pos 0)
    cell h x =
        rw (← div-add-mod' x n)
        (at (x / n) (x % n) (mod-lt x h) (place g.len (member g) (x / n)) (place len (λ y. get_or list y 0) (x % n)))

    go : Dec (n ≡ 0) → ys ≡ zs
    go (yes e) = w.empty e ∙ sym (v.empty e)
    go (no e) = ext_get_or (pos 0) ys zs (w.long ∙ sym v.long) (λ x h. cell (omega (arith, e)) x)
