-- What each function ensures allows one content of the buffer that it writes.
use Rattle.std.specs.Prelude.{ℕ, ◌<◌, ◌≡◌, List, length, get_or}
use Rattle.std.proofs.Common.{sym, ◌∙◌, arith, ext_get_or}
use Rattle.paper.specs.declared.Form.{Form}
use Rattle.paper.specs.declared.Group.{Group}
use Rattle.paper.specs.declared.Mode.{Mode}
use Rattle.choose.specs.Chosen.{Becomes, held_back, Freed, Marked, Reached, flipped_at, greyed, greyed_at, permuted_at}

-- a length and an entry at each place below it leave one list
only : (n : ℕ) (f : ℕ → ℕ) (ys zs : List ℕ) → length ys ≡ n → length zs ≡ n → ((i : ℕ) → i < n → get_or ys i 0 ≡ f i) → ((i : ℕ) → i < n → get_or zs i 0 ≡ f i)
    → ys ≡ zs
only n f ys zs l m p q = ext_get_or 0 ys zs (l ∙ sym m) (λ i h. p i (omega arith) ∙ sym (q i (omega arith)))

pub becomes_determined : (f : ℕ → ℕ) (xs ys zs : List ℕ) → Becomes f xs ys → Becomes f xs zs → ys ≡ zs
becomes_determined f xs ys zs p q = only (length xs) f ys zs p.long q.long p.at q.at

pub hold_back_determined : (pins labels tally ys zs : List ℕ) → Becomes (held_back pins labels tally) tally ys → Becomes (held_back pins labels tally) tally zs
    → ys ≡ zs
hold_back_determined pins labels tally ys zs p q = becomes_determined _ tally ys zs p q

pub tally_free_determined : (pins labels ys zs : List ℕ) → Freed pins labels ys → Freed pins labels zs → ys ≡ zs
tally_free_determined pins labels ys zs p q = only (length labels) _ ys zs p.long q.long p.each q.each

pub reach_determined : (mode : Mode) (form : Form) (seed : ℕ) (acts labels tally reached ys zs : List ℕ) → Marked form seed acts labels tally reached
    → Reached form mode seed acts labels tally ys → Reached form mode seed acts labels tally zs → ys ≡ zs
reach_determined mode form seed acts labels tally reached ys zs m p q =
    let a = p m.pins m.sized in
    let b = q m.pins m.sized in
    only (length acts) _ ys zs a.long b.long a.at b.at

pub flip_columns_determined : (form : Form) (reached labels flips table cols ys zs : List ℕ) → Becomes (flipped_at form reached labels flips table cols) cols ys
    → Becomes (flipped_at form reached labels flips table cols) cols zs → ys ≡ zs
flip_columns_determined form reached labels flips table cols ys zs p q = becomes_determined _ cols ys zs p q

pub grey_columns_determined : (form : Form) (reached labels greys cols ys zs : List ℕ) → Becomes (greyed_at form reached labels greys cols) cols ys
    → Becomes (greyed_at form reached labels greys cols) cols zs → ys ≡ zs
grey_columns_determined form reached labels greys cols ys zs p q = becomes_determined _ cols ys zs p q

pub permute_columns_determined : (form : Form) (g : Group) (gauge : ℕ) (reached labels perms cols ys zs : List ℕ)
    → Becomes (permuted_at form g.len gauge reached labels perms cols) cols ys
    → Becomes (permuted_at form g.len gauge reached labels perms cols) cols zs → ys ≡ zs
permute_columns_determined form g gauge reached labels perms cols ys zs p q = becomes_determined _ cols ys zs p q

pub grey_column_determined : (grey column r r' : ℕ) → r ≡ greyed grey column → r' ≡ greyed grey column → r ≡ r'
grey_column_determined grey column r r' p q = p ∙ sym q
