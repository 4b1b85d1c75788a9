-- What accepted choices tell the choosing functions.
use Rattle.std.specs.Prelude.{ℕ, ◌+◌, ◌*◌, ◌/◌, ◌%◌, ◌^◌, ◌<◌, ◌≡◌, refl, Bool, true, not, ◌&&◌, List, length, get_or, ℤ}
use Rattle.std.proofs.Common.{ap, div-add-mod', mod-lt, div-lt_iff_lt-mul}
use Rattle.paper.specs.Panel.Input.{Call, Choices, Pattern, size}
use Rattle.paper.specs.Panel.Takes.{moves, entries, entry, perms_by}
use Rattle.paper.specs.Site.Acting.{acts}
use Rattle.paper.specs.Component.Sizes.{label_of}
use Rattle.paper.specs.Component.Marks.{Flags}
use Rattle.paper.specs.Move.Moving.{reached, reached_by, held}
use Rattle.paper.specs.Refusal.Rules.{Permutes}
use Rattle.laws.specs.Entries.{entry_lt}
use Rattle.columns.specs.Column.{Columns, column_lt}
use Rattle.choose.specs.Chosen.{reached_at}
use Rattle.column_rules.specs.Sight.{flag_at}
use Rattle.moves.specs.Moved.{Rows}

-- rows of m places, each a permutation: every entry names a place
pub places_of :
    (rows m : ℕ) (perms : List ℕ) → 0 < m → length perms ≡ rows * m
    → ((r : ℕ) → r < rows → Permutes m (λ k. get_or perms (r * m + k) 0))
    → (x : ℕ) → x < length perms → get_or perms x 0 < m
places_of rows m perms some long each x h =
    rw (← div-add-mod' x m) ((each (x / m) ((div-lt_iff_lt-mul some).1 (rw long at h))).within (x % m) (mod-lt x some))

-- the permutation of every label
pub rows_of :
    (c : Call) (p : Choices) (l : List ℕ) → moves c.form ≡ true → ((i : ℕ) → i < c.lattice.n → get_or l i 0 < c.lattice.n)
    → (perms_by c.mode c.form ≡ true → (r : ℕ) → r < entries c.form c.lattice.n → Permutes (size c) (λ k. get_or p.choices (r * size c + k) 0))
    → Rows c p l
rows_of c p l m below each e i hi =
    each (rw (m, e) refl) (entry c.form (label_of l i)) (entry_lt c.form c.lattice.n (label_of l i) m (below i hi))

-- the sites that the choosing functions reach are the call's
pub reached_is :
    (c : Call) (xs : List ℤ) (l flags : List ℕ) → Flags c.lattice.n (acts c xs) flags
    → (i : ℕ) → i < c.lattice.n → reached_at c.form c.mode c.seed c.pins flags l i ≡ reached c xs l i
unfolding reached
reached_is c xs l flags h i hi =
    ap (λ (t : Bool). t && (reached_by c.form c.mode c.seed l i && not (held c l i))) (flag_at c.lattice.n (acts c xs) flags h i hi)

pub columns_narrow : {n m : ℕ} {f : ℕ → Pattern} {cols : List ℕ} → Columns n m f cols → (i : ℕ) → i < n → get_or cols i 0 < 2 ^ m
columns_narrow {n} {m} {f} {cols} h i l = rw (h.at i l) (column_lt m (f i))
