-- Through packing: a call on the bytes of rows is the call on the rows; and a byte stays where its site's spins do.
use Rattle.std.specs.Prelude.{ℕ, ◌*◌, ◌≤◌, ◌<◌, ◌≡◌, Bool, true, List, length, get_or, ℤ}
use Rattle.std.proofs.Common.{sym, ◌∙◌, ap, subst}
use Rattle.paper.specs.declared.Group.{Group}
use Rattle.paper.specs.Answer.Cases.{Answer}
use Rattle.paper.specs.Panel.Input.{graph, Call, Choices, Buffers, pattern, pattern_of, spin, size, pinned}
use Rattle.paper.specs.Site.Bonds.{holds}
use Rattle.paper.specs.Component.Labels.{Joined}
use Rattle.paper.specs.Refusal.Rules.{AllSystems, Spins}
use Rattle.paper.specs.Answer.Move.{Answers}
use Rattle.paper.specs.Answer.Totals.{KeepAnswers}
use Rattle.columns.specs.Column.{column_ext}
use Rattle.laws.specs.HeldStill.{held_still}
use Rattle.packing.specs.Bytes.{rows_of, bytes_of, Narrow, own_group}
use Rattle.packing.proofs.Laws.{pack_unpack, own_pattern, column_back}
use Rattle.packed.specs.Packed.{PackedAnswers}

-- ---- through packing: the bytes of rows of spins are answered what the rows are
module _
    (keeping : Bool) (c : Call) (p : Choices) (n : ℕ) (rows : List ℤ) (b : List ℤ → Buffers) (ts : List ℤ) (a : Answer) (ys : List ℕ)
    (b' : List ℤ → Buffers) (ts' : List ℤ) (long : length rows ≡ size c * n) (spins : Spins n (AllSystems (size c)) rows)
  where
    pub through_packing :
        PackedAnswers keeping c p (bytes_of (size c) n rows) b ts a ys b' ts' → KeepAnswers keeping c p (b rows) ts a (b' (rows_of (size c) ys)) ts'
    through_packing w =
        subst (λ (us : List ℤ). KeepAnswers keeping c p (b us) ts a (b' (rows_of (size c) ys)) ts') (pack_unpack (size c) n rows long spins) w.rows

-- ---- bytes that stay
module _
    (c : Call) (own : c.group ≡ own_group (size c)) (few : size c ≤ 8) (xs ys : List ℕ) (long : length xs ≡ c.lattice.n) (long' : length ys ≡ c.lattice.n)
    (low : Narrow (size c) xs) (low' : Narrow (size c) ys) (i : ℕ) (hi : i < c.lattice.n)
  where
    abbrev m : ℕ
    m = size c

    abbrev n : ℕ
    n = c.lattice.n

    row : (us : List ℤ) (k : ℕ) → k < m → pattern c us i k ≡ spin n us k i
    row us k h = subst (λ (g : Group). pattern_of n g us i k ≡ spin n us k i) (sym own) (own_pattern m few n us i k h)

    -- where the rows keep a site's spins its byte is kept
    pub byte_stays : ((k : ℕ) → k < m → pattern c (rows_of m ys) i k ≡ pattern c (rows_of m xs) i k) → get_or ys i 0 ≡ get_or xs i 0
    byte_stays same =
        sym (column_back m n ys long' low' i hi)
        ∙ (column_ext m (λ k. spin n (rows_of m ys) k i) (λ k. spin n (rows_of m xs) k i)
        (λ k h. sym (row (rows_of m ys) k h) ∙ (same k h ∙ row (rows_of m xs) k h))
        ∙ column_back m n xs long low i hi)

    -- so that of a site whose component has a pinned site j stays, in every mode, form and answer
    pub held_byte :
        (p : Choices) (b b' : Buffers) → b.spins ≡ rows_of m xs → b'.spins ≡ rows_of m ys → (j : ℕ) (hj : j < n) → pinned c j ≡ true
        → Joined (graph c) (holds c b.spins) i j → (a : Answer) → Answers c p b a b' → get_or ys i 0 ≡ get_or xs i 0
    held_byte p b b' e e' j hj pin q a w = byte_stays (λ k h.
        ap (λ (us : List ℤ). pattern c us i k) (sym e')
        ∙ (held_still c p b b' i j hi hj pin q a w k h ∙ ap (λ (us : List ℤ). pattern c us i k) e))
