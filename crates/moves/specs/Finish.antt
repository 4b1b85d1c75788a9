-- What the steps of a task come to: the patterns that the paper's move leaves.
use Rattle.std.specs.Prelude.{ℕ, ◌<◌, ◌≡◌, Bool, not, ◌&&◌, List, get_or, ℤ, neg_ℤ, Float}
use Rattle.std.proofs.Math.Path.{refl, ap}
use Rattle.std.proofs.Common.{sym, ◌∙◌}
use Rattle.std.proofs.Math.Bool.{true, false, cond}
use Rattle.lemmas.specs.Bools.{never, and_no}
use Rattle.paper.specs.declared.Task.{Task}
use Rattle.paper.specs.declared.Form.{Form}
use Rattle.paper.specs.declared.Form.TheVariants.{Sw, Wolff, Observe, Grow}
use Rattle.paper.specs.Panel.Input.{Call, Choices, pattern, size}
use Rattle.paper.specs.Panel.Made.{call_of}
use Rattle.paper.specs.Panel.Takes.{is_gperm, is_cmr, moves, takes_greys}
use Rattle.paper.specs.Site.Acting.{acts}
use Rattle.paper.specs.Component.Sizes.{label_of}
use Rattle.paper.specs.Component.Marks.{Flags}
use Rattle.paper.specs.Move.Moving.{flip_some, grey_bit, grey_at, reached, reached_by, held, after, final, Moves}
use Rattle.paper.specs.Refusal.Rules.{Spin}
use Rattle.laws.specs.Patterns.{flip_spin}
use Rattle.columns.specs.Column.{shown, column_of, shown_column, column_ext, Columns, Spinning}
use Rattle.columns.specs.Gauge.{gauge_of, gauge_is}
use Rattle.columns.specs.Laws.{columns_shown}
use Rattle.choose.specs.Chosen.{Becomes, greyed}
use Rattle.moves.specs.Tested.{TestedFor}
use Rattle.column_rules.specs.Acted.{choice_column}
use Rattle.moves.specs.Moved.{Rows, chosen_column, after_spin}
use Rattle.moves.specs.Steps.{column_chosen_at, final_at}
use Rattle.moves.specs.Choices.{reached_is}

-- ---- to observe moves nothing
unreached : (f : Form) (c : Call) (xs : List ℤ) (l : List ℕ) (i : ℕ) → f ≡ Observe
    → (acts c xs i && (reached_by f c.mode c.seed l i && not (held c l i))) ≡ false
unreached f c xs l i e = rw e (and_no (acts c xs i))

pub no_move : (f : Form) → moves f ≡ false → f ≡ Observe
no_move Sw e = never (sym e)
no_move Wolff e = never (sym e)
no_move Observe e = refl
no_move Grow e = never (sym e)

pub observed : (c : Call) (p : Choices) (xs : List ℤ) (l g : List ℕ) → c.form ≡ Observe → Moves c p xs l g xs
unfolding final reached
observed c p xs l g e = record {
  long = refl;
  group = λ i k hi hk. sym (rw (unreached c.form c xs l i e, unreached c.form c xs g i e) (both (takes_greys c) _ _));
  others = λ i t hi o. refl;
}
  where
    both : (t : Bool) (x y : ℤ) → cond (t && false) x y ≡ y
    both true x y = refl
    both false x y = refl

-- ---- the columns that `choose_task` leaves are those of the patterns after the move
module _
    (c : Call) (p : Choices) (xs : List ℤ) (l g : List ℕ) (r : TestedFor c xs) (reference : is_gperm c.mode ≡ true → c.reference < c.lattice.n)
    (rows : moves c.form ≡ true → Rows c p l)
  where
    pub final_spin : (i k : ℕ) → i < c.lattice.n → k < size c → Spin (final c p xs l g i k)
    unfolding final
    final_spin i k hi hk = go (takes_greys c && reached c xs g i)
      where
        go : (t : Bool) → Spin (cond t (flip_some (grey_bit (grey_at c.form p.greys (label_of g i))) (after c p xs l i) k) (after c p xs l i k))
        go true =
            flip_spin (grey_bit (grey_at c.form p.greys (label_of g i)) k) (after c p xs l i k) (after_spin c p xs l r.spins reference rows i hi k hk)
        go false = after_spin c p xs l r.spins reference rows i hi k hk

    -- rows written from columns of spins are those spins
    pub spins_back :
        (cols : List ℕ) (ys : List ℤ) → Columns c.lattice.n (size c) (final c p xs l g) cols
        → ((i k : ℕ) → i < c.lattice.n → k < size c → pattern c ys i k ≡ shown (get_or cols i 0) k)
        → (i k : ℕ) → i < c.lattice.n → k < size c → pattern c ys i k ≡ final c p xs l g i k
    spins_back cols ys h w i k hi hk = w i k hi hk ∙ columns_shown h i k hi hk (final_spin i k hi hk)

-- from the spins alone: no neighbour table
module _
    (c : Call) (p : Choices) (xs : List ℤ) (l : List ℕ) (spins : Spinning c.lattice.n c.group xs) (two : is_cmr c.mode ≡ true → size c ≡ 2)
    (reference : is_gperm c.mode ≡ true → c.reference < c.lattice.n) (rows : moves c.form ≡ true → Rows c p l)
  where
    -- the column of the site i after the first choice
    abbrev mid : ℕ → ℕ
    mid i = column_of (size c) (after c p xs l i)

    -- a grey number on the column of the pattern after the blue flip
    grey_column :
        is_cmr c.mode ≡ true → (x i : ℕ) → i < c.lattice.n → greyed x (mid i) ≡ column_of (size c) (flip_some (grey_bit x) (after c p xs l i))
    grey_column e x i hi =
        ap (λ (m : ℕ). column_of m (flip_some (grey_bit x) (shown (mid i)))) (sym (two e))
        ∙ column_ext (size c) _ _
        (λ k hk.
        ap (λ (z : ℤ). cond (grey_bit x k) (neg_ℤ z) z)
        (shown_column (size c) (after c p xs l i) k hk (after_spin c p xs l spins reference rows i hi k hk)))

module _
    (t : Task) (fwd bwd pins : List ℕ) (couplings : List ℤ) (cuts : List Float) (p : Choices) (xs : List ℤ) (l g : List ℕ)
    (spins : Spinning t.n t.group xs) (two : is_cmr t.mode ≡ true → t.group.len ≡ 2)
    (reference : is_gperm t.mode ≡ true → t.reference < t.n)
    (rows : moves t.form ≡ true → Rows (call_of t fwd bwd pins couplings cuts) p l) {flags cols : List ℕ} (moving : moves t.form ≡ true)
    (acting : Flags t.n (acts (call_of t fwd bwd pins couplings cuts) xs) flags)
    (columns : Columns t.n t.group.len (pattern (call_of t fwd bwd pins couplings cuts) xs) cols)
  where
    abbrev c : Call
    c = call_of t fwd bwd pins couplings cuts

    abbrev m : ℕ
    m = t.group.len

    abbrev to : ℕ → ℕ → ℕ → ℕ
    to i y x = choice_column t.mode t.form m y p.choices (label_of l i) x

    abbrev y : ℕ
    y = gauge_of t.mode m (get_or cols t.reference 0)

    abbrev chosen : ℕ → ℕ
    chosen i = column_chosen_at t pins flags l p.choices cols i

    chosen_at : (i : ℕ) → i < t.n → chosen i ≡ column_of m (after c p xs l i)
    chosen_at i hi =
        ap (λ (b : Bool). cond b (to i y (get_or cols i 0)) (get_or cols i 0)) (reached_is c xs l flags acting i hi)
        ∙ (ap (λ (x : ℕ). cond (reached c xs l i) (to i y x) x) (columns.at i hi)
        ∙ (ap (λ (z : ℕ). cond (reached c xs l i) (to i z (column_of m (pattern c xs i))) (column_of m (pattern c xs i)))
        (gauge_is t.mode m t.n t.reference (pattern c xs) columns reference)
        ∙ chosen_column c p xs l spins reference rows i hi))

    abbrev grey_number : ℕ → ℕ
    grey_number i = grey_at t.form p.greys (label_of g i)

    final_at_lem : (i : ℕ) → i < t.n → final_at t pins flags l g p.choices p.greys cols i ≡ column_of m (final c p xs l g i)
    unfolding final
    final_at_lem i hi =
        ap
        (λ (b : Bool).
        cond (is_cmr t.mode && b) (greyed (grey_number i) (chosen i)) (chosen i))
        (reached_is c xs g flags acting i hi)
        ∙ (ap (λ (x : ℕ). cond (is_cmr t.mode && reached c xs g i) (greyed (grey_number i) x) x) (chosen_at i hi)
        ∙ go (is_cmr t.mode) refl (reached c xs g i))
      where
        go :
            (b : Bool) → is_cmr t.mode ≡ b → (u : Bool)
            → cond (b && u) (greyed (grey_number i) (column_of m (after c p xs l i))) (column_of m (after c p xs l i))
            ≡ column_of m (λ k. cond ((moves t.form && b) && u) (flip_some (grey_bit (grey_number i)) (after c p xs l i) k) (after c p xs l i k))
        go false q u = rw moving refl
        go true q false = rw moving refl
        go true q true = rw moving (grey_column c p xs l spins two reference rows q (grey_number i) i hi)

    pub final_columns :
        {new : List ℕ}
        → Becomes (final_at t pins flags l g p.choices p.greys cols) cols new → Columns t.n m (final c p xs l g) new
    final_columns b = record { long = b.long ∙ columns.long; at = λ i hi. b.at i (rw columns.long hi) ∙ final_at_lem i hi }
