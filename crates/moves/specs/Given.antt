-- What the choose step leans on, with any lists of labels below n, and what its columns come to. It is lent no neighbour table, and none is looked at.
use Rattle.std.specs.Prelude.{ℕ, ◌*◌, ◌<◌, ◌≡◌, refl, true, List, length, get_or, ℤ, Float}
use Rattle.std.proofs.Common.{sym, ◌∙◌, arith}
use Rattle.paper.specs.declared.Task.{Task}
use Rattle.paper.specs.Panel.Input.{Call, Choices, pattern, size}
use Rattle.paper.specs.Panel.Made.{call_of}
use Rattle.paper.specs.Panel.Takes.{is_cmr, is_perm, moves, perms_by, greys_by, takes_choices, takes_greys, takes_seed, entries, choice_bytes}
use Rattle.paper.specs.Site.Acting.{acts}
use Rattle.paper.specs.Component.Marks.{Flags}
use Rattle.paper.specs.Move.Moving.{final}
use Rattle.paper.specs.Refusal.Rules.{When, Ranged, Chosen}
use Rattle.laws.specs.Choices.{flips_taken, perms_taken, flips_bytes, perms_bytes}
use Rattle.columns.specs.Column.{Columns, Spinning}
use Rattle.choose.specs.Chosen.{Becomes, Freed}
use Rattle.moves.specs.Steps.{ChooseAsks, final_at}
use Rattle.moves.specs.Choices.{places_of, rows_of, columns_narrow}
use Rattle.moves.specs.Finish.{final_columns}

-- a form that moves, and tested rows and choices
pub record Given (c : Call) (p : Choices) (xs : List ℤ) : Type 0 where
  pub ranged : Ranged c.lattice.n c.lattice.d c.lattice.s c.mode (size c)
  pub spins : Spinning c.lattice.n c.group xs
  pub choices : When (takes_choices c) (length p.choices ≡ choice_bytes c.mode c.form c.lattice.n (size c))
  pub greys : When (takes_greys c) (length p.greys ≡ entries c.form c.lattice.n)
  pub chosen : Chosen c p
  pub seeded : When (takes_seed c) (c.seed < c.lattice.n)
  pub moving : moves c.form ≡ true

-- a label for each of n sites, which need not be that of any bonds
pub record Keys (n : ℕ) (l : List ℕ) : Type 0 where
  pub long : length l ≡ n
  pub below : (i : ℕ) → i < n → get_or l i 0 < n

module _
    (t : Task) (fwd bwd pins : List ℕ) (couplings : List ℤ) (cuts : List Float) (p : Choices) (xs : List ℤ)
    (v : Given (call_of t fwd bwd pins couplings cuts) p xs) {l flags cols : List ℕ} (keys : Keys t.n l)
    (acting : Flags t.n (acts (call_of t fwd bwd pins couplings cuts) xs) flags)
    (columns : Columns t.n t.group.len (pattern (call_of t fwd bwd pins couplings cuts) xs) cols)
  where
    abbrev c : Call
    c = call_of t fwd bwd pins couplings cuts

    permuting : is_perm t.mode ≡ true → perms_by t.mode t.form ≡ true
    permuting e = rw (v.moving, e) refl

    rows_long : is_perm t.mode ≡ true → length p.choices ≡ entries t.form t.n * size c
    rows_long e =
        v.choices (perms_taken t.mode t.form (permuting e)) ∙ perms_bytes t.mode t.form t.n (size c) (permuting e)

    greying : is_cmr t.mode ≡ true → greys_by t.mode t.form ≡ true
    greying e = rw (v.moving, e) refl

    -- what `choose_task` asks
    pub given_asks :
        {g tally greyTally reached : List ℕ} → Freed pins l tally → (is_cmr t.mode ≡ true → Keys t.n g)
        → (is_cmr t.mode ≡ true → Freed pins g greyTally) → length reached ≡ t.n
        → ChooseAsks t p.choices p.greys flags l tally g greyTally reached cols
    given_asks free others others_free reached_long = record {
      choosable = record {
        few = omega (arith, columns.long, v.ranged.lattice.n_high);
        flags_long = acting.long ∙ sym columns.long;
        labels_long = keys.long ∙ sym columns.long;
        reached_long = reached_long ∙ sym columns.long;
        below = λ i h. rw columns.long (keys.below i (rw columns.long at h));
        seeded = λ e. rw columns.long (v.seeded e);
        reference = λ e. rw columns.long (v.chosen.reference e);
        moving = v.moving;
        size_low = omega (arith, v.ranged.size_low);
        size_high = v.ranged.size_high;
        flips_long = λ e.
            v.choices (flips_taken t.mode t.form e) ∙ (flips_bytes t.mode t.form t.n (size c) e ∙ sym columns.long);
        perms_long = λ e. rw columns.long (rows_long e);
        places = λ e. places_of _ (size c) p.choices (omega (arith, v.ranged.size_low)) (rows_long e) (v.chosen.perms (permuting e));
        narrow = λ i h. columns_narrow columns i (rw columns.long at h);
      };
      pins = pins;
      tallied = free;
      greyable = λ e. record {
        greys_long = rw columns.long (v.greys (greying e));
        small = λ x h. v.chosen.greys (greying e) x (rw (v.greys (greying e)) at h);
        labels_long = (others e).long ∙ sym columns.long;
        below = λ i h. rw columns.long ((others e).below i (rw columns.long at h));
        tallied = others_free e;
        two = v.ranged.cmr_two e;
      };
    }

    -- and what it leaves: the columns of the patterns after the move by these labels
    pub chosen_columns :
        (g : List ℕ) {new : List ℕ} → Becomes (final_at t pins flags l g p.choices p.greys cols) cols new
        → Columns t.n t.group.len (final c p xs l g) new
    chosen_columns g b =
        final_columns t fwd bwd pins couplings cuts p xs l g v.spins v.ranged.cmr_two v.chosen.reference
        (λ _. rows_of c p l v.moving keys.below v.chosen.perms) v.moving acting columns b
