-- The new columns that the choosing functions leave are those of the components' choices.
use Rattle.std.specs.Prelude.{ℕ, ◌^◌, ◌<◌, ◌≡◌, refl, Bool, true, false, cond, ◌&&◌, List, length, get_or}
use Rattle.std.proofs.Common.{◌∙◌, ap, subst}
use Rattle.paper.specs.declared.Task.{Task}
use Rattle.paper.specs.Panel.Takes.{is_perm, is_cmr}
use Rattle.paper.specs.Component.Sizes.{label_of}
use Rattle.paper.specs.Component.Marks.{Flags}
use Rattle.paper.specs.Move.Moving.{flip_by, grey_at}
use Rattle.columns.specs.Column.{shown, column_of, flipped}
use Rattle.columns.specs.Gauge.{gauge_of}
use Rattle.column_rules.specs.Tables.{Table}
use Rattle.choose.specs.Chosen.{Becomes, reached_at, flipped_at, permuted_at, greyed, greyed_at}
use Rattle.column_rules.specs.Sight.{flag_at}
use Rattle.column_rules.specs.Acted.{choice_column, flip_choice, perm_choice, cmr_narrow}
use Rattle.moves.specs.Steps.{column_chosen_at, final_at}

-- ---- `choose_columns`
module _
    (t : Task) (n : ℕ) (pins acts labels choices reached cols : List ℕ)
    (marks : Flags n (reached_at t.form t.mode t.seed pins acts labels) reached)
  where
    abbrev m : ℕ
    m = t.group.len

    abbrev g : ℕ
    g = gauge_of t.mode m (get_or cols t.reference 0)

    pub by_flips :
        (table : List ℕ) → is_perm t.mode ≡ false → Table m (λ x. column_of m (flipped t.mode m (shown x))) table
        → (i : ℕ) → i < n → get_or cols i 0 < 2 ^ m
        → flipped_at t.form reached labels choices table cols i ≡ column_chosen_at t pins acts labels choices cols i
    by_flips table e h i l narrow =
        rw (flag_at n (reached_at t.form t.mode t.seed pins acts labels) reached marks i l, h.at (get_or cols i 0) narrow)
        (go (reached_at t.form t.mode t.seed pins acts labels i) (flip_by t.form choices (label_of labels i)) refl)
      where
        go :
            (b f : Bool) → f ≡ flip_by t.form choices (label_of labels i)
            → cond (b && f) (column_of m (flipped t.mode m (shown (get_or cols i 0)))) (get_or cols i 0)
            ≡ cond b (choice_column t.mode t.form m g choices (label_of labels i) (get_or cols i 0)) (get_or cols i 0)
        go true f q = rw q (flip_choice t.mode t.form m g choices (label_of labels i) (get_or cols i 0) e)
        go false f q = refl

    pub by_perms :
        (x : ℕ) → x ≡ g → is_perm t.mode ≡ true → (i : ℕ) → i < n
        → permuted_at t.form m x reached labels choices cols i ≡ column_chosen_at t pins acts labels choices cols i
    by_perms x q e i l =
        rw (flag_at n (reached_at t.form t.mode t.seed pins acts labels) reached marks i l, q)
        (ap (λ (y : ℕ). cond (reached_at t.form t.mode t.seed pins acts labels i) y (get_or cols i 0))
        (perm_choice t.mode t.form m g choices (label_of labels i) (get_or cols i 0) e))

-- ---- with the grey half
module _ (t : Task) (pins acts labels choices : List ℕ) {cols mid : List ℕ} (b : Becomes (column_chosen_at t pins acts labels choices cols) cols mid) where
  pub mid_two : is_cmr t.mode ≡ true → t.group.len ≡ 2 → (i : ℕ) → i < length cols → get_or cols i 0 < 2 ^ t.group.len → get_or mid i 0 < 4
  mid_two e two i l h = subst (λ (z : ℕ). get_or mid i 0 < 2 ^ z) two (rw (b.at i l) (go (reached_at t.form t.mode t.seed pins acts labels i)))
    where
      go :
          (r : Bool)
          → cond r
          (choice_column t.mode t.form t.group.len (gauge_of t.mode t.group.len (get_or cols t.reference 0)) choices (label_of labels i)
          (get_or cols i 0))
          (get_or cols i 0) < 2 ^ t.group.len
      go true = cmr_narrow t.mode t.form t.group.len _ choices (label_of labels i) (get_or cols i 0) e h
      go false = h

  pub plain_final :
      (grey_labels greys : List ℕ) → is_cmr t.mode ≡ false → Becomes (final_at t pins acts labels grey_labels choices greys cols) cols mid
  plain_final grey_labels greys e = record { long = b.long; at = λ i l. rw e (b.at i l) }

  pub grey_final :
      (grey_labels greys : List ℕ) {reached new : List ℕ} → is_cmr t.mode ≡ true
      → Flags (length cols) (reached_at t.form t.mode t.seed pins acts grey_labels) reached
      → Becomes (greyed_at t.form reached grey_labels greys mid) mid new
      → Becomes (final_at t pins acts labels grey_labels choices greys cols) cols new
  grey_final grey_labels greys {reached} {new} e marks w = record { long = w.long ∙ b.long; at = at }
    where
      at : (i : ℕ) → i < length cols → get_or new i 0 ≡ final_at t pins acts labels grey_labels choices greys cols i
      at i l =
          w.at i (rw b.long l)
          ∙ (ap (λ (r : Bool). cond r (greyed (grey_at t.form greys (label_of grey_labels i)) (get_or mid i 0)) (get_or mid i 0)) (flag_at _ _ reached marks i l)
          ∙ rw (e, b.at i l) refl)
