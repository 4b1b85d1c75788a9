-- What the code makes of a member's column is the choice of the one cluster.
use Prim.Native.Nat.{ℕ, ◌^◌, ◌<◌}
use mathlib.Core.Path.{◌≡◌, sym, ◌∙◌, ap}
use mathlib.Core.Bool.{Bool, true, false, cond}
use mathlib.Core.List.{List}
use lib.ListN.{get_or}
use lib.Bits.{bit_xor}
use Rattle.paper.specs.declared.Task.{Task}
use Rattle.paper.specs.Panel.Takes.{is_perm, is_cmr}
use Rattle.columns.specs.Column.{shown, column_of, column_ext}
use Rattle.column_rules.specs.Tables.{flip_entry}
use Rattle.column_rules.specs.Acted.{choice_column, flip_choice, perm_choice, cmr_narrow}
use Rattle.turn.specs.Turned.{OneCluster, acted_column}
use Rattle.turn.specs.Laws.{first_place}

module _ (t : Task) (gauge : ℕ) (choices : List ℕ) (one : OneCluster t.form choices) (column : ℕ) where
  abbrev m : ℕ
  m = t.group.len

  pub permuted :
      {x : ℕ} → is_perm t.mode ≡ true → x ≡ column_of m (λ k. shown (bit_xor column gauge) (get_or choices k 0))
      → bit_xor x gauge ≡ choice_column t.mode t.form m gauge choices 0 column
  permuted q e =
      ap (λ (z : ℕ). bit_xor z gauge) (e ∙ column_ext m _ _ (λ k h. ap (shown (bit_xor column gauge)) (sym (first_place t choices one k))))
      ∙ perm_choice t.mode t.form m gauge choices 0 column q

  pub flipped : {x : ℕ} → is_perm t.mode ≡ false → x ≡ flip_entry t.mode m column → x ≡ choice_column t.mode t.form m gauge choices 0 column
  flipped q e =
      e ∙ (sym (ap (λ (b : Bool). cond b (flip_entry t.mode m column) column) (one.flips 0)) ∙ flip_choice t.mode t.form m gauge choices 0 column q)

  pub acted_narrow : is_cmr t.mode ≡ true → column < 2 ^ m → (b : Bool) → acted_column t gauge choices b column < 2 ^ m
  acted_narrow q h true = cmr_narrow t.mode t.form m gauge choices 0 column q h
  acted_narrow q h false = h
