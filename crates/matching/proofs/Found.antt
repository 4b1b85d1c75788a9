-- From the sets that the components allow to their least permutations.
use Prim.Native.Nat.{ℕ, ◌+◌, ◌-◌, ◌*◌, ◌%◌, ◌^◌, ◌≤◌, ◌<◌}
use mathlib.Core.Path.{◌≡◌, refl, sym, ◌∙◌, ap}
use mathlib.Core.Bool.{Bool, ◌&&◌}
use mathlib.Core.List.{List}
use native.Mathlib.Omega.{arith}
use borrow.Author.Tests.{lt-ltb, ltb-true}
use lib.Dec.{ltb}
use lib.ListN.{length, get_or}
use lib.Pow.{pow_mono, pow_pos}
use Rattle.lemmas.specs.Bools.{and_left}
use Rattle.lemmas.specs.Cells.{cell_lt, column_of_lem}
use Rattle.lemmas.specs.Stores.{Whole}
use Rattle.columns.specs.Column.{bit_of}
use Rattle.orders.specs.Words.{word_at}
use Rattle.matching.specs.Bits.{bit_in, repeated, repeated_bit, top_bit}
use Rattle.matching.specs.Least.{Sound, Words, Settled}
use Rattle.matching.specs.Sources.{Sites, Panel, NarrowedAll}
use Rattle.matching.specs.Explain.{allowed, Settles, Explains}
use Rattle.matching.proofs.Square.{allowed_square}
use Rattle.matching.proofs.Alike.{fitted_alike, least_alike}

-- a panel with other rows
pub panel_same : {size : ℕ} {olds news labels pins xs ys : List ℕ} → length ys ≡ length xs → Panel size olds news labels pins xs
    → Panel size olds news labels pins ys
panel_same e p = record {
  members = p.members;
  sites = p.sites;
  news_long = p.news_long;
  labels_long = p.labels_long;
  pins_long = p.pins_long;
  rows_long = e ∙ p.rows_long;
  below = p.below;
}

-- the sets of it
pub sites_of : {size : ℕ} {olds news labels pins xs sets : List ℕ} → length sets ≡ length olds → Panel size olds news labels pins xs
    → Sites olds news labels pins sets
sites_of e p = record { news_long = p.news_long; labels_long = p.labels_long; pins_long = p.pins_long; sets_long = e; below = p.below }

module _
    {size gauge top x : ℕ} {olds news labels pins rows counted area full left : List ℕ} (p : Panel size olds news labels pins rows) (is : top ≡ 2 ^ size - 1)
    (each : x ≡ repeated top) (long : length area ≡ length olds) (filled : Whole 0 (λ k. x) area full)
    (kept : NarrowedAll gauge olds news labels pins full left)
    (up : Whole 0 (λ a. a % size) rows counted)
  where
    abbrev may : ℕ → ℕ → ℕ → Bool
    may s = allowed gauge olds news labels pins s

    small : top < 256
    small = let h : 2 ^ size ≤ 256 = pow_mono p.members.high in omega (arith, is, pow_pos size)

    bits : (s k j : ℕ) → s < length olds → k < 8 → j < 8 → bit_in (get_or left s 0) k j ≡ (ltb j size && may s k j)
    bits s k j hs hk hj =
        kept.at s k j hs hk hj
        ∙ ap (λ (b : Bool). b && may s k j)
        (ap (λ (y : ℕ). bit_in y k j) (filled.done s (omega (arith, hs, long)) ∙ each)
        ∙ (repeated_bit top k j small hk hj
        ∙ (ap (λ (y : ℕ). bit_of y j) is ∙ top_bit size j (omega (arith, p.members.high)) (omega arith))))

    same : (s : ℕ) → s < length olds → (k j : ℕ) → k < size → j < size → may s k j ≡ bit_in (get_or left s 0) k j
    same s hs k j hk hj =
        sym (bits s k j hs (omega (arith, hk, p.members.high)) (omega (arith, hj, p.members.high))
        ∙ ap (λ (b : Bool). b && may s k j) (lt-ltb j size hj))

    sets_long : length left ≡ length olds
    sets_long = kept.long ∙ (filled.long ∙ long)

    sound : (s : ℕ) → s < length olds → Sound size (bit_in (get_or left s 0))
    sound s hs = record {
      within = λ k j hk hj e. ltb-true j size (and_left (ltb j size) (may s k j) (sym (bits s k j hs (omega (arith, hk, p.members.high)) hj) ∙ e));
      square = λ k l i j hk hl hi hj a b c.
          sym (same s hs l j hl hj)
          ∙ allowed_square size gauge olds news labels pins s k l i j hk hl hi hj (same s hs k i hk hi ∙ a) (same s hs k j hk hj ∙ b) (same s hs l i hl hi ∙ c);
    }

    pub words_ask : Words size left counted
    words_ask = record {
      members = p.members;
      long = rw sets_long (up.long ∙ p.rows_long);
      sound = λ s hs. sound s (rw sets_long at hs);
      identity = λ r k hr hk.
          let h : r < length olds = rw sets_long at hr in
          up.done (r * size + k) (rw p.rows_long (cell_lt (length olds) size r k h hk)) ∙ column_of_lem size r k hk;
    }

    pub settles : {r : ℕ} {found : List ℕ} → Settled size left counted r found → Settles size gauge olds news labels pins rows r found
    settles w = record {
      most = rw sets_long at w.most;
      long = w.long ∙ up.long;
      least = λ s h. least_alike (same s (omega (arith, h, w.most, sets_long))) (λ k l. refl) (w.least s h);
      none = λ h f. w.none (rw sets_long h) (fitted_alike (λ k j hk hj. sym (same _ h k j hk hj)) f);
    }

-- ---- what is written of it: all, or nothing
module _ {size gauge r : ℕ} {olds news labels pins area found rows : List ℕ} (w : Settles size gauge olds news labels pins area r found) where
  pub explains_all : {rows' : List ℕ} → length area ≡ length rows → r ≡ length olds → rows' ≡ found
      → Explains size gauge olds news labels pins rows r rows'
  explains_all long e q = record {
    most = w.most;
    fitted = λ s h. record { by = word_at size found s; fits = (w.least s h).fits };
    none = w.none;
    kept = λ h. absurd (omega arith);
    long = ap length q ∙ (w.long ∙ long);
    least = λ _ s h. rw q (w.least s (omega arith));
  }

  pub explains_none : (r ≡ length olds → ⊥) → Explains size gauge olds news labels pins rows r rows
  explains_none n = record {
    most = w.most;
    fitted = λ s h. record { by = word_at size found s; fits = (w.least s h).fits };
    none = w.none;
    kept = λ h. refl;
    long = refl;
    least = λ e. absurd (n e);
  }
