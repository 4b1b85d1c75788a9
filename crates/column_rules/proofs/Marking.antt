-- The look-up of every site's column, one site at a time.
use mathlib.Core.Path.{◌≡◌, sym, ◌∙◌, ap, subst}
use mathlib.Core.Bool.{Bool, true, false}
use mathlib.Core.List.{List}
use Prim.Native.Nat.{ℕ, ◌≤◌, ◌<◌, ◌+◌}
use native.Mathlib.Omega.{arith}
use native.Mathlib.Decide.{ℕ_discrete}
use lib.ListN.{length, get_or, set}
use lib.Bits.{bit_xor}
use lib.Seq.{get_or-set_same, get_or-set_other}
use Rattle.lemmas.specs.Tells.{Tells}
use Rattle.lemmas.specs.Stores.{Filled, filled_none, filled_more}
use Rattle.column_rules.specs.Tables.{SomeMarked, Looked}

-- the first i sites are looked up
pub record Looking (table : List ℕ) (gauge : ℕ) (cols old acts : List ℕ) (found : Bool) (i : ℕ) : Type 0 where
  pub below : i ≤ length cols
  pub long : length old ≡ length cols
  pub written : Filled 0 (λ j. get_or table (bit_xor (get_or cols j 0) gauge) 0) i old acts
  pub tells : Tells found (SomeMarked i acts)

pub looking_none : (table : List ℕ) (gauge : ℕ) (cols old : List ℕ) → length cols ≡ length old → Looking table gauge cols old old false 0
looking_none table gauge cols old e = record { below = omega arith; long = sym e; written = filled_none 0 _ old; tells = λ m. omega (arith, m.below) }

-- ---- a byte is set at the site i
module _ (acts : List ℕ) (i v : ℕ) (fits : i < length acts) where
  some_hit : v ≡ 1 → SomeMarked (i + 1) (set acts i v)
  some_hit e = record { site = i; below = omega arith; is = get_or-set_same acts i v 0 fits ∙ e }

  some_on : SomeMarked i acts → SomeMarked (i + 1) (set acts i v)
  some_on m =
      record {
        site = m.site;
        below = omega (arith, m.below);
        is = get_or-set_other acts i m.site v 0 (λ e. omega (arith, m.below)) ∙ m.is;
      }

  some_back : (v ≡ 1 → ⊥) → SomeMarked (i + 1) (set acts i v) → SomeMarked i acts
  some_back ne m = go (ℕ_discrete m.site i)
    where
      go : Dec (m.site ≡ i) → SomeMarked i acts
      go (yes e) = absurd (ne (sym (get_or-set_same acts i v 0 fits) ∙ (ap (λ (x : ℕ). get_or (set acts i v) x 0) (sym e) ∙ m.is)))
      go (no e) = record { site = m.site; below = omega (arith, m.below); is = sym (get_or-set_other acts i m.site v 0 e) ∙ m.is }

  some_miss : (found : Bool) → (v ≡ 1 → ⊥) → Tells found (SomeMarked i acts) → Tells found (SomeMarked (i + 1) (set acts i v))
  some_miss true ne t = some_on t
  some_miss false ne t = λ m. t (some_back ne m)

module _ {table : List ℕ} {gauge : ℕ} {cols old acts : List ℕ} {found : Bool} {i : ℕ} (w : Looking table gauge cols old acts found i) where
  module _ (v : ℕ) (more : i < length cols) (is : v ≡ get_or table (bit_xor (get_or cols i 0) gauge) 0) where
    fits : i < length acts
    fits = omega (arith, more, w.long, w.written.long)

    -- the byte v is set at the site i, and b tells of one site more
    step : (b b' : Bool) → b ≡ b' → Tells b' (SomeMarked (i + 1) (set acts i v)) → Looking table gauge cols old (set acts i v) b (i + 1)
    step b b' e t =
        record {
          below = omega (arith, more);
          long = w.long;
          written = filled_more w.written (omega (arith, more, w.long)) is;
          tells = subst (λ (x : Bool). Tells x (SomeMarked (i + 1) (set acts i v))) (sym e) t;
        }

    pub looking_hit : (b : Bool) → b ≡ true → v ≡ 1 → Looking table gauge cols old (set acts i v) b (i + 1)
    looking_hit b e h = step b true e (some_hit acts i v fits h)

    pub looking_miss : (b : Bool) → b ≡ found → (v ≡ 1 → ⊥) → Looking table gauge cols old (set acts i v) b (i + 1)
    looking_miss b e h = step b found e (some_miss acts i v fits found h w.tells)

  pub looking_done : length cols ≤ i → Looked table gauge cols acts found
  looking_done h =
      let e : i ≡ length cols = omega (arith, w.below) in
      record {
        long = w.written.long ∙ w.long;
        at = λ j l. w.written.done j (omega arith);
        tells = subst (λ (n : ℕ). Tells found (SomeMarked n acts)) e w.tells;
      }
