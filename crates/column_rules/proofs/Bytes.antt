-- Tables that are filled place by place.
use mathlib.Core.Path.{◌≡◌, sym, subst, ◌∙◌}
use mathlib.Core.List.{List}
use Prim.Native.Nat.{ℕ, ◌≤◌, ◌<◌, ◌*◌, ◌+◌, ◌^◌, ◌%◌}
use native.Mathlib.Omega.{arith}
use lib.Dec.{lit<}
use lib.ListN.{length, get_or, set, length-set, replicate, length-replicate, get_or-replicate}
use lib.Pow.{pow_mono, shl_exact}
use lib.Seq.{get_or-set_same, get_or-set_other}
use borrow.Author.Count.{below_more}
use Rattle.column_rules.specs.Tables.{Table, TableBy}

-- the machine's bit k
pub one_shl : (w k : ℕ) → k < w → (1 * 2 ^ k) % 2 ^ w ≡ 1 * 2 ^ k
one_shl w k h = shl_exact 1 k w (lit< tt) (omega arith)

-- ---- a table that is being filled: the entries below x are written, of `end` columns in all
pub record Filling (m end x : ℕ) (P : ℕ → ℕ → Type 0) (table : List ℕ) : Type 0 where
  pub below : x ≤ end
  pub ends : end ≡ 2 ^ m
  pub few : end ≤ 256
  pub long : length table ≡ 256
  pub done : (y : ℕ) → y < x → P y (get_or table y 0)
  pub rest : (y : ℕ) → x ≤ y → y < 256 → get_or table y 0 ≡ 0

pub filling_none : (m : ℕ) (P : ℕ → ℕ → Type 0) → m ≤ 8 → Filling m ((1 * 2 ^ m) % 2 ^ 64) 0 P (replicate 256 0)
filling_none m P h =
    let e : (1 * 2 ^ m) % 2 ^ 64 ≡ 1 * 2 ^ m = one_shl 64 m (omega arith) in
    let l : 2 ^ m ≤ 256 = pow_mono {j = 8} h in
    record {
      below = omega arith;
      ends = omega arith;
      few = omega arith;
      long = length-replicate {A = ℕ} 256 0;
      done = λ y b. absurd (omega arith);
      rest = λ y b s. get_or-replicate {A = ℕ} 256 y 0 0 s;
    }

module _ {m end x : ℕ} {P : ℕ → ℕ → Type 0} {table : List ℕ} (w : Filling m end x P table) where
  pub filling_more : (v : ℕ) → x < end → P x v → Filling m end (x + 1) P (set table x v)
  filling_more v h p =
      record {
        below = omega arith;
        ends = w.ends;
        few = w.few;
        long = length-set table x v ∙ w.long;
        done =
            below_more (λ k. P k (get_or (set table x v) k 0)) x
            (λ k l. subst (P k) (sym (get_or-set_other table x k v 0 (λ q. omega arith))) (w.done k l))
            (subst (P x) (sym (get_or-set_same table x v 0 (omega (arith, w.long, w.few)))) p);
        rest = λ y b s. get_or-set_other table x y v 0 (λ q. omega arith) ∙ w.rest y (omega arith) s;
      }

  pub filling_done : end ≤ x → TableBy m P table
  filling_done h =
      record {
        long = w.long;
        at = λ y b. w.done y (omega (arith, w.ends));
        beyond = λ y b s. w.rest y (omega (arith, w.below, w.ends)) s;
      }

-- a relation that is a function
pub table_from : {m : ℕ} {P : ℕ → ℕ → Type 0} {f : ℕ → ℕ} {table : List ℕ} → m ≤ 8 → ((x r : ℕ) → x < 256 → P x r → r ≡ f x) → TableBy m P table → Table m f table
table_from {m} few h t =
    let l : 2 ^ m ≤ 256 = pow_mono {j = 8} few in
    record { long = t.long; at = λ x b. h x _ (omega (arith, b, l)) (t.at x b); beyond = t.beyond }
