-- `add_bond` meets its contract. The invariant: the first k sums have their change, and the others are as they were.
use Rattle.std.proofs.Common.{◌≡◌, ◌≤◌, ℕ, ℤ, pos, nat_abs, ◌+ℤ◌, ◌*ℤ◌, w32, w64, to_z, of_z, get_or, sym, ap, ◌∙◌, subst, arith}
use lib.Dec.{lit≤}
use mir.Val.{SFits}
use Rattle.lemmas.specs.Held.{Value, given, bounded, asks, reads, stored, held_wide, held_add_to, small_fits, mul_small}
use Rattle.lemmas.specs.Ints.{abs_add}
use Rattle.lemmas.specs.Stores.{filled_more}
use Rattle.totals.specs.Gain.{bit_gain}
use Rattle.totals.proofs.Digits.{bit_small}
use Rattle.totals.proofs.add_bond.Goals as goal

-- what a turn adds, and the sum after it
module _ (c : goal.After-sums-1) where
  abbrev k : ℕ
  k = c.loop-k.k

  abbrev change : ℤ
  change = bit_gain c.args.j c.args.x c.args.y k

  change_small : nat_abs change ≤ 2000000
  change_small = bit_small c.args.j c.args.x c.args.y k c.requires.coupling

  weight_fits : SFits w64 (pos 2 *ℤ c.args.j)
  weight_fits = small_fits w64 (pos 2 *ℤ c.args.j) 2000000 (mul_small (pos 2) c.args.j 2 1000000 (lit≤ tt) c.requires.coupling) tt

  coupling : Value w64 (to_z w32 (of_z w32 c.args.j)) c.args.j
  coupling = held_wide (given c.ranges.j) tt

  weight : Value w64 (pos 2 *ℤ to_z w64 (of_z w64 (to_z w32 (of_z w32 c.args.j)))) (pos 2 *ℤ c.args.j)
  weight = record { is = ap (λ (z : ℤ). pos 2 *ℤ z) (reads (stored coupling)); fits = weight_fits }

  times : Value w64 (to_z w64 (of_z w64 (pos 2 *ℤ to_z w64 (of_z w64 (to_z w32 (of_z w32 c.args.j))))) *ℤ to_z w64 (of_z w64 c.step.result)) change
  times = record {
    is = λ i. reads (stored weight) i *ℤ (reads (bounded w64 c.step.result c.step.type_inv) ∙ c.step.ensures) i;
    fits = small_fits w64 change 2000000 change_small tt;
  }

  abbrev was : ℤ
  was = get_or c.args.sums.now k (pos 0)

  same : get_or c.loop-k.sums k (pos 0) ≡ was
  same = c.loop-k.invariant.rest k (omega arith)

  was_small : nat_abs was ≤ 90000000000
  was_small = c.requires.room.small k c.loop-k-test.true

  after_small : nat_abs (was +ℤ change) ≤ 90002000000
  after_small = let a = change_small in let b = was_small in omega (arith, abs_add was change)

  next :
      Value w64
      (to_z w64 (of_z w64 (get_or c.loop-k.sums k (pos 0)))
      +ℤ to_z w64 (of_z w64 (to_z w64 (of_z w64 (pos 2 *ℤ to_z w64 (of_z w64 (to_z w32 (of_z w32 c.args.j))))) *ℤ to_z w64 (of_z w64 c.step.result))))
      (was +ℤ change)
  next =
      held_add_to (given (subst (SFits w64) (sym same) (small_fits w64 was 90000000000 was_small tt))) (stored times)
      (ap (λ (z : ℤ). z +ℤ change) same)
      (small_fits w64 (was +ℤ change) 90002000000 after_small tt)

pub overflow_add-sums : goal.overflow_add-sums
overflow_add-sums c = asks (next c)

pub loop-k-preserved : goal.loop-k-preserved
loop-k-preserved c =
    let room = c.requires.room in
    filled_more c.loop-k.invariant (omega (arith, room.long, room.few))
    (reads (stored (next c)) ∙ ap (λ (z : ℤ). was c +ℤ bit_gain z c.args.x c.args.y (k c)) (sym (reads (given c.ranges.j))))
