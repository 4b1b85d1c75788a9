-- `bonds::pair_sum` meets its contract: the total is the sum over the pairs passed, and the two columns are past them.
use Rattle.std.proofs.Common.{◌≡◌, ◌≤◌, ℕ, ◌+◌, ◌/◌, w32, ℤ, ◌+ℤ◌, to_z, of_z, refl, ap, ◌∙◌, arith, le_trans}
use Rattle.std.proofs.lemmas.Int.{to_z-of_z}
use mir.Val.{SFits}
use Rattle.lemmas.specs.Sums.{sum}
use Rattle.lemmas.specs.Held.{Value, asks, bounded, reads, small_fits}
use Rattle.paper.specs.Site.Bonds.{pair_term}
use Rattle.columns.specs.Column.{shown}
use Rattle.bonds.proofs.Pairs.{past_none, past_more, term_past, sum_more, pairs_small}
use Rattle.bonds.proofs.pair_sum.Goals as goal

-- the sum of so few terms fits
sum_fits : (a b k : ℕ) → k ≤ 4 → SFits w32 (sum k (pair_term (shown a) (shown b)))
sum_fits a b k h = small_fits w32 (sum k (pair_term (shown a) (shown b))) 4 (le_trans (pairs_small a b k) h) tt

-- the next sum
next : (c : goal.After-pair_term-total) → (let k = c.loop-k.k in
    Value w32 (to_z w32 c.loop-k.total-bits +ℤ to_z w32 (of_z w32 c.pair_term-total.result)) (sum (k + 1) (pair_term (shown c.args.a) (shown c.args.b))))
next c =
    let k = c.loop-k.k in
    let inv = c.loop-k.invariant in
    let f : ℕ → ℤ = pair_term (shown c.args.a) (shown c.args.b) in
    let is : c.pair_term-total.result ≡ f k =
    c.pair_term-total.ensures ∙ ((λ i. pair_term (shown (inv.1 i)) (shown (inv.2 i)) 0) ∙ term_past c.args.a c.args.b k)
    in
    record {
      is = (λ i. inv.0 i +ℤ (reads (bounded w32 c.pair_term-total.result c.pair_term-total.type_inv) ∙ is) i) ∙ sum_more f k;
      fits = sum_fits c.args.a c.args.b (k + 1) (omega (arith, c.requires, c.loop-k-test.true));
    }

pub loop-k-init : goal.loop-k-init
unfolding sum
loop-k-init c = (refl, past_none c.args.a, past_none c.args.b)

pub overflow_add-total : goal.overflow_add-total
overflow_add-total c = asks (next c)

pub loop-k-preserved : goal.loop-k-preserved
loop-k-preserved c =
    let k = c.loop-k.k in
    let inv = c.loop-k.invariant in (
      to_z-of_z w32 _ (asks (next c)) ∙ (next c).is,
      ap (λ (x : ℕ). x / 4) inv.1 ∙ past_more c.args.a k,
      ap (λ (x : ℕ). x / 4) inv.2 ∙ past_more c.args.b k,
    )
