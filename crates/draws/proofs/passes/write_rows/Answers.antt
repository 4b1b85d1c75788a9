-- `write_rows` meets its contract. The invariant: the first i rows are drawn and written.
use Rattle.std.proofs.Common.{ℕ, ◌+◌, ◌*◌, ◌≤◌, length, get_or, sym, ap, ◌∙◌, subst, zero-mul, arith}
use Rattle.draws.specs.declared.Source.{Source}
use Rattle.draws.specs.declared.Row.{Row}
use Rattle.draws.specs.Rows.{row_by}
use Rattle.draws.specs.Fill.{entry_at}
use Rattle.draws.proofs.Filling.{stop_none, stop_more, Filled, fill_none}
use Rattle.draws.specs.Permuted.{row_inside, entry_of}
use Rattle.draws.proofs.Placing.{rows_more}
use Rattle.draws.proofs.passes.write_rows.Goals as goal

pub loop-i-init : goal.loop-i-init
loop-i-init c = let a = c.args in (
  stop_none,
  subst (λ (x : ℕ). Filled (entry_at a.moving a.members a.s) x (length a.rows.now) a.rows.now) (sym (zero-mul a.members))
      (fill_none _),
)

pub loop-i-preserved : goal.loop-i-preserved
loop-i-preserved c =
    let inside : let a = c.args in c.loop-i.i * a.members + a.members ≤ length a.rows.now = let a = c.args in
    omega (arith, row_inside c.loop-i.i a.count a.members c.loop-i-test.true, c.requires.long) in
    let h = c.loop-i in
    let a = c.args in (
      stop_more c.drawn_row-r.result.source h.invariant.0 (ap (λ (d : Row). d.source) c.drawn_row-r.ensures),
      rows_more h.i h.invariant.1 c.put_row.ensures inside
          (λ k q. ap (λ (d : Row). get_or d.row k 0) c.drawn_row-r.ensures
          ∙ (ap (λ (t : Source). get_or (row_by a.moving a.members t).row k 0) h.invariant.0.is ∙ entry_of a.moving a.members a.s h.i k q)),
    )
