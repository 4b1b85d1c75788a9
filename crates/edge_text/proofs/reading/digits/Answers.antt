-- `edge_text::reading::digits` meets its contract: what was passed are digits, and their value is kept.
use Prim.Native.Nat.{ℕ}
use mathlib.Core.Path.{◌≡◌, sym, ◌∙◌, subst}
use native.Mathlib.Omega.{arith}
use lib.ListN.{length}
use Rattle.edge_text.specs.Reading.{RunAs}
use Rattle.edge_text.proofs.Scan.{gathering_more, gathering_stop, gathering_end}
use Rattle.edge_text.proofs.reading.digits.Goals as goal

pub returns-then-not-is_digit : goal.returns-then-not-is_digit
returns-then-not-is_digit c = gathering_stop _ _ _ _ c.loop-end.invariant c.loop-end-test.true (sym c.is_digit.ensures ∙ c.if-not-is_digit.true)

pub loop-end-preserved : goal.loop-end-preserved
loop-end-preserved c = gathering_more _ _ _ _ c.loop-end.invariant c.loop-end-test.true _ (sym c.is_digit.ensures ∙ c.if-not-is_digit.false) c.more-value.ensures

pub returns : goal.returns
returns c =
    let last : c.loop-end.end ≡ length c.args.text.now = omega arith in
    subst (λ (e : ℕ). RunAs c.args.text.now c.args.at c.loop-end.value e) last
    (gathering_end _ _ _ _ c.loop-end.invariant c.loop-end-test.false)
