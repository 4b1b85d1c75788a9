-- `edge_text::reading::number` meets its contract: each test that fails shows that no number stands there.
use Prim.Native.Nat.{◌+◌}
use lib.Dec.{eqb, ltb}
use lib.ListN.{get_or}
use borrow.Author.Rules.{rules}
use borrow.Author.Tests.{eq-eqb, eqb-true, ltb-true, ltb-false}
use Rattle.edge_text.proofs.Scan.{no_digits, no_stop, other_stop, zero_led, number_at, both_first, both_second, not_both}
use Rattle.edge_text.proofs.reading.number.Goals as goal

pub returns-then-end-at : goal.returns-then-end-at
returns-then-end-at c = λ w q b. no_digits _ _ _ _ _ c.digits-value.ensures c.requires.no_digit w q b c.if-end-at.true

pub returns-then-end-text : goal.returns-then-end-text
returns-then-end-text c = λ w q b. no_stop _ _ _ _ _ c.digits-value.ensures c.requires.no_digit w q b c.if-end-text.true

pub returns-then-text-end : goal.returns-then-text-end
returns-then-text-end c = λ w q b. other_stop _ _ _ _ _ c.digits-value.ensures c.requires.no_digit w q b (search rules) c.if-text-end.true

pub returns-then-text-at : goal.returns-then-text-at
returns-then-text-at c = let a = c.args in
    let zero = eqb (get_or a.text.now a.at 0) 48 in
    let long = ltb (a.at + 1) c.digits-value.result.end in
    λ w q b. zero_led _ _ _ _ _ c.digits-value.ensures c.requires.no_digit w q b (eqb-true _ _ (both_first zero long c.if-text-at.true))
    (ltb-true _ _ (both_second zero long c.if-text-at.true))

pub returns : goal.returns
returns c = let a = c.args in
    number_at _ _ _ _ _ c.digits-value.ensures c.requires.no_digit c.if-end-at.false (search rules) c.if-text-end.false
    (λ h. ltb-false _ _ (not_both (eqb (get_or a.text.now a.at 0) 48) (ltb (a.at + 1) c.digits-value.result.end) c.if-text-at.false (eq-eqb _ _ h)))
