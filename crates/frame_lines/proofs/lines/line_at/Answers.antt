-- `frame_lines::lines::line_at` meets its contract: a line that is spelt ends where the digits do.
use mathlib.Core.Path.{sym, ◌∙◌}
use native.Mathlib.Omega.{arith}
use lib.ListN.{drop}
use Rattle.paper.specs.Answer.Frame.{Spelt}
use Rattle.frame_lines.specs.Lines.{LineEnd, ended}
use Rattle.frame_lines.specs.Scan.{passed_line}
use borrow.Author.Rules.{rules}
use Rattle.frame_lines.proofs.lines.line_at.Goals as goal

pub returns-then-e-text : goal.returns-then-e-text
returns-then-e-text c =
    let spelt : Spelt c.args.tag (drop c.args.at c.args.text.now) → LineEnd c.args.tag c.args.text.now c.args.at c.digits_end-e.result = λ s. ended _ _ _ _ (search rules) c.digits_end-e.ensures s in
    λ s. let h = spelt s in omega arith

pub returns-then-text-e-ne10 : goal.returns-then-text-e-ne10
returns-then-text-e-ne10 c =
    let spelt : Spelt c.args.tag (drop c.args.at c.args.text.now) → LineEnd c.args.tag c.args.text.now c.args.at c.digits_end-e.result = λ s. ended _ _ _ _ (search rules) c.digits_end-e.ensures s in
    λ s. c.if-text-e-ne10.true (spelt s).feed

pub returns-then-w-lt1 : goal.returns-then-w-lt1
returns-then-w-lt1 c =
    let spelt : Spelt c.args.tag (drop c.args.at c.args.text.now) → LineEnd c.args.tag c.args.text.now c.args.at c.digits_end-e.result = λ s. ended _ _ _ _ (search rules) c.digits_end-e.ensures s in
    λ s. let h = spelt s in omega arith

pub returns-then-at-w : goal.returns-then-at-w
returns-then-at-w c =
    let spelt : Spelt c.args.tag (drop c.args.at c.args.text.now) → LineEnd c.args.tag c.args.text.now c.args.at c.digits_end-e.result = λ s. ended _ _ _ _ (search rules) c.digits_end-e.ensures s in
    λ s. let h = spelt s in c.if-at-w.true (omega arith)

pub returns-then-byte_at-tag : goal.returns-then-byte_at-tag
returns-then-byte_at-tag c =
    let spelt : Spelt c.args.tag (drop c.args.at c.args.text.now) → LineEnd c.args.tag c.args.text.now c.args.at c.digits_end-e.result = λ s. ended _ _ _ _ (search rules) c.digits_end-e.ensures s in
    λ s. c.if-byte_at-tag.true (c.byte_at.ensures ∙ (spelt s).tagged)

pub returns : goal.returns
returns c = passed_line _ _ _ _ _ (search rules) c.digits_end-e.ensures (omega arith)
    c.if-text-e-ne10.false (omega arith) (sym c.byte_at.ensures ∙ c.if-byte_at-tag.false)
