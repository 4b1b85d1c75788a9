-- `frame_lines::fill::fill_words` meets its contract: what was passed is filled.
use Prim.Native.Nat.{ℕ}
use mathlib.Core.Path.{◌≡◌, ◌∙◌}
use mathlib.Core.List.{List}
use native.Mathlib.Omega.{arith}
use lib.ListN.{length, get_or, drop}
use Rattle.paper.specs.Answer.Frame.{bytes, words}
use Rattle.frame_lines.specs.Entries.{words_long, word_entry, word_four}
use Rattle.frame_lines.specs.Fill.{filling_more, filled}
use Rattle.frame_lines.proofs.fill.fill_words.Goals as goal

pub word_at-requires : goal.word_at-requires
word_at-requires c = word_four 0x12 _ _ _ (omega arith) c.requires.frame _ c.loop-k-test.true

pub loop-k-preserved : goal.loop-k-preserved
loop-k-preserved c =
    let X : List ℕ = words (bytes (drop c.args.at c.args.text.now)) in
    let long : length X ≡ c.args.count = words_long 0x12 c.args.count c.args.text.now c.args.at (omega arith) c.requires.frame in
    let entry : c.word_at.result ≡ get_or X c.loop-k.k 0 = c.word_at.ensures ∙ word_entry 0x12 c.args.count c.args.text.now c.args.at (omega arith) c.requires.frame _
    c.loop-k-test.true in
    filling_more X _ _ long _ _ _ 0 c.loop-k.invariant c.loop-k-test.true c.requires.fits entry

pub returns : goal.returns
returns c =
    let X : List ℕ = words (bytes (drop c.args.at c.args.text.now)) in
    let long : length X ≡ c.args.count = words_long 0x12 c.args.count c.args.text.now c.args.at (omega arith) c.requires.frame in
    filled X _ _ long _ _ c.loop-k.invariant c.loop-k-test.false
