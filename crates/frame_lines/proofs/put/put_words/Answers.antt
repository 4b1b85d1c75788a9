-- `frame_lines::put::put_words` meets its contract: two bytes a turn.
use Prim.Native.Nat.{ℕ, ◌+◌, ◌*◌, ◌≤◌}
use mathlib.Core.Path.{◌≡◌, sym, ◌∙◌, ap}
use mathlib.Core.List.{List, [], ◌∷◌}
use native.Mathlib.Omega.{arith}
use lib.ListN.{length}
use lib.Seq.{length-sets}
use Rattle.paper.specs.Answer.Frame.{hex, two_bytes}
use Rattle.frame_lines.specs.Words.{two_bytes_length, two_bytes_high, two_bytes_low}
use Rattle.frame_lines.specs.Writing.{line_length, hexing_none, hexing_two, hexed, put_line}
use Rattle.frame_lines.proofs.put.put_words.Goals as goal

pub put_byte-requires : goal.put_byte-requires
put_byte-requires c =
    let enough : c.args.at + 4 * length c.args.xs.now + 3 ≤ length c.args.out.now = omega (arith, c.requires.fits, line_length c.args.tag (two_bytes c.args.xs.now), two_bytes_length c.args.xs.now) in
    omega (arith, enough)

pub loop-k-init : goal.loop-k-init
loop-k-init c = hexing_none _ _ _

pub put_word-requires : goal.put_word-requires
put_word-requires c =
    let X : List ℕ = c.args.xs.now in
    let enough : c.args.at + 4 * length c.args.xs.now + 3 ≤ length c.args.out.now = omega (arith, c.requires.fits, line_length c.args.tag (two_bytes c.args.xs.now), two_bytes_length c.args.xs.now) in
    let long : length c.loop-k.out ≡ length c.args.out.now = c.loop-k.invariant.long ∙ (ap (length {A = ℕ}) c.put_byte.ensures ∙ length-sets c.args.out.now c.args.at
    (hex (c.args.tag ∷ []))) in
    let room : c.args.at + 4 * length X + 3 ≤ length c.loop-k.out = omega (arith, enough, long) in
    let l = c.loop-k-test.true in
    record { small = c.requires.small c.loop-k.k l; fits = omega (arith, room, l) }

pub loop-k-preserved : goal.loop-k-preserved
loop-k-preserved c =
    let X : List ℕ = c.args.xs.now in
    let l = c.loop-k-test.true in
    let e : 2 * (c.loop-k.k + 1) ≡ 2 * c.loop-k.k + 2 = omega arith in
    rw e
    (hexing_two (two_bytes X) _ _ _ _ _ _ _ _ c.loop-k.invariant (omega (arith, two_bytes_length X)) (omega arith) (sym (two_bytes_high X _ l))
    (sym (two_bytes_low X _ l)) c.put_word.ensures)

pub bounds-out-end : goal.bounds-out-end
bounds-out-end c =
    let X : List ℕ = c.args.xs.now in
    let enough : c.args.at + 4 * length c.args.xs.now + 3 ≤ length c.args.out.now = omega (arith, c.requires.fits, line_length c.args.tag (two_bytes c.args.xs.now), two_bytes_length c.args.xs.now) in
    let long : length c.loop-k.out ≡ length c.args.out.now = c.loop-k.invariant.long ∙ (ap (length {A = ℕ}) c.put_byte.ensures ∙ length-sets c.args.out.now c.args.at
    (hex (c.args.tag ∷ []))) in
    let room : c.args.at + 4 * length X + 3 ≤ length c.loop-k.out = omega (arith, enough, long) in
    omega (arith, room)

pub returns : goal.returns
returns c =
    let X : List ℕ = c.args.xs.now in
    let passed : c.loop-k.k ≤ length X = omega (arith, c.loop-k.invariant.within, two_bytes_length X) in
    let k : c.loop-k.k ≡ length X = omega (arith, passed) in
    put_line c.args.tag (two_bytes X) _ _ _ _ _ c.put_byte.ensures
    (hexed (two_bytes X) _ _ _ _ _ c.loop-k.invariant (omega (arith, two_bytes_length X)) (omega arith))
