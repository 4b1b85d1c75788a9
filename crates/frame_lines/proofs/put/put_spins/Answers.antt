-- `frame_lines::put::put_spins` meets its contract: a byte a turn.
use Prim.Native.Nat.{ℕ, ◌+◌, ◌*◌, ◌≤◌}
use mathlib.Core.Path.{◌≡◌, sym, ◌∙◌, ap}
use mathlib.Core.List.{List, [], ◌∷◌, map}
use native.Mathlib.Omega.{arith}
use borrow.Author.Rules.{rules}
use lib.ListN.{length, get_or, length-map, get_or-map}
use lib.Seq.{length-sets}
use lib.IntN.{ℤ, pos}
use mir.Syntax.{w8}
use mir.Facts.{to_z-of_z}
use Rattle.paper.specs.Answer.Frame.{hex, spin_byte}
use Rattle.frame_lines.specs.Writing.{line_length, hexing_none, hexing_more, hexed, put_line}
use Rattle.frame_lines.proofs.put.put_spins.Goals as goal

pub put_byte-requires : goal.put_byte-requires
put_byte-requires c =
    let enough : c.args.at + 2 * length c.args.xs.now + 3 ≤ length c.args.out.now = omega (arith, c.requires.fits, line_length c.args.tag (map spin_byte c.args.xs.now), length-map c.args.xs.now spin_byte) in
    omega (arith, enough)

pub loop-k-init : goal.loop-k-init
loop-k-init c = hexing_none _ _ _

pub overflow_add-at : goal.overflow_add-at
overflow_add-at c =
    let X : List ℤ = c.args.xs.now in
    let enough : c.args.at + 2 * length c.args.xs.now + 3 ≤ length c.args.out.now = omega (arith, c.requires.fits, line_length c.args.tag (map spin_byte c.args.xs.now), length-map c.args.xs.now spin_byte) in
    let long : length c.loop-k.out ≡ length c.args.out.now = c.loop-k.invariant.long ∙ (ap (length {A = ℕ}) c.put_byte.ensures ∙ length-sets c.args.out.now c.args.at
    (hex (c.args.tag ∷ []))) in
    let room : c.args.at + 2 * length X + 3 ≤ length c.loop-k.out = omega (arith, enough, long) in
    let passed : c.loop-k.k ≤ length X = omega (arith, c.loop-k.invariant.within, length-map X spin_byte) in
    omega (arith, room, passed)

pub overflow_add-at-in-loop-k : goal.overflow_add-at-in-loop-k
overflow_add-at-in-loop-k c =
    let X : List ℤ = c.args.xs.now in
    let enough : c.args.at + 2 * length c.args.xs.now + 3 ≤ length c.args.out.now = omega (arith, c.requires.fits, line_length c.args.tag (map spin_byte c.args.xs.now), length-map c.args.xs.now spin_byte) in
    let long : length c.loop-k.out ≡ length c.args.out.now = c.loop-k.invariant.long ∙ (ap (length {A = ℕ}) c.put_byte.ensures ∙ length-sets c.args.out.now c.args.at
    (hex (c.args.tag ∷ []))) in
    let room : c.args.at + 2 * length X + 3 ≤ length c.loop-k.out = omega (arith, enough, long) in
    let passed : c.loop-k.k ≤ length X = omega (arith, c.loop-k.invariant.within, length-map X spin_byte) in
    omega (arith, room, passed)

pub put_byte-requires-in-loop-k : goal.put_byte-requires-in-loop-k
put_byte-requires-in-loop-k c =
    let X : List ℤ = c.args.xs.now in
    let enough : c.args.at + 2 * length c.args.xs.now + 3 ≤ length c.args.out.now = omega (arith, c.requires.fits, line_length c.args.tag (map spin_byte c.args.xs.now), length-map c.args.xs.now spin_byte) in
    let long : length c.loop-k.out ≡ length c.args.out.now = c.loop-k.invariant.long ∙ (ap (length {A = ℕ}) c.put_byte.ensures ∙ length-sets c.args.out.now c.args.at
    (hex (c.args.tag ∷ []))) in
    let room : c.args.at + 2 * length X + 3 ≤ length c.loop-k.out = omega (arith, enough, long) in
    omega (arith, room, c.loop-k-test.true)

pub loop-k-preserved : goal.loop-k-preserved
loop-k-preserved c =
    let X : List ℤ = c.args.xs.now in
    let byte : c.spin_byte.result ≡ get_or (map spin_byte X) c.loop-k.k 0 = c.spin_byte.ensures ∙ (ap spin_byte (to_z-of_z {w =
    w8} {z = get_or X c.loop-k.k (pos 0)} (search rules)) ∙ sym
    (get_or-map spin_byte X c.loop-k.k (pos 0))) in
    hexing_more (map spin_byte X) _ _ _ _ _ _ _ c.loop-k.invariant (omega (arith, length-map X spin_byte)) (omega arith) byte
    c.put_byte-in-loop-k.ensures

pub overflow_add-end : goal.overflow_add-end
overflow_add-end c =
    let X : List ℤ = c.args.xs.now in
    let enough : c.args.at + 2 * length c.args.xs.now + 3 ≤ length c.args.out.now = omega (arith, c.requires.fits, line_length c.args.tag (map spin_byte c.args.xs.now), length-map c.args.xs.now spin_byte) in
    let long : length c.loop-k.out ≡ length c.args.out.now = c.loop-k.invariant.long ∙ (ap (length {A = ℕ}) c.put_byte.ensures ∙ length-sets c.args.out.now c.args.at
    (hex (c.args.tag ∷ []))) in
    let room : c.args.at + 2 * length X + 3 ≤ length c.loop-k.out = omega (arith, enough, long) in
    omega (arith, room)

pub overflow_add-end-2 : goal.overflow_add-end-2
overflow_add-end-2 c =
    let X : List ℤ = c.args.xs.now in
    let enough : c.args.at + 2 * length c.args.xs.now + 3 ≤ length c.args.out.now = omega (arith, c.requires.fits, line_length c.args.tag (map spin_byte c.args.xs.now), length-map c.args.xs.now spin_byte) in
    let long : length c.loop-k.out ≡ length c.args.out.now = c.loop-k.invariant.long ∙ (ap (length {A = ℕ}) c.put_byte.ensures ∙ length-sets c.args.out.now c.args.at
    (hex (c.args.tag ∷ []))) in
    let room : c.args.at + 2 * length X + 3 ≤ length c.loop-k.out = omega (arith, enough, long) in
    omega (arith, room)

pub bounds-out-end : goal.bounds-out-end
bounds-out-end c =
    let X : List ℤ = c.args.xs.now in
    let enough : c.args.at + 2 * length c.args.xs.now + 3 ≤ length c.args.out.now = omega (arith, c.requires.fits, line_length c.args.tag (map spin_byte c.args.xs.now), length-map c.args.xs.now spin_byte) in
    let long : length c.loop-k.out ≡ length c.args.out.now = c.loop-k.invariant.long ∙ (ap (length {A = ℕ}) c.put_byte.ensures ∙ length-sets c.args.out.now c.args.at
    (hex (c.args.tag ∷ []))) in
    let room : c.args.at + 2 * length X + 3 ≤ length c.loop-k.out = omega (arith, enough, long) in
    omega (arith, room)

pub overflow_add-result : goal.overflow_add-result
overflow_add-result c =
    let X : List ℤ = c.args.xs.now in
    let enough : c.args.at + 2 * length c.args.xs.now + 3 ≤ length c.args.out.now = omega (arith, c.requires.fits, line_length c.args.tag (map spin_byte c.args.xs.now), length-map c.args.xs.now spin_byte) in
    let long : length c.loop-k.out ≡ length c.args.out.now = c.loop-k.invariant.long ∙ (ap (length {A = ℕ}) c.put_byte.ensures ∙ length-sets c.args.out.now c.args.at
    (hex (c.args.tag ∷ []))) in
    let room : c.args.at + 2 * length X + 3 ≤ length c.loop-k.out = omega (arith, enough, long) in
    omega (arith, room)

pub returns : goal.returns
returns c =
    let X : List ℤ = c.args.xs.now in
    let passed : c.loop-k.k ≤ length X = omega (arith, c.loop-k.invariant.within, length-map X spin_byte) in
    let k : c.loop-k.k ≡ length X = omega (arith, passed) in
    put_line c.args.tag (map spin_byte X) _ _ _ _ _ c.put_byte.ensures
    (hexed (map spin_byte X) _ _ _ _ _ c.loop-k.invariant (omega (arith, length-map X spin_byte)) (omega arith))
