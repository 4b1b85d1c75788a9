-- `edge_text::writing::put_line` meets its contract: a site, a site and a coupling, one behind another.
use Prim.Native.Nat.{ℕ, ◌+◌}
use mathlib.Core.Path.{◌≡◌}
use mathlib.Core.List.{List, ◌++◌}
use native.Mathlib.Numerals.{add-one}
use mir.Syntax.{w32}
use mir.Val.{to_z, of_z}
use mir.Facts.{to_z-of_z}
use Rattle.lemmas.specs.Held.{small_fits}
use Rattle.edge_text.specs.declared.Edge.{Edge}
use Rattle.edge_text.specs.Form.{line_of}
use Rattle.edge_text.specs.Writing.{then, signed_end, put_both}
use Rattle.edge_text.proofs.Puts.{line_parts}
use Rattle.edge_text.proofs.writing.put_line.Goals as goal

abbrev first : Edge → List ℕ
first e = then (e.from + 1) 32

abbrev second : Edge → List ℕ
second e = then (e.to + 1) 32

parts : (e : Edge) → line_of e ≡ first e ++ (second e ++ signed_end e.coupling)
parts e = rw (add-one e.from, add-one e.to) (line_parts e)

pub returns : goal.returns
returns c =
    let read : to_z w32 (of_z w32 c.args.edge.coupling) ≡ c.args.edge.coupling = to_z-of_z (small_fits w32 _ 1000000 c.requires.small.coupling_low tt) in
    let e = c.args.edge in
    let last = rw read at c.put_signed.ensures in
    rw (parts e) (put_both c.put_then-p.ensures (put_both c.put_then-q.ensures last))
