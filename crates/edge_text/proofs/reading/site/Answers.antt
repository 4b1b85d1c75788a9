-- `edge_text::reading::site` meets its contract.
use native.Mathlib.Omega.{arith}
use Rattle.edge_text.proofs.Lines.{site_zero}
use Rattle.edge_text.proofs.reading.site.Goals as goal

pub returns-then-value-eq0 : goal.returns-then-value-eq0
returns-then-value-eq0 c = site_zero c.in_ok-value.ensures (omega (arith, c.if-value-eq0.true))
