-- `write_listed` meets its contract. The invariant: the first sites of the list are written.
use Prim.Native.Nat.{ℕ, ◌<◌}
use mathlib.Core.Path.{◌≡◌, ◌∙◌, subst}
use native.Mathlib.Omega.{arith}
use lib.ListN.{get_or, length-take}
use lib.Seq.{get_or-take}
use Rattle.columns.specs.Rows.{SiteWritten}
use Rattle.turn.proofs.Step.{one_written}
use Rattle.turn.proofs.write_listed.Goals as goal

pub loop-site-preserved : goal.loop-site-preserved
loop-site-preserved c = let a = c.args in
    let l = c.loop-site in
    let below : l.site-index < a.len = omega (arith, simp length-take at c.loop-site-test.true) in
    let is : c.wide-i.result ≡ get_or a.list.now l.site-index 0 = c.wide-i.ensures ∙ get_or-take a.len a.list.now l.site-index 0 below in
    let there : ℕ → Type 0 =
    λ j. SiteWritten a.n a.group.len a.group j (get_or a.news.now j 0) l.spins c.write_site.new.spins
    in
    one_written a.n a.group a.list.now a.news.now a.spins.now (λ y h. c.requires.sites y (omega (arith, below)))
    l.invariant (subst there is c.write_site.ensures)

pub returns : goal.returns
returns c = let l = c.loop-site in
    let e : l.site-index ≡ c.args.len =
    omega (arith, simp length-take at c.loop-site-test.false, simp length-take at l.auto.site-index-end, c.requires.long) in
    rw e at l.invariant
