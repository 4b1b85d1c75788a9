-- `bring_all` meets its contract: the changes of all sites are those of the energies.
use native.Mathlib.Omega.{arith}
use Rattle.lemmas.specs.Sums.{sum}
use Rattle.paper.specs.Panel.Input.{Lattice}
use Rattle.totals.specs.Gain.{at_site, site_gain}
use Rattle.totals.specs.Law.{change_in}
use Rattle.totals.specs.Contract.{lattice_for}
use Rattle.totals.proofs.Brings.{ground, payable, brought}
use Rattle.totals.proofs.Site.{sites_small}
use Rattle.totals.proofs.bring_all.Goals as goal

pub add_totals-requires : goal.add_totals-requires
add_totals-requires c =
    let lattice : Lattice = lattice_for c.args.t c.args.fwd.now c.args.bwd.now c.args.couplings.now in
    let w = change_in lattice (at_site c.args.olds.now) (at_site c.args.news.now) in
    payable c.requires.bringable (λ k. sum c.args.t.n (site_gain w k))
    (λ k. sites_small (ground c.requires.bringable {olds = c.args.olds.now} {news = c.args.news.now} c.requires.columned.olds_long c.requires.columned.news_long)
    c.args.t.n k (omega arith))
    c.change_all-sums.ensures

pub returns : goal.returns
returns c =
    let lattice : Lattice = lattice_for c.args.t c.args.fwd.now c.args.bwd.now c.args.couplings.now in
    record {
      long = c.add_totals.ensures.long;
      each = λ xs ys w. brought lattice c.requires.bringable.inverse (at_site c.args.olds.now) (at_site c.args.news.now) c.change_all-sums.ensures
          c.add_totals.ensures (λ k l. record { at = λ i li. w.before i k li l }) (λ k l. record { at = λ i li. w.after i k li l }) w.others;
    }
