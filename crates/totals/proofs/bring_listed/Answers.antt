-- `bring_listed` meets its contract: the columns of the members and of the sites next to them are those before the move and after it.
use Prim.Native.Nat.{ℕ}
use mathlib.Core.List.{List}
use native.Mathlib.Omega.{arith}
use Rattle.lemmas.specs.Sums.{sum}
use Rattle.paper.specs.Panel.Input.{Lattice}
use Rattle.totals.specs.Gain.{at_site, site_gain, Ground}
use Rattle.totals.specs.Law.{change_in}
use Rattle.totals.specs.Contract.{lattice_for}
use Rattle.totals.proofs.Brings.{ground, payable, brought}
use Rattle.totals.proofs.Listing.{old_of, new_of, listed_sums, new_shows, old_shows}
use Rattle.totals.proofs.Site.{listed_small}
use Rattle.totals.proofs.bring_listed.Goals as goal

pub add_totals-requires : goal.add_totals-requires
add_totals-requires c =
    let lattice : Lattice = lattice_for c.args.t c.args.fwd.now c.args.bwd.now c.args.couplings.now in
    let olds : List ℕ = c.gather.new.olds in
    let news : List ℕ = c.gather.new.news in
    let on : let g = lattice in Ground g.n g.d g.fwd g.bwd g.couplings olds news = ground c.requires.bringable (omega (arith, c.requires.listing.areas.olds_long, c.gather.ensures.olds_long))
    (omega (arith, c.requires.listing.areas.news_long, c.gather.ensures.news_long)) in
    payable c.requires.bringable
    (λ k. sum c.args.len (λ a. site_gain (change_in lattice (at_site olds) (at_site news)) k (at_site c.args.list.now a)))
    (λ k. listed_small on c.requires.listing.sites c.args.len k (omega arith)) c.change_listed-sums.ensures

pub returns : goal.returns
returns c =
    let lattice : Lattice = lattice_for c.args.t c.args.fwd.now c.args.bwd.now c.args.couplings.now in
    record {
      long = c.add_totals.ensures.long;
      each = λ xs u. brought lattice c.requires.bringable.inverse
          (old_of c.requires.bringable c.requires.spun c.requires.listing) (new_of c.requires.bringable c.requires.spun c.requires.listing)
          (listed_sums c.requires.bringable c.requires.spun c.requires.listing c.gather.ensures c.change_listed-sums.ensures) c.add_totals.ensures
          (old_shows c.requires.bringable c.requires.spun c.requires.listing u) (new_shows c.requires.bringable c.requires.spun c.requires.listing) u.systems;
    }
