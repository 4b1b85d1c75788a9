-- `write_edges` meets its contract: each place past a test knows that test's rule, and each refusal that the next is broken.
use Rattle.lemmas.specs.Tells.{told}
use Rattle.paper.specs.Refusal.Rules.{Sizes, Inverse, SmallCouplings}
use Rattle.edges.specs.Answer.{net_of, Exact}
use Rattle.edges.proofs.Writing.{wrote}
use Rattle.edges.proofs.write_edges.Goals as goal

pub returns : goal.returns
returns c =
    let k1 : Sizes c.args.n c.args.d 1 = told c.if-not-sizes_ok.false c.sizes_ok.ensures in
    let k2 : Exact (net_of c.args.n c.args.d c.args.fwd.now c.args.bwd.now) c.args.couplings.now = told c.if-not-exact.false c.exact.ensures in
    let k3 : Inverse c.args.n c.args.d c.args.fwd.now c.args.bwd.now = told c.if-not-tables_ok.false c.tables_ok.ensures in
    let k4 : SmallCouplings c.args.couplings.now = told c.if-not-couplings_ok.false c.couplings_ok.ensures in
    wrote _ _ _ _ _ _ k1 k2 k3 k4 _ _ _ c.count-m.ensures c.head_length.ensures c.bytes.ensures c.if-text-size.false
    c.put_head-at.ensures c.put_all.ensures
