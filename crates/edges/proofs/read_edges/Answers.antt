-- `read_edges` meets its contract: each place past a test knows that test's rule, and each refusal that the next is broken.
use Prim.Native.Nat.{◌*◌, ◌≤◌}
use native.Mathlib.Omega.{arith}
use native.Mathlib.Nat.{mul-le-mul}
use lib.ListN.{get_or-replicate}
use Rattle.lemmas.specs.Tells.{told, denied}
use Rattle.paper.specs.Refusal.Rules.{Sizes, Inverse}
use Rattle.edges.specs.Answer.{net_of, Exact}
use Rattle.edges.specs.Filling.{Loaded, SmallCodes}
use Rattle.edges.proofs.Loading.{is_loaded, too_large, all_read}
use Rattle.edges.proofs.read_edges.Goals as goal

pub load-requires : goal.load-requires
load-requires c =
    let k1 : Sizes c.args.n c.args.d 1 = told c.if-not-sizes_ok.false c.sizes_ok.ensures in
    let k2 : Exact (net_of c.args.n c.args.d c.args.fwd.now c.args.bwd.now) c.args.couplings.now = told c.if-not-exact.false c.exact.ensures in
    let k3 : Inverse c.args.n c.args.d c.args.fwd.now c.args.bwd.now = told c.if-not-tables_ok.false c.tables_ok.ensures in
    let few : c.args.n * c.args.d ≤ 16384 = mul-le-mul k1.n_high k1.d_high in
    record {
      celled = record {
        n_high = k1.n_high;
        d_high = k1.d_high;
        fwd_long = k2.fwd_long;
        cells_long = omega (arith, few);
      };
      bwd = c.args.bwd.now;
      inverse = k3;
      place = omega arith;
      empty = λ b l. get_or-replicate 16384 b 0 0 (omega (arith, few));
    }

pub returns-then-not-all_small : goal.returns-then-not-all_small
returns-then-not-all_small c =
    let k1 : Sizes c.args.n c.args.d 1 = told c.if-not-sizes_ok.false c.sizes_ok.ensures in
    let k2 : Exact (net_of c.args.n c.args.d c.args.fwd.now c.args.bwd.now) c.args.couplings.now = told c.if-not-exact.false c.exact.ensures in
    let k3 : Inverse c.args.n c.args.d c.args.fwd.now c.args.bwd.now = told c.if-not-tables_ok.false c.tables_ok.ensures in
    let k4 : Loaded c.args.n c.args.d c.args.fwd.now c.args.text.now c.load.new.cells = is_loaded _ _ _ _ _ c.load.result c.if-not-load.false c.load.ensures in
    too_large _ _ _ _ _ _ k1 k2 k3 _ k4
    (denied c.if-not-all_small.true c.all_small.ensures)

pub returns : goal.returns
returns c =
    let k1 : Sizes c.args.n c.args.d 1 = told c.if-not-sizes_ok.false c.sizes_ok.ensures in
    let k2 : Exact (net_of c.args.n c.args.d c.args.fwd.now c.args.bwd.now) c.args.couplings.now = told c.if-not-exact.false c.exact.ensures in
    let k3 : Inverse c.args.n c.args.d c.args.fwd.now c.args.bwd.now = told c.if-not-tables_ok.false c.tables_ok.ensures in
    let k4 : Loaded c.args.n c.args.d c.args.fwd.now c.args.text.now c.load.new.cells = is_loaded _ _ _ _ _ c.load.result c.if-not-load.false c.load.ensures in
    let k5 : SmallCodes (c.args.n * c.args.d) c.load.new.cells = told c.if-not-all_small.false c.all_small.ensures in
    all_read _ _ _ _ _ _ k1 k2 k3 _ k4 _ k5 c.copy.ensures
