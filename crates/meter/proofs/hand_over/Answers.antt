-- `hand_over` meets its contract: each place past a test knows that test's rule, and each refusal that the next one is broken.
use mathlib.Core.Bool.{◌&&◌}
use lib.Dec.{eqb}
use lib.ListN.{length}
use Rattle.lemmas.specs.Tells.{Test, passed, said, same, both, test_eq}
use Rattle.paper.specs.Panel.Input.{Lattice}
use Rattle.paper.specs.Panel.Made.{lattice_of}
use Rattle.paper.specs.Refusal.Rules.{Sizes, Spins, Inverse}
use Rattle.paper.specs.Answer.Totals.{HandOverExact}
use Rattle.paper.specs.Answer.Team.{Team, Ours}
use Rattle.systems.specs.Owners.{team_of}
use Rattle.meter.specs.Part.{LengthsOf, exact_of, exact_lengths, Sound, sound_row}
use mathlib.Core.Bool.{not}
use mathlib.Core.Path.{ap}
use Rattle.meter.proofs.hand_over.Goals as goal

pub all_current-requires : goal.all_current-requires
all_current-requires c =
    let lent : Lattice = lattice_of c.args.n c.args.d c.args.s c.args.fwd.now c.args.bwd.now c.args.couplings.now in
    let team : Team = team_of c.args.team c.args.owners.now in
    let lengths-tell : Test (c.exact.result && eqb (length c.args.totals.now) c.args.s) (HandOverExact lent c.args.spins.now c.args.totals.now) = let xs = c.args.spins.now in
    same (HandOverExact lent xs c.args.totals.now)
    (λ h. record { panel = exact_of lent xs h.0; totals = h.1 })
    (λ z. (exact_lengths lent xs z.panel, z.totals))
    (both (said c.exact.result (LengthsOf lent xs) c.exact.ensures) (test_eq (length c.args.totals.now) c.args.s)) in
    let exactly : HandOverExact lent c.args.spins.now c.args.totals.now = passed (c.exact.result && eqb (length c.args.totals.now) c.args.s) (ap not c.if-not-exact-totals.false) lengths-tell.says in
    let sized : Sizes c.args.n c.args.d c.args.s = passed c.sizes_ok.result (ap not c.if-not-sizes_ok.false) c.sizes_ok.ensures in
    let spinning : let a = c.args in Spins a.n (Ours team a.s) a.spins.now = passed c.own_rows_ok.result (ap not c.if-not-own_rows_ok.false) c.own_rows_ok.ensures in
    let inverse : Inverse c.args.n c.args.d c.args.fwd.now c.args.bwd.now = passed c.tables_ok.result (ap not c.if-not-tables_ok.false) c.tables_ok.ensures in
    let sound : Sound lent (Ours team c.args.s) c.args.spins.now = record {
      sizes = sized;
      exact = exactly.panel;
      spins = spinning;
      inverse = inverse;
      small = passed c.couplings_ok.result (ap not c.if-not-couplings_ok.false) c.couplings_ok.ensures;
    } in
    let x = exactly in
    record {
      each = λ k l m. record {
        total_there = rw x.totals l;
        row = sound_row lent (Ours team c.args.s) c.args.spins.now sound k l (l, m);
      };
    }
