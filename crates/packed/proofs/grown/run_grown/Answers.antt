-- `run_grown` meets its contract: the rows that the bytes stand for, the task on them, and their bytes.
use Prim.Native.Nat.{◌*◌, ◌≤◌}
use mathlib.Core.Path.{◌≡◌}
use native.Mathlib.Nat.{mul-le-mul}
use lib.Seq.{length-take-le}
use Rattle.paper.specs.Panel.Input.{Call, Choices}
use Rattle.paper.specs.Panel.Made.{call_of, choices_of}
use Rattle.paper.specs.Answer.Cases.{answer_by}
use Rattle.packing.specs.Bytes.{rows_of}
use Rattle.packed.specs.Grown.{room, written_is, grow_asks, after_long, grown_leaves}
use Rattle.packed.proofs.grown.run_grown.Goals as goal

pub run_grow-answer-requires-clause-grow_asks : goal.run_grow-answer-requires-clause-grow_asks
run_grow-answer-requires-clause-grow_asks c =
    let a = c.args in
    let call_at : Call = call_of a.t a.fwd.now a.bwd.now a.pins.now a.couplings.now a.cuts.now in
    let choicesAt : Choices = choices_of a.choices.now a.greys.now in
    let high : a.t.group.len * a.t.n ≤ 32768 = let r = c.requires.grown_asks.rows.valid.sound.ranged in mul-le-mul r.size_high r.lattice.n_high in
    let stands : c.write_rows.new.spins ≡ rows_of a.t.group.len a.columns.now =
    written_is call_at choicesAt a.columns.now a.members.now c.requires.grown_asks _ _
    (length-take-le (a.t.group.len * a.t.n) _ high) c.write_rows.ensures in
    grow_asks call_at choicesAt a.columns.now a.members.now c.requires.grown_asks _ stands

pub pack-requires : goal.pack-requires
pack-requires c =
    let call_at : Call = let a = c.args in call_of a.t a.fwd.now a.bwd.now a.pins.now a.couplings.now a.cuts.now in
    let choicesAt : Choices = choices_of c.args.choices.now c.args.greys.now in
    let high : c.args.t.group.len * c.args.t.n ≤ 32768 = let r = c.requires.grown_asks.rows.valid.sound.ranged in mul-le-mul r.size_high r.lattice.n_high in
    let stands : c.write_rows.new.spins ≡ rows_of c.args.t.group.len c.args.columns.now = written_is call_at choicesAt c.args.columns.now c.args.members.now c.requires.grown_asks _ _
    (length-take-le (c.args.t.group.len * c.args.t.n) _ high) c.write_rows.ensures in
    let k = c.requires.grown_asks in
    let s = k.rows.valid.sound in
    record {
      sites = s.ranged.lattice.n_high;
      few = s.ranged.size_high;
      inside = λ j h.
          room call_at choicesAt c.args.columns.now c.args.members.now k j h
          (after_long call_at choicesAt c.args.columns.now c.args.members.now k _ stands (answer_by c.run_grow-answer.result) _ _
          c.run_grow-answer.ensures.answers);
      long = k.long;
    }

pub returns : goal.returns
returns c =
    let call_at : Call = let a = c.args in call_of a.t a.fwd.now a.bwd.now a.pins.now a.couplings.now a.cuts.now in
    let choicesAt : Choices = choices_of c.args.choices.now c.args.greys.now in
    let high : c.args.t.group.len * c.args.t.n ≤ 32768 = let r = c.requires.grown_asks.rows.valid.sound.ranged in mul-le-mul r.size_high r.lattice.n_high in
    let stands : c.write_rows.new.spins ≡ rows_of c.args.t.group.len c.args.columns.now = written_is call_at choicesAt c.args.columns.now c.args.members.now c.requires.grown_asks _ _
    (length-take-le (c.args.t.group.len * c.args.t.n) _ high) c.write_rows.ensures in
    grown_leaves call_at choicesAt c.args.columns.now c.args.members.now c.requires.grown_asks _ stands (answer_by c.run_grow-answer.result) _ _
    c.run_grow-answer.ensures.answers _ c.pack.ensures _ _ _ c.run_grow-answer.ensures.totals_after
