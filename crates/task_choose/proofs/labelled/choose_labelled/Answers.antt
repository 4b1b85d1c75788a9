-- `choose_labelled` meets its contract: the rows' columns, which marks and sizes are taken from, and then the choices.
use Prim.Native.Nat.{◌≤◌}
use mathlib.Core.Path.{◌≡◌, refl, sym, ◌∙◌}
use mathlib.Core.Bool.{true}
use mathlib.Core.List.{[]}
use lib.Seq.{length-take-le}
use Rattle.paper.specs.Panel.Input.{Call, Choices}
use Rattle.paper.specs.Panel.Made.{call_of, choices_of}
use Rattle.paper.specs.Panel.Takes.{is_cmr, moves}
use Rattle.column_rules.specs.Sight.{Sighted, rows_look, look_sights, acts_flags}
use Rattle.moves.specs.Given.{Given, Keys, given_asks, chosen_columns}
use Rattle.task_choose.specs.Asked.{sighted}
use Rattle.task_choose.specs.Labelled.{given, columns_rest}
use Rattle.task_choose.proofs.labelled.choose_labelled.Goals as goal

pub returns-then-not-moves : goal.returns-then-not-moves
returns-then-not-moves c =
    let a = c.args in
    let call_at : Call = call_of a.t [] [] a.pins.now [] [] in
    let choicesAt : Choices = choices_of a.choices.now a.greys.now in
    columns_rest call_at choicesAt a.rows.now a.labels.now a.grey_labels.now
    (sym c.moves.ensures ∙ c.if-not-moves.true) c.pack.ensures

pub look_columns-requires : goal.look_columns-requires
look_columns-requires c =
    let a = c.args in
    let few : a.t.n ≤ 4096 = c.requires.asks.ranged.lattice.n_high in
    let call_at : Call = call_of a.t [] [] a.pins.now [] [] in
    let choicesAt : Choices = choices_of a.choices.now a.greys.now in
    let sight : Sighted a.t.mode a.t.n a.t.group a.t.reference a.rows.now = sighted call_at choicesAt a.rows.now c.requires.asks in
    rows_look sight c.pack.ensures (length-take-le _ _ few)

pub choose_task-requires : goal.choose_task-requires
choose_task-requires c =
    let a = c.args in
    let call_at : Call = call_of a.t [] [] a.pins.now [] [] in
    let choicesAt : Choices = choices_of a.choices.now a.greys.now in
    let few : a.t.n ≤ 4096 = c.requires.asks.ranged.lattice.n_high in
    let sight : Sighted a.t.mode a.t.n a.t.group a.t.reference a.rows.now = sighted call_at choicesAt a.rows.now c.requires.asks in
    let moving : moves c.args.t.form ≡ true = sym c.moves.ensures ∙ c.if-not-moves.false in
    let told : Given call_at choicesAt c.args.rows.now = given call_at choicesAt c.args.rows.now c.requires.asks c.requires.seeded moving in
    let keys : Keys c.args.t.n c.args.labels.now = c.requires.keys moving in
    let grey_keys : is_cmr c.args.t.mode ≡ true → Keys c.args.t.n c.args.grey_labels.now = λ q. c.requires.grey_keys (rw (moving, q) refl) in
    let xs = a.rows.now in
    given_asks a.t [] [] a.pins.now [] [] choicesAt xs told keys
    (acts_flags call_at xs _ (look_sights sight c.pack.ensures c.look_columns.ensures).flagged) c.pack.ensures
    c.tally_free.ensures grey_keys (λ q. c.tally_greys.ensures (c.is_cmr.ensures ∙ q)) (length-take-le _ _ few)

pub returns : goal.returns
returns c =
    let a = c.args in
    let call_at : Call = call_of a.t [] [] a.pins.now [] [] in
    let choicesAt : Choices = choices_of a.choices.now a.greys.now in
    let sight : Sighted a.t.mode a.t.n a.t.group a.t.reference a.rows.now = sighted call_at choicesAt a.rows.now c.requires.asks in
    let moving : moves c.args.t.form ≡ true = sym c.moves.ensures ∙ c.if-not-moves.false in
    let told : Given call_at choicesAt c.args.rows.now = given call_at choicesAt c.args.rows.now c.requires.asks c.requires.seeded moving in
    let keys : Keys c.args.t.n c.args.labels.now = c.requires.keys moving in
    let xs = a.rows.now in
    chosen_columns a.t [] [] a.pins.now [] [] choicesAt xs told keys
    (acts_flags call_at xs _ (look_sights sight c.pack.ensures c.look_columns.ensures).flagged) c.pack.ensures a.grey_labels.now
    (c.choose_task.ensures a.pins.now c.tally_free.ensures (λ q. c.tally_greys.ensures (c.is_cmr.ensures ∙ q)))
