-- `label_grown` meets its contract: the cluster is found, and in CMR its blue sites are marked.
use mathlib.Core.Path.{◌≡◌, sym, ◌∙◌}
use mathlib.Core.Bool.{true}
use Rattle.paper.specs.Panel.Input.{Call}
use Rattle.paper.specs.Panel.Made.{call_of}
use Rattle.paper.specs.Answer.Cases.{answer_by}
use Rattle.lemmas.specs.Bools.{never}
use Rattle.task_steps.specs.Label.{takes_blue}
use Rattle.task_label.specs.Marking.{marks_of}
use Rattle.task_label.specs.Grown.{blue_taken, found_markable, found_leaves}
use Rattle.task_label.proofs.grown.label_grown.Goals as goal

pub mark_listed-requires : goal.mark_listed-requires
mark_listed-requires c =
    let call_at : Call = let a = c.args in call_of a.t a.fwd.now a.bwd.now a.pins.now a.couplings.now a.cuts.now in
    let taken : takes_blue call_at ≡ true = let a = c.args in
    blue_taken call_at a.rows.now a.members.now a.blue.now c.requires (sym c.is_cmr.ensures ∙ c.if-is_cmr.true) in
    let a = c.args in
    found_markable call_at a.rows.now a.members.now a.blue.now c.requires _ _ _ _ _ (c.requires.room taken) (answer_by c.find-found.result.answer)
    c.find-found.ensures.grown

pub returns-then-is_cmr : goal.returns-then-is_cmr
returns-then-is_cmr c =
    let call_at : Call = let a = c.args in call_of a.t a.fwd.now a.bwd.now a.pins.now a.couplings.now a.cuts.now in
    let taken : takes_blue call_at ≡ true = let a = c.args in
    blue_taken call_at a.rows.now a.members.now a.blue.now c.requires (sym c.is_cmr.ensures ∙ c.if-is_cmr.true) in
    let a = c.args in
    found_leaves call_at a.rows.now a.members.now a.blue.now c.requires _ _ _ _ _ (answer_by c.find-found.result.answer) c.find-found.ensures.grown
    (λ e. marks_of (c.requires.room e) c.mark_listed.ensures) (λ e. never (sym e ∙ taken))
