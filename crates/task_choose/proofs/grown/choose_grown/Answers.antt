-- `choose_grown` meets its contract, by whether the mode is CMR and whether a member is pinned.
use mathlib.Core.Path.{◌≡◌, refl, sym, ◌∙◌, ap}
use mathlib.Core.Bool.{Bool, true, false, not, cond}
use Rattle.lemmas.specs.Bools.{never}
use Rattle.paper.specs.Panel.Takes.{is_cmr}
use Rattle.task_choose.specs.Grown.{takers_of, turning, grown_leaves}
use Rattle.task_choose.proofs.grown.choose_grown.Goals as goal

pub choose_members-requires-clause-turning : goal.choose_members-requires-clause-turning
choose_members-requires-clause-turning c =
    let a = c.args in turning a.t a.rows.now a.pins.now a.choices.now a.greys.now c.requires.grows c.requires.asks

pub returns-then-not-is_cmr : goal.returns-then-not-is_cmr
returns-then-not-is_cmr c =
    let other : is_cmr c.args.t.mode ≡ false = sym c.is_cmr.ensures ∙ c.if-not-is_cmr.true in
    let all_take : let a = c.args in a.members.now ≡ takers_of a.t.mode a.members.now a.blue.now = let a = c.args in sym (ap (λ (b : Bool). cond b a.blue.now a.members.now) other) in
    let a = c.args in
    grown_leaves a.t a.rows.now a.pins.now a.choices.now a.greys.now c.requires.grows c.requires.asks all_take
    (λ q free. refl) (λ q. never (sym other ∙ q)) c.gauge_at-gauge.ensures (ap not c.some_pinned-free.ensures)
    c.choose_members.ensures

pub returns-then-some_pinned : goal.returns-then-some_pinned
returns-then-some_pinned c =
    let cmr : is_cmr c.args.t.mode ≡ true = sym c.is_cmr.ensures ∙ c.if-not-is_cmr.false in
    let blue-take : let a = c.args in a.blue.now ≡ takers_of a.t.mode a.members.now a.blue.now = let a = c.args in sym (ap (λ (b : Bool). cond b a.blue.now a.members.now) cmr) in
    let a = c.args in
    grown_leaves a.t a.rows.now a.pins.now a.choices.now a.greys.now c.requires.grows c.requires.asks blue-take
    (λ q free. never (sym free ∙ (sym c.some_pinned.ensures ∙ c.if-some_pinned.true))) (λ q pin. refl) c.gauge_at-gauge.ensures
    (ap not c.some_pinned-free-2.ensures) c.choose_members-then-some_pinned.ensures

pub returns-else-some_pinned : goal.returns-else-some_pinned
returns-else-some_pinned c =
    let cmr : is_cmr c.args.t.mode ≡ true = sym c.is_cmr.ensures ∙ c.if-not-is_cmr.false in
    let blue-take : let a = c.args in a.blue.now ≡ takers_of a.t.mode a.members.now a.blue.now = let a = c.args in sym (ap (λ (b : Bool). cond b a.blue.now a.members.now) cmr) in
    let a = c.args in
    grown_leaves a.t a.rows.now a.pins.now a.choices.now a.greys.now c.requires.grows c.requires.asks blue-take
    (λ q free. refl) (λ q pin. never (sym c.if-some_pinned.false ∙ (c.some_pinned.ensures ∙ pin))) c.gauge_at-gauge.ensures
    (ap not c.some_pinned-free-2.ensures) c.choose_members-else-some_pinned.ensures
