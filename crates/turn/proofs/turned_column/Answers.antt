-- `turned_column` meets its contract: the cluster's choice where the member acts, and in CMR the grey number.
use Prim.Native.Nat.{ℕ, ◌^◌, ◌<◌}
use mathlib.Core.Path.{◌≡◌, sym, ◌∙◌, ap, subst}
use mathlib.Core.Bool.{Bool, true}
use Rattle.paper.specs.Panel.Takes.{is_cmr}
use Rattle.turn.specs.Turned.{acted_column}
use Rattle.turn.proofs.Choice.{acted_narrow}
use Rattle.turn.proofs.turned_column.Goals as goal
use Rattle.turn.proofs.turned_column.Goals.{then-acts, else-acts}

pub grey_column-out-requires : goal.grey_column-out-requires
grey_column-out-requires c =
    let cmr : is_cmr c.args.t.mode ≡ true = sym c.is_cmr.ensures ∙ c.if-is_cmr.true in
    let acted : Bool → ℕ = λ b. let a = c.args in acted_column a.t a.gauge a.choices.now b a.column in
    let mid : c.if-acts.out ≡ acted c.args.acts =
    elim c.if-acts.branch [
      | then-acts w ↦ w.out-is ∙ (w.act_column-out.ensures ∙ sym (ap acted w.if-acts.true))
      | else-acts w ↦ w.out-is ∙ sym (ap acted w.if-acts.false)
    ] in
    let two : c.if-acts.out < 4 = let a = c.args in
    subst (λ (z : ℕ). c.if-acts.out < 2 ^ z) (c.requires.two cmr)
    (rw mid (acted_narrow a.t a.gauge a.choices.now c.requires.chooses.one a.column cmr c.requires.narrow a.acts)) in
    record { small = c.requires.small cmr; two = two }
