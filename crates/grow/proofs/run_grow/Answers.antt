-- `run_grow` meets its contract: the cluster is found, and if it moves its columns are chosen and written.
use native.Mathlib.Nat.{le_refl}
use mathlib.Core.Path.{refl, subst}
use Rattle.paper.specs.declared.Outcome.{Outcome}
use Rattle.paper.specs.declared.Outcome.TheVariants as Outcome
use Rattle.paper.specs.Answer.Cases.{answer_by, answer_by_injective}
use Rattle.paper.specs.Panel.Made.{call_of}
use Rattle.grow.specs.Finding.{FindsFree, Finds, lookable}
use Rattle.grow.specs.Pinned.{turned_free}
use Rattle.grow.specs.Answered.{findable, still_answers, turnable, moved_answers}
use Rattle.grow.specs.Totals.{writable, totals_still}
use Rattle.grow.proofs.run_grow.Goals as goal

-- it does not move
pub returns-in_default : goal.returns-in_default
returns-in_default c =
    let f = c.find-found in
    let a = c.args in
    record {
      answers = λ o.
          still_answers a.t a.fwd.now a.bwd.now a.pins.now a.couplings.now a.cuts.now a.choices.now a.greys.now
          a.spins.now a.members.now
          c.requires.grow_asks f.new.members f.new.list f.result.blue f.result.len
          (answer_by f.result.answer) (λ e. c.in_default.not-Moved (answer_by_injective f.result.answer Outcome.Moved e)) f.ensures.grown o;
      totals_after = totals_still;
    }

-- or moves
pub choose_cluster-requires-clause-turnable : goal.choose_cluster-requires-clause-turnable
choose_cluster-requires-clause-turnable c =
    let f = c.find-found in
    let a = c.args in
    let call = call_of a.t a.fwd.now a.bwd.now a.pins.now a.couplings.now a.cuts.now in
    let free : FindsFree call a.spins.now f.new.members f.new.list f.result.blue f.result.len =
    subst (λ (r : Outcome). Finds call a.spins.now f.new.members f.new.list (answer_by r) f.result.blue f.result.len) c.in-Moved.is f.ensures.grown in
    turnable a.t a.fwd.now a.bwd.now a.pins.now a.couplings.now a.cuts.now a.choices.now a.greys.now
    a.spins.now a.members.now
    c.requires.grow_asks free.on free.grew f.ensures.kept

pub choose_cluster-requires-clause-lookable : goal.choose_cluster-requires-clause-lookable
choose_cluster-requires-clause-lookable c =
    let f = c.find-found in
    let a = c.args in
    let call = call_of a.t a.fwd.now a.bwd.now a.pins.now a.couplings.now a.cuts.now in
    let free : FindsFree call a.spins.now f.new.members f.new.list f.result.blue f.result.len =
    subst (λ (r : Outcome). Finds call a.spins.now f.new.members f.new.list (answer_by r) f.result.blue f.result.len) c.in-Moved.is f.ensures.grown in
    lookable
    (findable a.t a.fwd.now a.bwd.now a.pins.now a.couplings.now a.cuts.now a.choices.now a.greys.now
    a.spins.now a.members.now
    c.requires.grow_asks refl refl)
    free.grew _ _ free.grew.more (le_refl _)

pub write_cluster-requires-clause-writable : goal.write_cluster-requires-clause-writable
write_cluster-requires-clause-writable c =
    let f = c.find-found in
    let a = c.args in
    let call = call_of a.t a.fwd.now a.bwd.now a.pins.now a.couplings.now a.cuts.now in
    let free : FindsFree call a.spins.now f.new.members f.new.list f.result.blue f.result.len =
    subst (λ (r : Outcome). Finds call a.spins.now f.new.members f.new.list (answer_by r) f.result.blue f.result.len) c.in-Moved.is f.ensures.grown in
    writable a.t a.fwd.now a.bwd.now a.pins.now a.couplings.now a.cuts.now a.choices.now a.greys.now
    a.spins.now a.members.now
    c.requires.grow_asks c.requires.totals_ready free.grew c.choose_cluster.ensures.chosen.long

pub returns-clause-answers : goal.returns-clause-answers
returns-clause-answers c =
    let f = c.find-found in
    let a = c.args in
    let call = call_of a.t a.fwd.now a.bwd.now a.pins.now a.couplings.now a.cuts.now in
    let free : FindsFree call a.spins.now f.new.members f.new.list f.result.blue f.result.len =
    subst (λ (r : Outcome). Finds call a.spins.now f.new.members f.new.list (answer_by r) f.result.blue f.result.len) c.in-Moved.is f.ensures.grown in
    let turn =
    turnable a.t a.fwd.now a.bwd.now a.pins.now a.couplings.now a.cuts.now a.choices.now a.greys.now
    a.spins.now a.members.now
    c.requires.grow_asks free.on free.grew f.ensures.kept
    in
    λ o.
    moved_answers a.t a.fwd.now a.bwd.now a.pins.now a.couplings.now a.cuts.now a.choices.now a.greys.now
    a.spins.now a.members.now
    c.requires.grow_asks free.on free.grew free.free (turned_free turn c.write_cluster.ensures.list_written c.choose_cluster.ensures) o
