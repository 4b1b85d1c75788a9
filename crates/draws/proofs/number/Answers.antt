-- `number` meets its contract. The invariant: with the words left to try, the present source gives what the lent one gives.
use Rattle.std.proofs.Common.{ℕ, ◌+◌, ◌-◌, ◌/◌, ◌^◌, ◌<◌, ◌≤◌, ◌≡◌, ◌∙◌, subst, arith}
use Rattle.std.specs.Prelude.{Ok}
use Rattle.draws.specs.Answer.{drawn_of}
use Rattle.draws.specs.Draw.{tried}
use Rattle.draws.proofs.Trying.{word_taken, word_again}
use Rattle.draws.proofs.number.Goals as goal

pub returns-then-high-top : goal.returns-then-high-top
returns-then-high-top c = let a = c.args in
    let d = c.step-d in
    word_taken a.s a.m c.loop.source (a.budget - c.loop.counter) (drawn_of c.loop.source (Ok d.result)) (omega arith) d.ensures
    (subst (λ (x : ℕ). d.result.value / 2 ^ 32 < x) c.requires.at c.if-high-top.true)
    ∙ c.loop.invariant

pub loop-preserved : goal.loop-preserved
loop-preserved c = let a = c.args in
    let d = c.step-d in
    word_again a.s a.m c.loop.source (a.budget - c.loop.counter) (a.budget - (c.loop.counter + 1))
    (drawn_of c.loop.source (Ok d.result)) (omega arith) d.ensures
    (subst (λ (x : ℕ). x ≤ d.result.value / 2 ^ 32) c.requires.at c.if-high-top.false)
    ∙ c.loop.invariant

pub returns : goal.returns
unfolding tried
returns c =
    let none : c.args.budget - c.loop.counter ≡ 0 = omega arith in
    rw none at c.loop.invariant
