-- `owners::own_count` meets its contract: the bytes are counted by their places.
use Rattle.std.proofs.Common.{ℕ, ◌≡◌, ◌∙◌, ap, Bool, eqb, length, get_or, count_by, arith}
use Rattle.std.proofs.lemmas.List.{take_all}
use Rattle.lemmas.specs.Counts.{count_places, count_ext}
use Rattle.paper.specs.Answer.Team.{own}
use Rattle.systems.specs.Owners.{team_of, own_there}
use Rattle.systems.proofs.owners.own_count.Goals as goal

pub returns : goal.returns
returns c = let a = c.args in
    let ours : ℕ → Bool = λ owner. eqb owner a.team in
    let counted : c.loop-owner.count ≡ count_by ours a.owners.now =
    c.loop-owner.invariant ∙ ap (count_by ours) (take_all c.loop-owner.owner-index a.owners.now (omega arith)) in
    counted
    ∙ (count_places 0 ours a.owners.now
    ∙ count_ext (λ t. ours (get_or a.owners.now t 0)) (own (team_of a.team a.owners.now)) (length a.owners.now) (own_there a.team a.owners.now))
