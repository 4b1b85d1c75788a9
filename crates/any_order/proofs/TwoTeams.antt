-- 14/14 with 12/14: the steps of two teams' sweeps, mixed in any order that keeps each task's own, end as the one sweep and then the other does.
use Rattle.std.specs.Prelude.{◌≡◌, refl, Bool, List, ℤ}
use Rattle.paper.specs.Answer.Cases.{SweepAnswer}
use Rattle.paper.specs.Panel.Input.{Buffers}
use Rattle.paper.specs.Refusal.Rule.{Kept}
use Rattle.paper.specs.Answer.Totals.{swept_rules, SweepKeepAnswers}
use Rattle.paper.specs.Answer.Task.{Sweep}
use Rattle.paper.specs.Answer.Team.{Team, own, read_sweep}
use Rattle.laws.specs.AnswersLocal.{with_spins}
use Rattle.laws.specs.Isolated.{lists_own, OtherTeam, other_not_own}
use Rattle.any_order.specs.Schedule.{Key, Turn, Run, Ordered}
use Rattle.any_order.specs.Tasks.{Holding, swept_by}
use Rattle.any_order.specs.Unmasked.{key}
use Rattle.any_order.specs.AnyOrder.{Starts}
use Rattle.any_order.specs.Mixed.{MergedTwo, InTurn, SameInTurn, in_turn_determined}
use Rattle.any_order.proofs.Mixed.{both_in_turn}
use Rattle.any_order.specs.TwoTeams.{TwoSteps, both_tasks, ours, theirs}

-- of accepted sweeps of the teams o and e on one panel, whose spins and totals both are lent
module _
    (o e : Team) (other : OtherTeam o e) (w x : Sweep) (one_size : x.lattice.n ≡ w.lattice.n) (keeping keeping' : Bool) (b d : Buffers) (ts : List ℤ)
    (xs : List Turn) (st st' : Key → Holding) (b' d' : Buffers) (us : List ℤ)
    (one_panel : d.spins ≡ b.spins)
    (accepted : Kept (swept_rules keeping (read_sweep o w) b ts))
    (accepted' : Kept (swept_rules keeping' (read_sweep e x) d ts))
    (starts : Starts (read_sweep o w) b ts (λ k. st (key o.team k)))
    (starts' : Starts (read_sweep e x) d ts (λ k. st (key e.team k)))
    (ordered : Ordered (both_tasks o w e x) xs)
    (run : Run (TwoSteps o.team keeping (read_sweep o w) keeping' (read_sweep e x)) xs st st')
    (merged : MergedTwo (read_sweep o w) (read_sweep e x) b d ts (λ k. st' (key o.team k)) (λ k. st' (key e.team k)) b' d' us)
  where
    pub any_order_of_two :
        InTurn keeping (read_sweep o w) b ts (swept_by (read_sweep o w) (λ k. st' (key o.team k))) b' keeping' (read_sweep e x) d
        (swept_by (read_sweep e x) (λ k. st' (key e.team k))) d' us
    any_order_of_two =
        both_in_turn (own o) (own e) (other_not_own other) (read_sweep o w) (read_sweep e x) (lists_own o w) (lists_own e x) one_size
        keeping keeping' b d ts one_panel accepted accepted' (λ k. st (key o.team k)) (λ k. st' (key o.team k)) (λ k. st (key e.team k))
        (λ k. st' (key e.team k)) b' d' us merged starts (ours o e other w x 0 0 keeping keeping' xs st st' ordered run refl) starts'
        (theirs o e other w x 0 0 keeping keeping' xs st st' ordered run refl)

    -- so whatever the sweep of o and then that of e answer and leave, each by ascending tasks, is this
    pub same_as_in_turn :
        (f : SweepAnswer) (y : Buffers) (ts₁ : List ℤ) (g : SweepAnswer) (z : Buffers) (vs : List ℤ)
        → SweepKeepAnswers keeping (read_sweep o w) b ts f y ts₁
        → SweepKeepAnswers keeping' (read_sweep e x) (with_spins d y.spins) ts₁ g z vs
        → SameInTurn (swept_by (read_sweep o w) (λ k. st' (key o.team k))) b' (swept_by (read_sweep e x) (λ k. st' (key e.team k))) d' us f y g z vs
    same_as_in_turn f y ts₁ g z vs =
        in_turn_determined keeping (read_sweep o w) b ts (swept_by (read_sweep o w) (λ k. st' (key o.team k))) b' keeping' (read_sweep e x) d
        (swept_by (read_sweep e x) (λ k. st' (key e.team k))) d' us f y ts₁ g z vs any_order_of_two
