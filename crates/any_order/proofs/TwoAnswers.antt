-- Two teams' sweeps, each accepted or refused: the steps of those that are accepted, mixed in any order, end as the one sweep and then the other does, and
-- none of them is refused. A refused sweep takes no step, and its refusal is the same before and after the other's.
use Rattle.std.specs.Prelude.{ℕ, zero, suc, ◌<◌, ◌≡◌, refl, ◌⊎◌, Bool, true, false, cond, List, eqb, ℤ}
use Rattle.std.proofs.Common.{sym, ◌∙◌, ap, subst, inl, inr, eq-eqb, ne_eqb}
use Rattle.paper.specs.Panel.Input.{Buffers}
use Rattle.paper.specs.Refusal.Rule.{Kept}
use Rattle.paper.specs.Refusal.Verdict.{Verdict}
use Rattle.paper.specs.Answer.Totals.{swept_rules, SweepKeepAnswers}
use Rattle.paper.specs.Answer.Task.{Sweep, tasks, masked}
use Rattle.paper.specs.Answer.Team.{Team, read_sweep}
use Rattle.laws.specs.AnswersLocal.{with_spins}
use Rattle.laws.specs.Isolated.{OtherTeam}
use Rattle.any_order.specs.Schedule.{Step.label, Step.choose, Step.write, Key, Turn, Run, In, Ordered}
use Rattle.any_order.specs.EachTurn.{EachTurn, each_turn}
use Rattle.any_order.specs.Tasks.{Holding, DoesFor, Holds}
use Rattle.any_order.specs.Unmasked.{key, stepping, Unmasked, stepping_is}
use Rattle.any_order.proofs.NoRefusal.{first_unrefused, second_unrefused, third_unrefused}
use Rattle.any_order.proofs.Sweeping.{tasks_sweep}
use Rattle.any_order.specs.AnyOrder.{Begins, answer_of}
use Rattle.any_order.specs.Mixed.{InTurn}
use Rattle.any_order.specs.Acceptance.{other_way, acceptance_between}
use Rattle.any_order.specs.TwoTeams.{TwoSteps, both_stepping, in_either, ours, theirs}
use Rattle.any_order.proofs.TwoTeams.{any_order_of_two}
use Rattle.any_order.specs.TwoAnswers.{EndsTwo, EitherUnrefused, TwoUnrefused}

-- an unmasked task of an accepted sweep, with what is its
record Good (keeping : Bool) (w : Sweep) (b : Buffers) (ts : List ℤ) (k : ℕ) (h : Holding) : Type 0 where
  accepted : Kept (swept_rules keeping w b ts)
  below : k < tasks w
  unmasked : masked w k ≡ false
  holds : Holds w b ts k h

good_of :
    (keeping : Bool) (w : Sweep) (b : Buffers) (ts : List ℤ) (team r : ℕ) (st : Key → Holding)
    → Verdict (swept_rules keeping w b ts) r
    → Begins r w b ts (λ k. st (key team k))
    → (q : Key)
    → In q (stepping r team w)
    → Good keeping w b ts q.task (st q)
good_of keeping w b ts team zero st v starts q l =
    let a = stepping_is team w 0 q l in
    record { accepted = v; below = a.below; unmasked = a.unmasked; holds = rw a.is (starts q.task a.below a.unmasked) }
good_of keeping w b ts team (suc r) st v starts q l = absurd l

-- of the one sweep or of the other
module _ (keeping : Bool) (w : Sweep) (b : Buffers) (keeping' : Bool) (x : Sweep) (d : Buffers) (ts : List ℤ) where
  abbrev Either : Bool → ℕ → Holding → Type 0
  Either true k h = Good keeping w b ts k h
  Either false k h = Good keeping' x d ts k h

  either_first :
      (t : Bool) (k : ℕ) (h₀ h₁ : Holding) → Either t k h₀ → (d₁ : cond t (DoesFor keeping w k) (DoesFor keeping' x k) label h₀ h₁)
      → EitherUnrefused t keeping w keeping' x k label h₀ h₁ d₁
  either_first true k h₀ h₁ g = first_unrefused keeping w b ts g.accepted k g.below g.unmasked h₀ g.holds h₁
  either_first false k h₀ h₁ g = first_unrefused keeping' x d ts g.accepted k g.below g.unmasked h₀ g.holds h₁

  either_second :
      (t : Bool) (k : ℕ) (h₀ h₁ h₂ : Holding) → Either t k h₀ → cond t (DoesFor keeping w k) (DoesFor keeping' x k) label h₀ h₁
      → (d₂ : cond t (DoesFor keeping w k) (DoesFor keeping' x k) choose h₁ h₂)
      → EitherUnrefused t keeping w keeping' x k choose h₁ h₂ d₂
  either_second true k h₀ h₁ h₂ g = second_unrefused keeping w b ts g.accepted k g.below g.unmasked h₀ g.holds h₁ h₂
  either_second false k h₀ h₁ h₂ g = second_unrefused keeping' x d ts g.accepted k g.below g.unmasked h₀ g.holds h₁ h₂

  either_third :
      (t : Bool) (k : ℕ) (h₀ h₁ h₂ h₃ : Holding) → Either t k h₀ → cond t (DoesFor keeping w k) (DoesFor keeping' x k) label h₀ h₁
      → cond t (DoesFor keeping w k) (DoesFor keeping' x k) choose h₁ h₂
      → (d₃ : cond t (DoesFor keeping w k) (DoesFor keeping' x k) write h₂ h₃)
      → EitherUnrefused t keeping w keeping' x k write h₂ h₃ d₃
  either_third true k h₀ h₁ h₂ h₃ g = third_unrefused keeping w b ts g.accepted k g.below g.unmasked h₀ g.holds h₁ h₂ h₃
  either_third false k h₀ h₁ h₂ h₃ g = third_unrefused keeping' x d ts g.accepted k g.below g.unmasked h₀ g.holds h₁ h₂ h₃

-- the tests of the sweep w of o and of the sweep x of e, on the state at the start, answer r and r'
module _
    (o e : Team) (other : OtherTeam o e) (w x : Sweep) (one_size : x.lattice.n ≡ w.lattice.n) (keeping keeping' : Bool) (b d : Buffers) (ts : List ℤ)
    (xs : List Turn) (st st' : Key → Holding) (r r' : ℕ)
    (one_panel : d.spins ≡ b.spins)
    (verdict : Verdict (swept_rules keeping (read_sweep o w) b ts) r)
    (verdict' : Verdict (swept_rules keeping' (read_sweep e x) d ts) r')
    (begins : Begins r (read_sweep o w) b ts (λ k. st (key o.team k)))
    (begins' : Begins r' (read_sweep e x) d ts (λ k. st (key e.team k)))
    (ordered : Ordered (both_stepping r o w r' e x) xs)
    (run : Run (TwoSteps o.team keeping (read_sweep o w) keeping' (read_sweep e x)) xs st st')
  where
    pub no_step_refused_of_two : EachTurn (TwoUnrefused o.team keeping (read_sweep o w) keeping' (read_sweep e x)) run
    no_step_refused_of_two =
        each_turn Side (TwoUnrefused o.team keeping (read_sweep o w) keeping' (read_sweep e x))
        (record {
          first = λ q. either_first keeping (read_sweep o w) b keeping' (read_sweep e x) d ts (eqb q.team o.team) q.task;
          second = λ q. either_second keeping (read_sweep o w) b keeping' (read_sweep e x) d ts (eqb q.team o.team) q.task;
          third = λ q. either_third keeping (read_sweep o w) b keeping' (read_sweep e x) d ts (eqb q.team o.team) q.task;
        })
        (both_stepping r o w r' e x) xs ordered
        (λ q l. side q (in_either q (stepping r o.team (read_sweep o w)) (stepping r' e.team (read_sweep e x)) l)) run
      where
        Side : Key → Holding → Type 0
        Side q h = Either keeping (read_sweep o w) b keeping' (read_sweep e x) d ts (eqb q.team o.team) q.task h

        team_of : {team : ℕ} {z : Sweep} {q : Key} → Unmasked team z q → q.team ≡ team
        team_of a = ap (λ (j : Key). j.team) a.is

        side : (q : Key) → In q (stepping r o.team (read_sweep o w)) ⊎ In q (stepping r' e.team (read_sweep e x)) → Side q (st q)
        side q (inl l) =
            subst (λ (t : Bool). Either keeping (read_sweep o w) b keeping' (read_sweep e x) d ts t q.task (st q))
            (sym (eq-eqb q.team o.team (team_of (stepping_is o.team (read_sweep o w) r q l))))
            (good_of keeping (read_sweep o w) b ts o.team r st verdict begins q l)
        side q (inr l) =
            subst (λ (t : Bool). Either keeping (read_sweep o w) b keeping' (read_sweep e x) d ts t q.task (st q))
            (sym (ne_eqb q.team o.team (λ f. other.other (sym (team_of (stepping_is e.team (read_sweep e x) r' q l)) ∙ f))))
            (good_of keeping' (read_sweep e x) d ts e.team r' st verdict' begins' q l)

pub answers_of_two :
    (o e : Team) (other : OtherTeam o e) (w x : Sweep) (one_size : x.lattice.n ≡ w.lattice.n) (keeping keeping' : Bool) (b d : Buffers) (ts : List ℤ)
    (xs : List Turn) (st st' : Key → Holding) (r r' : ℕ) (b' d' : Buffers) (us : List ℤ)
    → d.spins ≡ b.spins
    → Verdict (swept_rules keeping (read_sweep o w) b ts) r
    → Verdict (swept_rules keeping' (read_sweep e x) d ts) r'
    → Begins r (read_sweep o w) b ts (λ k. st (key o.team k))
    → Begins r' (read_sweep e x) d ts (λ k. st (key e.team k))
    → Ordered (both_stepping r o w r' e x) xs
    → Run (TwoSteps o.team keeping (read_sweep o w) keeping' (read_sweep e x)) xs st st'
    → EndsTwo r r' (read_sweep o w) (read_sweep e x) b d ts (λ k. st' (key o.team k)) (λ k. st' (key e.team k)) b' d' us
    → InTurn keeping (read_sweep o w) b ts (answer_of r (read_sweep o w) (λ k. st' (key o.team k))) b' keeping' (read_sweep e x) d
    (answer_of r' (read_sweep e x) (λ k. st' (key e.team k))) d' us
answers_of_two o e other w x one_size keeping keeping' b d ts xs st st' zero zero b' d' us one_panel v v' s s' ordered run m =
    any_order_of_two o e other w x one_size keeping keeping' b d ts xs st st' b' d' us one_panel v v' s s' ordered run m
answers_of_two o e other w x one_size keeping keeping' b d ts xs st st' zero (suc r') b' d' us one_panel v v' s s' ordered run m = record {
  rows = b'.spins;
  totals = us;
  first =
      tasks_sweep keeping (read_sweep o w) b ts v (λ k. st (key o.team k)) (λ k. st' (key o.team k)) b' us m.0 s
      (ours o e other w x 0 (suc r') keeping keeping' xs st st' ordered run refl);
  second = record {
    why =
        ((acceptance_between e o (other_way other) keeping' x d ts keeping w b (sym one_size) (sym one_panel) v (λ k. st' (key o.team k)) b' us m.0
        ).broken (suc r')).0 v';
    kept = m.1;
    totals_kept = refl;
  };
}
answers_of_two o e other w x one_size keeping keeping' b d ts xs st st' (suc r) zero b' d' us one_panel v v' s s' ordered run m = record {
  rows = b.spins;
  totals = ts;
  first = record { why = v; kept = ap (λ (z : Buffers). with_spins z b.spins) m.1; totals_kept = refl };
  second =
      subst (λ (zs : List ℤ). SweepKeepAnswers keeping' (read_sweep e x) (with_spins d zs) ts (answer_of 0 (read_sweep e x) (λ k. st' (key e.team k))) d' us)
      one_panel
      (tasks_sweep keeping' (read_sweep e x) d ts v' (λ k. st (key e.team k)) (λ k. st' (key e.team k)) d' us m.0 s'
      (theirs o e other w x (suc r) 0 keeping keeping' xs st st' ordered run refl));
}
answers_of_two o e other w x one_size keeping keeping' b d ts xs st st' (suc r) (suc r') b' d' us one_panel v v' s s' ordered run m = record {
  rows = b.spins;
  totals = ts;
  first = record { why = v; kept = ap (λ (z : Buffers). with_spins z b.spins) m.0; totals_kept = refl };
  second =
      subst (λ (zs : List ℤ). SweepKeepAnswers keeping' (read_sweep e x) (with_spins d zs) ts (answer_of (suc r') (read_sweep e x) (λ k. st' (key e.team k)))
      d' us) one_panel
      (record { why = v'; kept = m.1; totals_kept = m.2 });
}
