-- Each team's part of a mixed day is what its own calls alone would have been: there is a day of those alone, and in it all is the same to the team.
use Rattle.std.specs.Prelude.{ℕ, ◌≡◌, refl, Bool, true, false, cond, List, ◌∷◌, eqb, length, ℤ, ◌+ℤ◌, ◌-ℤ◌}
use Rattle.std.proofs.Common.{sym, ◌∙◌, subst, inl, inr, eqb-true, eq-eqb}
use Rattle.std.proofs.lemmas.Bool.{eqb-false}
use Rattle.lemmas.specs.Bools.{never}
use Rattle.lemmas.specs.Cells.{tabulate, length_tabulate, tabulate_at}
use Rattle.paper.specs.Answer.Cases.{Answer, Answer.Idle, Answer.Held, Answer.Moved, Answer.Refused}
use Rattle.paper.specs.Answer.Cases.{SweepAnswer, SweepAnswer.Fault, SweepAnswer.Swept}
use Rattle.paper.specs.Panel.Input.{Lattice, Call, Choices, Buffers}
use Rattle.paper.specs.Site.Energy.{energy}
use Rattle.paper.specs.Refusal.Rule.{Kept, Broken, broken_unique, broken_not_kept}
use Rattle.paper.specs.Refusal.Rules.{When}
use Rattle.paper.specs.Answer.Move.{Accepted, Accepted.idle, Accepted.held, Accepted.moved}
use Rattle.paper.specs.Answer.Task.{Sweep}
use Rattle.paper.specs.Answer.Totals.{total, kept_rules, swept_rules, kept_asked, TotalsAfter, KeepAccepts, KeepAnswers, SweepKeepAnswers}
use Rattle.paper.specs.Answer.Team.{Team, owner_rules, Owned, own, Ours, read_call, read_sweep}
use Rattle.laws.specs.AnswersLocal.{with_spins}
use Rattle.laws.specs.Matched.{SameVerdict}
use Rattle.laws.specs.Owners.{own_ours, owned_cases}
use Rattle.laws.specs.SameView.{SameView, view_fewer, outputs_with, join_rows}
use Rattle.laws.specs.NamedOnly.{Passing, NamesOnly, Outcome, outcome, rules_isolated, moved_there}
use Rattle.laws.specs.SweepNamedOnly.{ListsOnly, sweep_rules_isolated, swept_there}
use Rattle.laws.specs.Isolated.{only_own, lists_own, verdict_there, metered_there, hand_over_same}
use Rattle.laws.specs.Turns.{Request, Reply, Answered, lattice_of, view_of, panel_back, panel_on, team_of, Turn, ask, LooksSame, Asked, Told}
use Rattle.laws.specs.Turns.{turn_alike, turn_passes}
use Rattle.laws.specs.MixedDay.{MixedDay, asks, tells, SameDay, teams_apart}

-- ---- totals that are kept can be brought current
carried : Bool → Lattice → List ℤ → List ℤ → List ℤ → List ℤ
carried true g xs us ys = tabulate (length us) (λ t. total us t +ℤ (energy g ys t -ℤ energy g xs t))
carried false g xs us ys = us

carried_after :
    (keeping : Bool) (g : Lattice) (xs us ys : List ℤ)
    → When keeping (length us ≡ g.s)
    → TotalsAfter keeping g xs us ys (carried keeping g xs us ys)
unfolding carried
carried_after true g xs us ys long = record {
  brought = λ _. record {
    long = length_tabulate (length us) _;
    each = λ t h. tabulate_at (length us) (λ t. total us t +ℤ (energy g ys t -ℤ energy g xs t)) t (rw (long refl) h);
  };
  left = λ e. never (sym e);
}
carried_after false g xs us ys long = record { brought = λ e. never e; left = λ _. refl }

-- ---- a call that is answered on one panel is so on each that looks the same to those whom it names
record MovedThere (keeping : Bool) (c : Call) (p : Choices) (d : Buffers) (us : List ℤ) (a : Answer) : Type 0 where
  left : Buffers
  totals : List ℤ
  answers : KeepAnswers keeping c p d us a left totals

accepted_answers :
    (keeping : Bool) (c : Call) (p : Choices) (d : Buffers) (us : List ℤ) (a : Answer) (z : Buffers) (us' : List ℤ)
    → Accepted a
    → KeepAccepts keeping c p d us a z us'
    → KeepAnswers keeping c p d us a z us'
accepted_answers keeping c p d us Idle z us' idle f = f
accepted_answers keeping c p d us Held z us' held f = f
accepted_answers keeping c p d us Moved z us' moved f = f
accepted_answers keeping c p d us (Refused _) z us' x3 f = elim x3 [ ]

call_there :
    (mine : ℕ → Bool) (c : Call) (only : NamesOnly mine c) (keeping : Bool) (p : Choices) (b d : Buffers) (ts us : List ℤ) (a : Answer) (y : Buffers)
    (ts' : List ℤ)
    → SameView c.lattice.n (Passing mine) b ts d us
    → KeepAnswers keeping c p b ts a y ts'
    → MovedThere keeping c p d us a
call_there mine c only keeping p b d ts us a y ts' view f =
    subst (λ (q : Buffers). MovedThere keeping c p q us a) (sym (outputs_with view.outputs)) (go (outcome keeping c p b ts a y ts' f))
  where
    go : Outcome keeping c p b ts a y ts' → MovedThere keeping c p (with_spins b d.spins) us a
    go (inl (r, e, v)) = record {
      left = with_spins b d.spins;
      totals = us;
      answers = rw e (record {
        why = ((rules_isolated mine c only p b d.spins view.long view.rows keeping ts us view.totals_long view.totals).broken r).0 v.why;
        kept = refl;
        totals_kept = refl;
      });
    }
    go (inr (e, v)) = record {
      left = with_spins y (join_rows c.lattice.n mine d.spins y.spins);
      totals = carried keeping c.lattice d.spins us (join_rows c.lattice.n mine d.spins y.spins);
      answers = accepted_answers keeping c p (with_spins b d.spins) us a _ _ e (record {
        valid = valid;
        answers = moved_there mine c only p b d.spins view.long view.rows a y e v.answers;
        totals = carried_after keeping c.lattice _ us _ (λ k. ((kept_asked keeping c p (with_spins b d.spins) us valid).lengths k).totals);
      });
    }
      where
        valid : Kept (kept_rules keeping c p (with_spins b d.spins) us)
        valid = (rules_isolated mine c only p b d.spins view.long view.rows keeping ts us view.totals_long view.totals).kept.0 v.valid

record SweptThere (keeping : Bool) (w : Sweep) (d : Buffers) (us : List ℤ) (a : SweepAnswer) : Type 0 where
  left : Buffers
  totals : List ℤ
  answers : SweepKeepAnswers keeping w d us a left totals

sweep_there :
    (mine : ℕ → Bool) (w : Sweep) (only : ListsOnly mine w) (keeping : Bool) (b d : Buffers) (ts us : List ℤ) (a : SweepAnswer) (y : Buffers)
    (ts' : List ℤ)
    → SameView w.lattice.n (Passing mine) b ts d us
    → SweepKeepAnswers keeping w b ts a y ts'
    → SweptThere keeping w d us a
sweep_there mine w only keeping b d ts us a y ts' view f =
    subst (λ (q : Buffers). SweptThere keeping w q us a) (sym (outputs_with view.outputs)) (go a f)
  where
    verdicts : SameVerdict (swept_rules keeping w b ts) (swept_rules keeping w (with_spins b d.spins) us)
    verdicts = sweep_rules_isolated mine w only b d.spins view.long view.rows keeping ts us view.totals_long view.totals

    go : (a : SweepAnswer) → SweepKeepAnswers keeping w b ts a y ts' → SweptThere keeping w (with_spins b d.spins) us a
    go (Fault r) v = record {
      left = with_spins b d.spins;
      totals = us;
      answers = record { why = (verdicts.broken r).0 v.why; kept = refl; totals_kept = refl };
    }
    go (Swept i m h) v = record {
      left = with_spins y (join_rows w.lattice.n mine d.spins y.spins);
      totals = carried keeping w.lattice d.spins us (join_rows w.lattice.n mine d.spins y.spins);
      answers = record {
        valid = verdicts.kept.0 v.valid;
        answers = swept_there mine w only b d.spins view.long view.rows i m h y v.answers;
        totals = carried_after keeping w.lattice d.spins us (join_rows w.lattice.n mine d.spins y.spins)
            (λ k. ((verdicts.kept.0 v.valid).1.1.1.0 k).totals);
      };
    }

-- ---- the same of a team's call
owned_told : {o : Team} {s r : ℕ} {Same Told : Type 0} → Kept (owner_rules o s) → Told → Owned o s r Same Told
owned_told {o} {s} h x = record { told = λ _. x; refused = λ k w. absurd (broken_not_kept (owner_rules o s) k w h) }

owned_refused : {o : Team} {s r : ℕ} {Same Told : Type 0} (k : ℕ) → Broken (owner_rules o s) k → r ≡ k → Same → Owned o s r Same Told
owned_refused {o} {s} k w e x = record {
  told = λ h. absurd (broken_not_kept (owner_rules o s) k w h);
  refused = λ q v. (e ∙ broken_unique (owner_rules o s) k q w v, x);
}

record There (o : Team) (d : Buffers) (us : List ℤ) (r : Request) (a : Reply) : Type 0 where
  left : Buffers
  totals : List ℤ
  answered : Answered o d us left totals r a

answered_there :
    {o : Team} {b y : Buffers} {ts ts' : List ℤ} {r : Request} {a : Reply} (d : Buffers) (us : List ℤ)
    → SameView (lattice_of r).n (Ours o (lattice_of r).s) b ts d us
    → Answered o b ts y ts' r a
    → There o d us r a
answered_there {o} {b} {y} {ts} {ts'} d us v (Answered.move {keeping} {c} {p} {a} f) =
    owned_cases (λ h g.
    let z = call_there (own o) (read_call o c) (only_own o c) keeping p b d ts us a y ts' (view_fewer (own_ours h) v) g in
    record { left = z.left; totals = z.totals; answered = Answered.move (owned_told h z.answers) })
    (λ k w e _. record { left = d; totals = us; answered = Answered.move (owned_refused k w e (refl, refl)) }) f
answered_there {o} {b} {y} {ts} {ts'} d us v (Answered.sweep {keeping} {w} {a} f) =
    owned_cases (λ h g.
    let z = sweep_there (own o) (read_sweep o w) (lists_own o w) keeping b d ts us a y ts' (view_fewer (own_ours h) v) g in
    record { left = z.left; totals = z.totals; answered = Answered.sweep (owned_told h z.answers) })
    (λ k q e _. record { left = d; totals = us; answered = Answered.sweep (owned_refused k q e (refl, refl)) }) f
answered_there {o} {b} d us v (Answered.meter {g} {t} {a} f _) = record {
  left = d;
  totals = us;
  answered = Answered.meter
      (owned_cases (λ h x. owned_told h (metered_there o g b.spins d.spins v.long v.rows t a x)) (λ k w e x. owned_refused k w e x) f)
      (refl, refl);
}
answered_there {o} {b} {ts = ts} d us v (Answered.hand_over {g} {r} f _) = record {
  left = d;
  totals = us;
  answered = Answered.hand_over
      (verdict_there (hand_over_same o g b.spins d.spins v.long v.rows ts us v.totals_long v.totals) r f) (refl, refl);
}

-- ---- the day
module _ {n s : ℕ} {owners : List ℕ} (k : ℕ) where
  -- no other team calls
  abbrev pub Only : {xs ts ys us : List ℤ} → MixedDay n s owners xs ts ys us → Type 0
  Only MixedDay.over = Unit {0}
  Only (MixedDay.first t rest) = (t.team ≡ k) × Only rest

-- a day of the team k alone from the spins xs and the totals ts on, in which it makes those calls
record Alone (n s : ℕ) (owners : List ℕ) (k : ℕ) (xs ts : List ℤ) (qs : List Asked) : Type 0 where
  spins : List ℤ
  totals : List ℤ
  day : MixedDay n s owners xs ts spins totals
  only : Only k day
  asked : asks k day ≡ qs

-- and its first call
record TurnThere (n s : ℕ) (owners : List ℕ) (k : ℕ) (xs ts : List ℤ) (q : Asked) : Type 0 where
  spins : List ℤ
  totals : List ℤ
  turn : Turn n s owners xs ts spins totals
  mine : turn.team ≡ k
  asked : ask turn ≡ q

module _ {n s : ℕ} {owners : List ℕ} (k : ℕ) where
  turn_there :
      {xs ts ys us : List ℤ} (t : Turn n s owners xs ts ys us) (xs' ts' : List ℤ)
      → t.team ≡ k
      → LooksSame n s owners k xs ts xs' ts'
      → TurnThere n s owners k xs' ts' (ask t)
  turn_there {ts = ts} {us = us} t xs' ts' mine h = record {
    spins = z.left.spins;
    totals = z.totals;
    turn = record {
      team = k;
      request = t.request;
      reply = t.reply;
      lent = with_spins t.lent xs';
      left = z.left;
      sites = t.sites;
      systems = t.systems;
      before = refl;
      after = refl;
      answered = z.answered;
    };
    mine = refl;
    asked = refl;
  }
    where
      z : There (team_of owners k) (with_spins t.lent xs') ts' t.request t.reply
      z =
          answered_there (with_spins t.lent xs') ts' (view_of refl (rw (t.sites, t.systems, t.before) h))
          (subst (λ (e : ℕ). Answered (team_of owners e) t.lent ts t.left us t.request t.reply) mine t.answered)

  alone_there :
      {xs ts ys us : List ℤ} (m : MixedDay n s owners xs ts ys us) (xs' ts' : List ℤ)
      → LooksSame n s owners k xs ts xs' ts'
      → Alone n s owners k xs' ts' (asks k m)
  alone_there MixedDay.over xs' ts' h = record { spins = xs'; totals = ts'; day = MixedDay.over; only = tt; asked = refl }
  alone_there {xs} {ts} (MixedDay.first {ys = ys} {us = us} t rest) xs' ts' h = go (eqb t.team k) refl (alone_there rest)
    where
      go :
          (x : Bool)
          → eqb t.team k ≡ x
          → ((xs' ts' : List ℤ) → LooksSame n s owners k ys us xs' ts' → Alone n s owners k xs' ts' (asks k rest))
          → Alone n s owners k xs' ts' (cond x (ask t ∷ asks k rest) (asks k rest))
      go true e later = record {
        spins = l.spins;
        totals = l.totals;
        day = MixedDay.first z.turn l.day;
        only = (z.mine, l.only);
        asked = rw (eq-eqb z.turn.team k z.mine) (cc (z.asked, l.asked));
      }
        where
          mine : t.team ≡ k
          mine = eqb-true t.team k e

          z : TurnThere n s owners k xs' ts' (ask t)
          z = turn_there t xs' ts' mine h

          l : Alone n s owners k z.spins z.totals (asks k rest)
          l = later z.spins z.totals (turn_alike k t z.turn mine z.mine (sym z.asked) h).1
      go false e later = later xs' ts' (panel_on (panel_back (turn_passes k t (eqb-false t.team k e))) h)

-- For each mixed day m, each team k and each panel that looks to it as the day's does at the start, whatever the other's systems hold there: a day from
-- that panel on in which the team makes its calls of m and no other calls, is told the same, and has the same rows and totals at the end
pub record AsAlone (n s : ℕ) (owners : List ℕ) (k : ℕ) (xs ts : List ℤ) (qs : List Asked) (heard : List Told) (ys us : List ℤ) : Type 0 where
  pub spins : List ℤ
  pub totals : List ℤ
  pub day : MixedDay n s owners xs ts spins totals
  pub only : Only k day
  pub asked : asks k day ≡ qs
  pub same : SameDay n s owners k heard (tells k day) ys us spins totals

pub as_alone :
    {n s : ℕ} {owners : List ℕ} {xs ts ys us : List ℤ} (k : ℕ) (m : MixedDay n s owners xs ts ys us) (xs' ts' : List ℤ)
    → LooksSame n s owners k xs ts xs' ts'
    → AsAlone n s owners k xs' ts' (asks k m) (tells k m) ys us
as_alone k m xs' ts' h =
    let l = alone_there k m xs' ts' h in
    record { spins = l.spins; totals = l.totals; day = l.day; only = l.only; asked = l.asked; same = teams_apart k m l.day h (sym l.asked) }
