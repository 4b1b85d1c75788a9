-- One call of a team, of any kind. Its reply depends on what the team sees alone, and to the other team nothing happens.
use Rattle.std.specs.Prelude.{ℕ, ◌≡◌, refl, Bool, List, [], length, ℤ}
use Rattle.std.proofs.Common.{sym, ◌∙◌, ap, subst, ⊎_elim}
use Rattle.paper.specs.Answer.Cases.{Answer}
use Rattle.paper.specs.Answer.Cases.{SweepAnswer, SweepAnswer.Fault, SweepAnswer.Swept}
use Rattle.paper.specs.Answer.Cases.{MeterAnswer}
use Rattle.paper.specs.Panel.Input.{Lattice, Call, Choices, Buffers}
use Rattle.paper.specs.Refusal.Verdict.{Verdict}
use Rattle.paper.specs.Answer.Task.{Sweep}
use Rattle.paper.specs.Answer.Totals.{KeepAnswers, SweepKeepAnswers}
use Rattle.paper.specs.Answer.Team.{Team, Unchanged, own, Ours, read_call, read_sweep, TeamAnswers, TeamSweepAnswers, TeamMeterAnswers, hand_over_rules}
use Rattle.laws.specs.AnswersLocal.{with_spins}
use Rattle.laws.specs.Owners.{owned_cases}
use Rattle.laws.specs.SameView.{SameRows, SameTotals, SameView, outputs_with, totals_length}
use Rattle.laws.specs.NamedOnly.{Leaves, outcome, spins_length}
use Rattle.laws.specs.Isolated.{isolated, others_left, sweep_isolated, sweep_others_left, OtherTeam, other_rows_kept, other_totals_kept}
use Rattle.laws.specs.Isolated.{meter_isolated, hand_over_isolated}

-- ---- one call
-- a move or a sweep of any mode, form, systems and choices that keeps totals or not, the meter of a system, or the hand-over
pub data Request : Type 0 where
  move : Bool → Call → Choices → Request
  sweep : Bool → Sweep → Request
  meter : Lattice → ℕ → Request
  hand_over : Lattice → Request

pub data Reply : Type 0 where
  moved : Answer → Reply
  swept : SweepAnswer → Reply
  metered : MeterAnswer → Reply
  handed : ℕ → Reply

abbrev pub lattice_of : Request → Lattice
lattice_of (Request.move keeping c p) = c.lattice
lattice_of (Request.sweep keeping w) = w.lattice
lattice_of (Request.meter g t) = g
lattice_of (Request.hand_over g) = g

-- the reply that a team's request is given with the lent buffers b and totals ts, which then hold b' and ts'. The meter and the hand-over write nothing
pub data Answered (o : Team) (b : Buffers) (ts : List ℤ) (b' : Buffers) (ts' : List ℤ) : Request → Reply → Type 0 where
  move :
      {keeping : Bool} {c : Call} {p : Choices} {a : Answer}
      → TeamAnswers o keeping c p b ts a b' ts'
      → Answered o b ts b' ts' (Request.move keeping c p) (Reply.moved a)
  sweep :
      {keeping : Bool} {w : Sweep} {a : SweepAnswer}
      → TeamSweepAnswers o keeping w b ts a b' ts'
      → Answered o b ts b' ts' (Request.sweep keeping w) (Reply.swept a)
  meter :
      {g : Lattice} {t : ℕ} {a : MeterAnswer}
      → TeamMeterAnswers o g b.spins t a
      → Unchanged b ts b' ts'
      → Answered o b ts b' ts' (Request.meter g t) (Reply.metered a)
  hand_over :
      {g : Lattice} {r : ℕ}
      → Verdict (hand_over_rules o g b.spins ts) r
      → Unchanged b ts b' ts'
      → Answered o b ts b' ts' (Request.hand_over g) (Reply.handed r)

-- ---- two panels that look the same to the one who sees some systems only
pub record SamePanel (n : ℕ) (Which : ℕ → Type 0) (xs ts ys us : List ℤ) : Type 0 where
  pub long : length ys ≡ length xs
  pub rows : SameRows n Which xs ys
  pub totals_long : length us ≡ length ts
  pub totals : SameTotals Which ts us

module _ {n : ℕ} {Which : ℕ → Type 0} where
  pub panel_same : {xs ts : List ℤ} → SamePanel n Which xs ts xs ts
  panel_same = record { long = refl; rows = λ _ _ _ _. refl; totals_long = refl; totals = λ _ _. refl }

  panel_kept : {b b' : Buffers} {ts ts' : List ℤ} → Unchanged b ts b' ts' → SamePanel n Which b.spins ts b'.spins ts'
  panel_kept h = rw (h.0, h.1) panel_same

  pub panel_back : {xs ts ys us : List ℤ} → SamePanel n Which xs ts ys us → SamePanel n Which ys us xs ts
  panel_back h = record {
    long = sym h.long;
    rows = λ t i q hi. sym (h.rows t i q hi);
    totals_long = sym h.totals_long;
    totals = λ t q. sym (h.totals t q);
  }

  pub panel_on : {xs ts ys us zs vs : List ℤ} → SamePanel n Which xs ts ys us → SamePanel n Which ys us zs vs → SamePanel n Which xs ts zs vs
  panel_on h k = record {
    long = k.long ∙ h.long;
    rows = λ t i q hi. k.rows t i q hi ∙ h.rows t i q hi;
    totals_long = k.totals_long ∙ h.totals_long;
    totals = λ t q. k.totals t q ∙ h.totals t q;
  }

-- what is lent beside the spins
abbrev pub beside : Buffers → Buffers
beside b = with_spins b []

pub view_of :
    {n : ℕ} {Which : ℕ → Type 0} {b d : Buffers} {ts us : List ℤ}
    → beside b ≡ beside d
    → SamePanel n Which b.spins ts d.spins us
    → SameView n Which b ts d us
view_of e h = record {
  outputs = record {
    labels = sym (ap (λ (z : Buffers). z.labels) e);
    grey_labels = sym (ap (λ (z : Buffers). z.grey_labels) e);
    counts = sym (ap (λ (z : Buffers). z.counts) e);
    sizes = sym (ap (λ (z : Buffers). z.sizes) e);
    members = sym (ap (λ (z : Buffers). z.members) e);
    found = sym (ap (λ (z : Buffers). z.found) e);
    grey_found = sym (ap (λ (z : Buffers). z.grey_found) e);
  };
  long = h.long;
  rows = h.rows;
  totals_long = h.totals_long;
  totals = h.totals;
}

-- two replies to one request that look the same, and leave what looks the same
record Alike (n : ℕ) (Which : ℕ → Type 0) (a : Reply) (y : Buffers) (ts : List ℤ) (a' : Reply) (z : Buffers) (us : List ℤ) : Type 0 where
  reply : a ≡ a'
  outputs : beside y ≡ beside z
  panel : SamePanel n Which y.spins ts z.spins us

seen :
    {n : ℕ} {Which : ℕ → Type 0} {a a' : Reply} {y z : Buffers} {ts us : List ℤ}
    → a ≡ a'
    → SameView n Which y ts z us
    → Alike n Which a y ts a' z us
seen e v = record {
  reply = e;
  outputs = sym (ap beside (outputs_with v.outputs));
  panel = record { long = v.long; rows = v.rows; totals_long = v.totals_long; totals = v.totals };
}

-- ---- a call of the team itself
answered_alike :
    {o : Team} {b d y z : Buffers} {ts us ts' us' : List ℤ} {r : Request} {a a' : Reply}
    → SameView (lattice_of r).n (Ours o (lattice_of r).s) b ts d us
    → Answered o b ts y ts' r a
    → Answered o d us z us' r a'
    → Alike (lattice_of r).n (Ours o (lattice_of r).s) a y ts' a' z us'
answered_alike {o} {b} {d} {y} {z} {ts} {us} {ts'} {us'} v (Answered.move {keeping} {c} {p} {a} f) (Answered.move {a = a'} g) =
    let s = isolated o keeping c p b d ts us a a' y z ts' us' v f g in
    seen (ap Reply.moved s.answer) s.view
answered_alike {o} {b} {d} {y} {z} {ts} {us} {ts'} {us'} v (Answered.sweep {keeping} {w} {a} f) (Answered.sweep {a = a'} g) =
    let s = sweep_isolated o keeping w b d ts us a a' y z ts' us' v f g in
    seen (ap Reply.swept s.answer) s.view
answered_alike {o} {b} {d} v (Answered.meter {g} {t} {a} f h) (Answered.meter {a = a'} f' h') =
    seen (ap Reply.metered (meter_isolated o g b.spins d.spins v.long v.rows t a a' f f')) (rw (h.0, h.1, h'.0, h'.1) v)
answered_alike {o} {b} {d} {ts = ts} {us = us} v (Answered.hand_over {g} {r} f h) (Answered.hand_over {r = r'} f' h') =
    seen (ap Reply.handed (hand_over_isolated o g b.spins d.spins v.long v.rows ts us v.totals_long v.totals r r' f f'))
    (rw (h.0, h.1, h'.0, h'.1) v)

-- ---- a call of another team
-- each call leaves as many spins and totals as it is lent
record AsMany (xs ts ys us : List ℤ) : Type 0 where
  spins : length ys ≡ length xs
  totals : length us ≡ length ts

as_many_kept : {b b' : Buffers} {ts ts' : List ℤ} → Unchanged b ts b' ts' → AsMany b.spins ts b'.spins ts'
as_many_kept h = record { spins = ap (λ (z : Buffers). length z.spins) h.0; totals = ap length h.1 }

module _ (keeping : Bool) (b : Buffers) (ts : List ℤ) (y : Buffers) (us : List ℤ) where
  move_many : (c : Call) (p : Choices) (a : Answer) → KeepAnswers keeping c p b ts a y us → AsMany b.spins ts y.spins us
  move_many c p a f =
      ⊎_elim (λ (_, _, v). as_many_kept (v.kept, v.totals_kept))
      (λ (e, v). record {
        spins = spins_length c p b a y e v.answers;
        totals = totals_length keeping c.lattice b.spins ts y.spins us v.totals;
      })
      (outcome keeping c p b ts a y us f)

  sweep_many : (w : Sweep) (a : SweepAnswer) → SweepKeepAnswers keeping w b ts a y us → AsMany b.spins ts y.spins us
  sweep_many w (Fault r) f = as_many_kept (f.kept, f.totals_kept)
  sweep_many w (Swept i m h) f = record {
    spins = f.answers.lengths.spins;
    totals = totals_length keeping w.lattice b.spins ts y.spins us f.totals;
  }

module _ {e o : Team} (h : OtherTeam e o) where
  left_panel :
      {n s : ℕ} {xs ts ys us : List ℤ}
      → AsMany xs ts ys us
      → Leaves n (own e) xs ts ys us
      → SamePanel n (Ours o s) xs ts ys us
  left_panel m f = record { long = m.spins; rows = other_rows_kept h f; totals_long = m.totals; totals = other_totals_kept h f }

  answered_passes :
      {b y : Buffers} {ts us : List ℤ} {r : Request} {a : Reply}
      → Answered e b ts y us r a
      → SamePanel (lattice_of r).n (Ours o (lattice_of r).s) b.spins ts y.spins us
  answered_passes {b} {y} {ts} {us} (Answered.move {keeping} {c} {p} {a} f) =
      left_panel (owned_cases (λ _. move_many keeping b ts y us (read_call e c) p a) (λ _ _ _. as_many_kept) f) (others_left e keeping c p b ts a y us f)
  answered_passes {b} {y} {ts} {us} (Answered.sweep {keeping} {w} {a} f) =
      left_panel (owned_cases (λ _. sweep_many keeping b ts y us (read_sweep e w) a) (λ _ _ _. as_many_kept) f)
      (sweep_others_left e keeping w b ts a y us f)
  answered_passes (Answered.meter f q) = panel_kept q
  answered_passes (Answered.hand_over f q) = panel_kept q

-- ---- the call with what it is lent and leaves
abbrev pub team_of : List ℕ → ℕ → Team
team_of owners k = record { owners = owners; team = k }

-- before it the spins are xs and the totals ts, after it ys and us. It is on a panel of s systems of n sites, whatever its tables, couplings and pins, and
-- the outputs that it is lent. The team is one of the two, or is refused
pub record Turn (n s : ℕ) (owners : List ℕ) (xs ts ys us : List ℤ) : Type 0 where
  pub team : ℕ
  pub request : Request
  pub reply : Reply
  pub lent : Buffers
  pub left : Buffers
  pub sites : (lattice_of request).n ≡ n
  pub systems : (lattice_of request).s ≡ s
  pub before : lent.spins ≡ xs
  pub after : left.spins ≡ ys
  pub answered : Answered (team_of owners team) lent ts left us request reply

-- what a team does: what it asks, with the outputs that it lends
pub record Asked : Type 0 where
  pub request : Request
  pub outputs : Buffers

-- what it sees: what it is told, with what is left in those outputs
pub record Told : Type 0 where
  pub reply : Reply
  pub outputs : Buffers

module _ {n s : ℕ} {owners : List ℕ} where
  abbrev pub ask : {xs ts ys us : List ℤ} → Turn n s owners xs ts ys us → Asked
  ask t = record { request = t.request; outputs = beside t.lent }

  abbrev pub tell : {xs ts ys us : List ℤ} → Turn n s owners xs ts ys us → Told
  tell t = record { reply = t.reply; outputs = beside t.left }

-- to the team k two panels of s systems of n sites look the same: they are as long, and its own systems have the same rows and totals
abbrev pub LooksSame : (n s : ℕ) (owners : List ℕ) (k : ℕ) (xs ts ys us : List ℤ) → Type 0
LooksSame n s owners k = SamePanel n (Ours (team_of owners k) s)

module _ {n s : ℕ} {owners : List ℕ} (k : ℕ) where
  -- its own call on two such panels
  pub turn_alike :
      {xs ts ys us xs' ts' ys' us' : List ℤ} (t : Turn n s owners xs ts ys us) (t' : Turn n s owners xs' ts' ys' us')
      → t.team ≡ k
      → t'.team ≡ k
      → ask t ≡ ask t'
      → LooksSame n s owners k xs ts xs' ts'
      → (tell t ≡ tell t') × LooksSame n s owners k ys us ys' us'
  turn_alike {ts = ts} {us = us} {ts' = ts'} {us' = us'} t t' mine mine' same p = (
    (λ i. record { reply = l.reply i; outputs = l.outputs i }),
    rw (t.sites, t.systems, t.after, t'.after) at l.panel,
  )
    where
      f : Answered (team_of owners k) t.lent ts t.left us t.request t.reply
      f = subst (λ (e : ℕ). Answered (team_of owners e) t.lent ts t.left us t.request t.reply) mine t.answered

      f' : Answered (team_of owners k) t'.lent ts' t'.left us' t.request t'.reply
      f' =
          subst (λ (r : Request). Answered (team_of owners k) t'.lent ts' t'.left us' r t'.reply) (sym (ap (λ (q : Asked). q.request) same))
          (subst (λ (e : ℕ). Answered (team_of owners e) t'.lent ts' t'.left us' t'.request t'.reply) mine' t'.answered)

      l :
          Alike (lattice_of t.request).n (Ours (team_of owners k) (lattice_of t.request).s) t.reply t.left us t'.reply t'.left us'
      l = answered_alike (view_of (ap (λ (q : Asked). q.outputs) same) (rw (t.sites, t.systems, t.before, t'.before) p)) f f'

  -- another's call: to the team k nothing happens
  pub turn_passes : {xs ts ys us : List ℤ} (t : Turn n s owners xs ts ys us) → (t.team ≡ k → ⊥) → LooksSame n s owners k xs ts ys us
  turn_passes t other =
      let h : OtherTeam (team_of owners t.team) (team_of owners k) = record { owners = refl; other = λ e. other (sym e) } in
      rw (t.sites, t.systems, t.before, t.after) at (answered_passes h t.answered)
