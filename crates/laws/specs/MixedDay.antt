-- Neither team can see or disturb the other over a whole day: of calls of both, mixed in any order, each team's own are answered as they would be alone.
use Rattle.std.specs.Prelude.{ℕ, ◌≡◌, refl, Bool, true, false, cond, List, [], ◌∷◌, eqb, length, ℤ}
use Rattle.std.proofs.Common.{sym, ◌∙◌, ap, arith, eqb-true}
use Rattle.std.proofs.lemmas.Bool.{eqb-false}
use Rattle.paper.specs.declared.Keeps.TheVariants.{Totals}
use Rattle.paper.specs.Panel.Input.{Lattice, Buffers}
use Rattle.paper.specs.Panel.Takes.{keeps_by}
use Rattle.paper.specs.Refusal.Rules.{When}
use Rattle.paper.specs.Answer.Totals.{Current}
use Rattle.paper.specs.Answer.Team.{Ours, Unchanged}
use Rattle.laws.specs.TeamDay.{TeamCalled, TeamDay, team_totals_stay_current}
use Rattle.laws.specs.Turns.{Request, Reply, Answered, team_of}
use Rattle.laws.specs.Turns.{panel_same, panel_back, panel_on, Turn, Asked, Told, ask, tell, LooksSame, turn_alike, turn_passes}

-- any number of calls, each lent the spins and the totals that the one before left, whosever that was
pub data MixedDay (n s : ℕ) (owners : List ℕ) : (xs ts ys us : List ℤ) → Type 0 where
  over : {xs ts : List ℤ} → MixedDay n s owners xs ts xs ts
  first : {xs ts ys us zs vs : List ℤ} → Turn n s owners xs ts ys us → MixedDay n s owners ys us zs vs → MixedDay n s owners xs ts zs vs

-- the part of the team k in it: what it asks and what it is told in its own calls, in their order
module _ {n s : ℕ} {owners : List ℕ} (k : ℕ) where
  abbrev pub asks : {xs ts ys us : List ℤ} → MixedDay n s owners xs ts ys us → List Asked
  asks MixedDay.over = []
  asks (MixedDay.first t rest) = cond (eqb t.team k) (ask t ∷ asks rest) (asks rest)

  abbrev pub tells : {xs ts ys us : List ℤ} → MixedDay n s owners xs ts ys us → List Told
  tells MixedDay.over = []
  tells (MixedDay.first t rest) = cond (eqb t.team k) (tell t ∷ tells rest) (tells rest)

-- ---- what the team waits for
nil_cons : {A : Type 0} {x : A} {xs : List A} → ◌≡◌ {A = List A} [] (x ∷ xs) → ⊥
nil_cons e = let z : ◌≡◌ {A = ℕ} 0 _ = ap length e in absurd (omega arith)

abbrev head_or : {A : Type 0} → A → List A → A
head_or z [] = z
head_or z (x ∷ xs) = x

abbrev tail_of : {A : Type 0} → List A → List A
tail_of [] = []
tail_of (x ∷ xs) = xs

-- to the team nothing happens until a call of its own, and then the rest of the day is to come
data Next (n s : ℕ) (owners : List ℕ) (k : ℕ) (xs ts zs vs : List ℤ) (q : Asked) (qs : List Asked) : List Told → Type 0 where
  turn :
      {at since to onwards : List ℤ} (t : Turn n s owners at since to onwards) (rest : MixedDay n s owners to onwards zs vs)
      → LooksSame n s owners k xs ts at since
      → t.team ≡ k
      → ask t ≡ q
      → asks k rest ≡ qs
      → Next n s owners k xs ts zs vs q qs (tell t ∷ tells k rest)

-- two days of the team: what it is told in them is the same, and at their ends its own systems are
pub record SameDay (n s : ℕ) (owners : List ℕ) (k : ℕ) (heard heard' : List Told) (ys us ys' us' : List ℤ) : Type 0 where
  pub told : heard ≡ heard'
  pub panel : LooksSame n s owners k ys us ys' us'

module _ {n s : ℕ} {owners : List ℕ} (k : ℕ) where
  sooner :
      {xs ts ys us zs vs : List ℤ} {q : Asked} {qs : List Asked} {heard : List Told}
      → LooksSame n s owners k xs ts ys us
      → Next n s owners k ys us zs vs q qs heard
      → Next n s owners k xs ts zs vs q qs heard
  sooner h (Next.turn t rest w mine is later) = Next.turn t rest (panel_on h w) mine is later

  next :
      {xs ts zs vs : List ℤ} {q : Asked} {qs : List Asked} (m : MixedDay n s owners xs ts zs vs)
      → asks k m ≡ q ∷ qs
      → Next n s owners k xs ts zs vs q qs (tells k m)
  next MixedDay.over e = absurd (nil_cons e)
  next {xs} {ts} {zs} {vs} {q} {qs} (MixedDay.first {ys = ys} {us = us} t rest) e = go (eqb t.team k) refl e (next rest)
    where
      go :
          (x : Bool)
          → eqb t.team k ≡ x
          → cond x (ask t ∷ asks k rest) (asks k rest) ≡ q ∷ qs
          → (asks k rest ≡ q ∷ qs → Next n s owners k ys us zs vs q qs (tells k rest))
          → Next n s owners k xs ts zs vs q qs (cond x (tell t ∷ tells k rest) (tells k rest))
      go true h e later = Next.turn t rest panel_same (eqb-true t.team k h) (ap (head_or q) e) (ap tail_of e)
      go false h e later = sooner (turn_passes k t (eqb-false t.team k h)) (later e)

  -- a day in which the team asks nothing: it is told nothing, and its rows and totals stay
  pub passed_by : {xs ts zs vs : List ℤ} (m : MixedDay n s owners xs ts zs vs) → asks k m ≡ [] → SameDay n s owners k [] (tells k m) xs ts zs vs
  passed_by MixedDay.over e = record { told = refl; panel = panel_same }
  passed_by {xs} {ts} {zs} {vs} (MixedDay.first {ys = ys} {us = us} t rest) e = go (eqb t.team k) refl e (passed_by rest)
    where
      go :
          (x : Bool)
          → eqb t.team k ≡ x
          → cond x (ask t ∷ asks k rest) (asks k rest) ≡ []
          → (asks k rest ≡ [] → SameDay n s owners k [] (tells k rest) ys us zs vs)
          → SameDay n s owners k [] (cond x (tell t ∷ tells k rest) (tells k rest)) xs ts zs vs
      go true h e later = absurd (nil_cons (sym e))
      go false h e later = record { told = (later e).told; panel = panel_on (turn_passes k t (eqb-false t.team k h)) (later e).panel }

-- ---- two days in which it makes the same calls
module _ (n s : ℕ) (owners : List ℕ) (k : ℕ) where
  record Apart (qs : List Asked) : Type 0 where
    days :
        {xs ts ys us xs' ts' ys' us' : List ℤ} (m : MixedDay n s owners xs ts ys us) (m' : MixedDay n s owners xs' ts' ys' us')
        → asks k m ≡ qs
        → asks k m' ≡ qs
        → LooksSame n s owners k xs ts xs' ts'
        → SameDay n s owners k (tells k m) (tells k m') ys us ys' us'

  from_turn :
      {xs ts ys us xs' ts' ys' us' : List ℤ} {q : Asked} {qs : List Asked} {heard heard' : List Told}
      → Apart qs
      → LooksSame n s owners k xs ts xs' ts'
      → Next n s owners k xs ts ys us q qs heard
      → Next n s owners k xs' ts' ys' us' q qs heard'
      → SameDay n s owners k heard heard' ys us ys' us'
  from_turn later h (Next.turn t rest w mine is left) (Next.turn t' rest' w' mine' is' left') =
      let now = turn_alike k t t' mine mine' (is ∙ sym is') (panel_on (panel_back w) (panel_on h w')) in
      let then = later.days rest rest' left left' now.1 in
      record { told = cc (now.0, then.told); panel = then.panel }

  apart : (qs : List Asked) → Apart qs
  apart [] = record {
    days = λ m m' e e' h.
        let d = passed_by k m e in
        let d' = passed_by k m' e' in
        record { told = sym d.told ∙ d'.told; panel = panel_on (panel_back d.panel) (panel_on h d'.panel) };
  }
  apart (q ∷ qs) = record { days = λ m m' e e' h. from_turn (apart qs) h (next k m e) (next k m' e') }

-- Two days on one panel's sizes and owners, each of calls of both teams in any number and order, accepted and refused, such that the team k makes the same
-- calls in both with the same outputs lent, from panels that look the same to it. Then it is told the same, the same is left in its outputs, and the panels
-- look the same to it at the end, whatever the other team does in either. So the one may be a day in which no other calls, and AloneDay has one for each
pub teams_apart :
    {n s : ℕ} {owners : List ℕ} {xs ts ys us xs' ts' ys' us' : List ℤ} (k : ℕ) (m : MixedDay n s owners xs ts ys us)
    (m' : MixedDay n s owners xs' ts' ys' us')
    → LooksSame n s owners k xs ts xs' ts'
    → asks k m ≡ asks k m'
    → SameDay n s owners k (tells k m) (tells k m') ys us ys' us'
teams_apart {n} {s} {owners} k m m' h e = (apart n s owners k (asks k m')).days m m' e refl h

-- ---- totals
-- a call that keeps the totals on the lattice g where its form keeps any
abbrev pub KeepsOn : Lattice → Request → Type 0
KeepsOn g (Request.move keeping c p) = (keeping ≡ keeps_by Totals c.form) × When (keeps_by Totals c.form) (c.lattice ≡ g)
KeepsOn g (Request.sweep keeping w) = (keeping ≡ keeps_by Totals w.form) × When (keeps_by Totals w.form) (w.lattice ≡ g)
KeepsOn g (Request.meter l t) = Unit {0}
KeepsOn g (Request.hand_over l) = Unit {0}

module _
    (g : Lattice) {owners : List ℕ} {xs ts ys us zs vs : List ℤ} (b b' : Buffers) (before : b.spins ≡ xs) (after : b'.spins ≡ ys)
    (rest : TeamDay g owners ys us zs vs)
  where
    reads_only : Unchanged b ts b' us → TeamDay g owners xs ts zs vs
    reads_only h = rw (sym before ∙ (ap (λ (z : Buffers). z.spins) (sym h.0) ∙ after), sym h.1) rest

    called : (k : ℕ) (r : Request) (a : Reply) → KeepsOn g r → Answered (team_of owners k) b ts b' us r a → TeamDay g owners xs ts zs vs
    called k (Request.move keeping c p) (Reply.moved a) h (Answered.move f) =
        TeamDay.first (TeamCalled.move (team_of owners k) c p b b' a refl h.1 before after (rw h.0 at f)) rest
    called k (Request.sweep keeping w) (Reply.swept a) h (Answered.sweep f) =
        TeamDay.first (TeamCalled.sweep (team_of owners k) w b b' a refl h.1 before after (rw h.0 at f)) rest
    called k (Request.meter l t) (Reply.metered a) h (Answered.meter f q) = reads_only q
    called k (Request.hand_over l) (Reply.handed r) h (Answered.hand_over f q) = reads_only q
    called k (Request.move keeping c p) (Reply.swept a) h x4 = elim x4 [ ]
    called k (Request.move keeping c p) (Reply.metered a) h x5 = elim x5 [ ]
    called k (Request.move keeping c p) (Reply.handed r) h x6 = elim x6 [ ]
    called k (Request.sweep keeping w) (Reply.moved a) h x4 = elim x4 [ ]
    called k (Request.sweep keeping w) (Reply.metered a) h x5 = elim x5 [ ]
    called k (Request.sweep keeping w) (Reply.handed r) h x6 = elim x6 [ ]
    called k (Request.meter l t) (Reply.moved a) h x5 = elim x5 [ ]
    called k (Request.meter l t) (Reply.swept a) h x6 = elim x6 [ ]
    called k (Request.meter l t) (Reply.handed r) h x7 = elim x7 [ ]
    called k (Request.hand_over l) (Reply.moved a) h x6 = elim x6 [ ]
    called k (Request.hand_over l) (Reply.swept a) h x7 = elim x7 [ ]
    called k (Request.hand_over l) (Reply.metered a) h x8 = elim x8 [ ]

module _ {n s : ℕ} {owners : List ℕ} (g : Lattice) where
  abbrev pub KeepsAll : {xs ts ys us : List ℤ} → MixedDay n s owners xs ts ys us → Type 0
  KeepsAll MixedDay.over = Unit {0}
  KeepsAll (MixedDay.first t rest) = KeepsOn g t.request × KeepsAll rest

  as_team_day : {xs ts ys us : List ℤ} (m : MixedDay n s owners xs ts ys us) → KeepsAll m → TeamDay g owners xs ts ys us
  as_team_day MixedDay.over h = TeamDay.over
  as_team_day (MixedDay.first t rest) h =
      called g t.lent t.left t.before t.after (as_team_day rest h.1) t.team t.request t.reply h.0 t.answered

  -- over such a day the totals of each team that are current stay so
  pub mixed_totals_stay_current :
      {xs ts ys us : List ℤ} (k : ℕ) (m : MixedDay n s owners xs ts ys us)
      → KeepsAll m
      → Current (Ours (team_of owners k) g.s) g xs ts
      → Current (Ours (team_of owners k) g.s) g ys us
  mixed_totals_stay_current k m h c = team_totals_stay_current (team_of owners k) g owners c (as_team_day m h)
