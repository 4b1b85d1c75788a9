-- The owner tests are decided, and what a team's call is taken to name is its own wherever it is a system at all. One team's call has one answer.
use Rattle.std.specs.Prelude.{ℕ, zero, suc, ◌≤◌, ◌<◌, ◌≡◌, refl, ◌⊎◌, Bool, true, false, cond, List, [], ◌∷◌, map, ltb, length, get_or, ℤ}
use Rattle.std.proofs.Common.{sym, ◌∙◌, ap, subst, inl, inr, arith, eqb-true, lt-ltb, ext_get_or}
use Rattle.std.proofs.Math.Decide.{dec_lt}
use Rattle.std.proofs.Math.ListN.{get_or-eq_default}
use Rattle.lemmas.specs.Cells.{table_at}
use Rattle.lemmas.specs.Places.{Placed}
use Rattle.paper.specs.declared.Group.{Group}
use Rattle.paper.specs.Answer.Cases.{Answer, Answer.Refused, Answer.Idle, Answer.Held, Answer.Moved}
use Rattle.paper.specs.Answer.Cases.{MeterAnswer, MeterAnswer.Unmetered, MeterAnswer.Energy}
use Rattle.paper.specs.Answer.Cases.{SweepAnswer, SweepAnswer.Fault, SweepAnswer.Swept}
use Rattle.paper.specs.Panel.Input.{Lattice, Call, Choices, Buffers, member}
use Rattle.paper.specs.Refusal.Rule.{Kept, Broken}
use Rattle.paper.specs.Refusal.Rules.{group_names, order_names, Named, Listed, Grouped}
use Rattle.paper.specs.Answer.Number.{number, sweep_number, meter_number}
use Rattle.paper.specs.Answer.Meter.{meter_determined}
use Rattle.paper.specs.Answer.Task.{Sweep}
use Rattle.paper.specs.Answer.Totals.{swept_rules}
use Rattle.paper.specs.Answer.Team.{Team, OwnerBytes, owner_rules, Owned, own, Ours, own_count, read, read_group, read_call, read_sweep}
use Rattle.paper.specs.Answer.Team.{TeamAnswers, TeamSweepAnswers, TeamMeterAnswers}
use Rattle.laws.specs.Decided.{Decided, le, eq, iff, both, all, DecidedAll, refusal, verdict_by}
use Rattle.laws.specs.Pigeonhole.{all_listed}
use Rattle.laws.specs.KeepDetermined.{SameKept, keep_determined, SameSweepKept, sweep_keep_determined}

-- ---- decided
abbrev pub owner_bytes : (o : Team) → Decided (OwnerBytes o)
owner_bytes o =
    iff (λ (b, t). record { bytes = b; team = t }) (λ r. (r.bytes, r.team))
    (both (all (length o.owners) (λ t. le (get_or o.owners t 0) 1)) (le o.team 1))

abbrev pub owners_decided : (o : Team) (s : ℕ) → DecidedAll (owner_rules o s)
owners_decided o s = (eq (length o.owners) s, (owner_bytes o, tt))

-- they are kept, or one of them is the first that is broken, with its number
pub owners_tested : (o : Team) (s : ℕ) → Kept (owner_rules o s) ⊎ ((k : ℕ) × Broken (owner_rules o s) k)
owners_tested o s = go (refusal (owner_rules o s) (owners_decided o s)) refl
  where
    go : (r : ℕ) → refusal (owner_rules o s) (owners_decided o s) ≡ r → Kept (owner_rules o s) ⊎ ((k : ℕ) × Broken (owner_rules o s) k)
    go zero e = inl (rw e at (verdict_by (owner_rules o s) (owners_decided o s) refl))
    go (suc k) e = inr (suc k, rw e at (verdict_by (owner_rules o s) (owners_decided o s) refl))

-- each has a number
pub broken_some : (o : Team) (s k : ℕ) → Broken (owner_rules o s) k → 0 < k
broken_some o s k (inl w) = omega (arith, w.1)
broken_some o s k (inr (_, inl w)) = omega (arith, w.1)
broken_some o s k (inr (_, inr w)) = absurd w.1

-- ---- whose a system is
module _ {o : Team} {s : ℕ} (h : Kept (owner_rules o s)) where
  pub own_below : (t : ℕ) → own o t ≡ true → t < s
  own_below t e = go (dec_lt t (length o.owners))
    where
      go : Dec (t < length o.owners) → t < s
      go (yes l) = omega (arith, h.0)
      go (no l) =
          let far : get_or o.owners t 2 ≡ 2 = get_or-eq_default o.owners 2 (omega arith) in
          absurd (omega (arith, far, eqb-true (get_or o.owners t 2) o.team e, h.1.0.team))

pub own_ours : {o : Team} {s : ℕ} → Kept (owner_rules o s) → (t : ℕ) → own o t ≡ true → Ours o s t
own_ours h t e = (own_below h t e, e)

-- ---- what is read
pub read_own : (o : Team) (s t : ℕ) → read o s t < s → own o t ≡ true
read_own o s t = go (own o t)
  where
    go : (q : Bool) → cond q t s < s → q ≡ true
    go true l = refl
    go false l = absurd (omega arith)

pub own_read : (o : Team) (s t : ℕ) → own o t ≡ true → read o s t ≡ t
own_read o s t e = rw e

pub read_same : (o : Team) (s t : ℕ) → read o s t < s → read o s t ≡ t
read_same o s t l = own_read o s t (read_own o s t l)

-- ---- a group that is read
module _ (o : Team) (s : ℕ) (g : Group) (few : g.len ≤ 8) where
  pub member_read : (k : ℕ) → k < g.len → member (read_group o s g) k ≡ read o s (member g k)
  member_read k h = table_at 8 (λ k. cond (ltb k g.len) (read o s (member g k)) 0) k (omega arith) ∙ rw (lt-ltb k g.len h) refl

  pub group_own : Grouped s (read_group o s g) → (k : ℕ) → k < g.len → own o (member g k) ≡ true
  group_own l k h = read_own o s (member g k) (rw (member_read k h) at (l.below k h))

  pub group_same : Grouped s (read_group o s g) → (k : ℕ) → k < g.len → member (read_group o s g) k ≡ member g k
  group_same l k h = member_read k h ∙ own_read o s (member g k) (group_own l k h)

  -- so what it names is the team's own
  pub named_own : (t : ℕ) → Named s (group_names (read_group o s g)) t → own o t ≡ true
  named_own t n = subst (λ (u : ℕ). own o u ≡ true) (sym (read_same o s (member g n.place) low) ∙ is) (read_own o s (member g n.place) low)
    where
      is : read o s (member g n.place) ≡ t
      is = sym (member_read n.place n.below) ∙ n.is

      low : read o s (member g n.place) < s
      low = rw is n.inside

-- ---- an order that is read
map_at : (f : ℕ → ℕ) (xs : List ℕ) (k : ℕ) → k < length xs → get_or (map f xs) k 0 ≡ f (get_or xs k 0)
map_at f [] k h = absurd (omega arith)
map_at f (x ∷ xs) zero h = refl
map_at f (x ∷ xs) (suc k) h = map_at f xs k (omega arith)

map_length : (f : ℕ → ℕ) (xs : List ℕ) → length (map f xs) ≡ length xs
map_length f [] = refl
map_length f (x ∷ xs) = ap suc (map_length f xs)

module _ (o : Team) (s : ℕ) (order : List ℕ) where
  pub order_length : length (map (read o s) order) ≡ length order
  order_length = map_length (read o s) order

  pub order_read : (k : ℕ) → k < length order → get_or (map (read o s) order) k 0 ≡ read o s (get_or order k 0)
  order_read k h = map_at (read o s) order k h

  pub order_own : Listed s (order_names (map (read o s) order)) → (k : ℕ) → k < length order → own o (get_or order k 0) ≡ true
  order_own l k h = read_own o s (get_or order k 0) (rw (order_read k h) at (l.below k (rw order_length h)))

  -- an order of own systems is read as it is
  pub order_kept : ((k : ℕ) → k < length order → own o (get_or order k 0) ≡ true) → map (read o s) order ≡ order
  order_kept mine = ext_get_or 0 (map (read o s) order) order order_length at
    where
      at : (k : ℕ) → k < length (map (read o s) order) → get_or (map (read o s) order) k 0 ≡ get_or order k 0
      at k h = let q : k < length order = omega (arith, order_length) in order_read k q ∙ own_read o s (get_or order k 0) (mine k q)

  pub order_same : Listed s (order_names (map (read o s) order)) → map (read o s) order ≡ order
  order_same l = order_kept (order_own l)

  pub ordered_own : (t : ℕ) → Named s (order_names (map (read o s) order)) t → own o t ≡ true
  ordered_own t n = subst (λ (u : ℕ). own o u ≡ true) (sym (read_same o s (get_or order n.place 0) low) ∙ is) (read_own o s (get_or order n.place 0) low)
    where
      is : read o s (get_or order n.place 0) ≡ t
      is = sym (order_read n.place (omega (arith, order_length, n.below))) ∙ n.is

      low : read o s (get_or order n.place 0) < s
      low = rw is n.inside

  -- one that lists as many as the team has lists each of them; no two places list one
  pub order_all :
      Listed s (order_names (map (read o s) order))
      → length order ≡ own_count o s
      → (t : ℕ)
      → Ours o s t
      → Placed (length order) (λ k. get_or order k 0) t
  order_all l many t h = all_listed (length order) s (λ k. get_or order k 0) (own o) q.distinct q.below (order_own l) many t h.0 h.1
    where
      q : Listed s (order_names order)
      q = subst (λ (z : List ℕ). Listed s (order_names z)) (order_same l) l

-- so an accepted sweep is over all systems of its team
pub sweep_all :
    (o : Team) (keeping : Bool) (w : Sweep) (b : Buffers) (ts : List ℤ)
    → Kept (swept_rules keeping (read_sweep o w) b ts)
    → (t : ℕ)
    → Ours o w.lattice.s t
    → Placed (length w.order) (λ k. get_or w.order k 0) t
sweep_all o keeping w b ts k =
    order_all o w.lattice.s w.order k.1.1.1.1.1.1.1.0 (sym (order_length o w.lattice.s w.order) ∙ k.1.1.0.order)

-- ---- one answer
-- a call of a team is as it is told, or refused by an owner test
pub owned_cases :
    {o : Team} {s r : ℕ} {Same Told Result : Type 0}
    → (Kept (owner_rules o s) → Told → Result)
    → ((k : ℕ) → Broken (owner_rules o s) k → r ≡ k → Same → Result)
    → Owned o s r Same Told
    → Result
owned_cases {o} {s} {Result = Result} told refused f = go (owners_tested o s)
  where
    go : Kept (owner_rules o s) ⊎ ((k : ℕ) × Broken (owner_rules o s) k) → Result
    go (inl h) = told h (f.told h)
    go (inr (k, w)) = refused k w (f.refused k w).0 (f.refused k w).1

-- and of two of its calls on panels of one size both are, or the same test refuses both
pub owned_both :
    {o : Team} {s r q : ℕ} {Same Told Same' Told' Result : Type 0}
    → (Kept (owner_rules o s) → Told → Told' → Result)
    → ((k : ℕ) → 0 < k → r ≡ k → q ≡ k → Same → Same' → Result)
    → Owned o s r Same Told
    → Owned o s q Same' Told'
    → Result
owned_both {o} {s} told refused f g =
    owned_cases (λ h x. told h x (g.told h))
    (λ k w e x. refused k (broken_some o s k w) e (g.refused k w).0 x (g.refused k w).1) f

pub answer_of : (a : Answer) (k : ℕ) → 0 < k → number a ≡ k → a ≡ Refused k
answer_of (Refused r) k z e = ap Refused e
answer_of Idle k z e = absurd (omega arith)
answer_of Held k z e = absurd (omega arith)
answer_of Moved k z e = absurd (omega arith)

pub sweep_answer_of : (a : SweepAnswer) (k : ℕ) → 0 < k → sweep_number a ≡ k → a ≡ Fault k
sweep_answer_of (Fault r) k z e = ap Fault e
sweep_answer_of (Swept i m h) k z e = absurd (omega arith)

pub meter_answer_of : (a : MeterAnswer) (k : ℕ) → 0 < k → meter_number a ≡ k → a ≡ Unmetered k
meter_answer_of (Unmetered r) k z e = ap Unmetered e
meter_answer_of (Energy x) k z e = absurd (omega arith)

pub team_determined :
    (o : Team) (keeping : Bool) (c : Call) (p : Choices) (b : Buffers) (ts : List ℤ) (y z : Buffers) (us vs : List ℤ) (a a' : Answer)
    → TeamAnswers o keeping c p b ts a y us
    → TeamAnswers o keeping c p b ts a' z vs
    → SameKept a y us a' z vs
team_determined o keeping c p b ts y z us vs a a' =
    owned_both (λ _. keep_determined keeping (read_call o c) p b ts y z us vs a a')
    (λ k some e e' q q'. record {
      answer = answer_of a k some e ∙ sym (answer_of a' k some e');
      buffers = q.0 ∙ sym q'.0;
      totals = q.1 ∙ sym q'.1;
    })

pub team_sweep_determined :
    (o : Team) (keeping : Bool) (w : Sweep) (b : Buffers) (ts : List ℤ) (y z : Buffers) (us vs : List ℤ) (a a' : SweepAnswer)
    → TeamSweepAnswers o keeping w b ts a y us
    → TeamSweepAnswers o keeping w b ts a' z vs
    → SameSweepKept a y us a' z vs
team_sweep_determined o keeping w b ts y z us vs a a' =
    owned_both (λ _. sweep_keep_determined keeping (read_sweep o w) b ts y z us vs a a')
    (λ k some e e' q q'. record {
      answer = sweep_answer_of a k some e ∙ sym (sweep_answer_of a' k some e');
      buffers = q.0 ∙ sym q'.0;
      totals = q.1 ∙ sym q'.1;
    })

pub team_meter_determined :
    (o : Team) (g : Lattice) (xs : List ℤ) (t : ℕ) (a a' : MeterAnswer)
    → TeamMeterAnswers o g xs t a
    → TeamMeterAnswers o g xs t a'
    → a ≡ a'
team_meter_determined o g xs t a a' =
    owned_both (λ _. meter_determined g xs (read o g.s t) a a')
    (λ k some e e' _ _. meter_answer_of a k some e ∙ sym (meter_answer_of a' k some e'))
