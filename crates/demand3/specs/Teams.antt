-- Demand 3 of a team's calls (12/14), with calls of the other team between them: an accepted call of a team is the call as it stands, so `Demand3` and
-- `NamedRows` hold of it, and the law of the group's sum of totals.
use Rattle.std.specs.Prelude.{ℕ, ◌<◌, ◌≡◌, refl, ◌⊎◌, ◌≢◌, Bool, true, false, List, [], map, ℤ}
use Rattle.std.proofs.Common.{sym, ◌∙◌, ap, subst, inl, inr, arith}
use Rattle.lemmas.specs.Bools.{never}
use Rattle.lemmas.specs.Sums.{sum, sum_ext}
use Rattle.paper.specs.Answer.Cases.{Answer, Answer.Refused, Answer.Idle, Answer.Held, Answer.Moved}
use Rattle.paper.specs.Answer.Cases.{SweepAnswer.Swept}
use Rattle.paper.specs.Panel.Input.{Call, Choices, Buffers, spin, size, system}
use Rattle.paper.specs.Panel.Takes.{labels_by}
use Rattle.paper.specs.Refusal.Rule.{Kept, Broken, broken_not_kept}
use Rattle.paper.specs.Refusal.Rules.{Exact, Chosen}
use Rattle.paper.specs.Refusal.Kept.{Valid}
use Rattle.paper.specs.Answer.Move.{Accepted, Accepted.idle, Accepted.held, Accepted.moved, accepted_zero, Answers}
use Rattle.paper.specs.Answer.Same.{SameTaken}
use Rattle.paper.specs.Answer.Task.{Sweep, tasks, masked, task_call}
use Rattle.paper.specs.Answer.Totals.{total, kept_valid, KeepAnswers, SweepKeeps}
use Rattle.paper.specs.Answer.Team.{Team, owner_rules, Owned, own, read, read_call, read_sweep, TeamAnswers, TeamSweepAnswers}
use Rattle.laws.specs.Owners.{owners_tested, broken_some, group_own, group_same, order_same}
use Rattle.laws.specs.KeepsPlain.{none_kept}
use Rattle.laws.specs.SweepKept.{sweep_valid_of}
use Rattle.demand3.specs.Statement.{Reversible, Move, Such, SameRows, Demand3}
use Rattle.demand3.specs.Step.{valid_move}
use Rattle.demand3.specs.Theorem.{demand3}
use Rattle.demand3.specs.NamedRows.{NamedRows, named_rows}
use Rattle.demand3.specs.TotalsSum.{group_total_kept, task_total_kept}

-- ---- a call that answers the number 0 has passed the owner tests
owners_kept : {o : Team} {s r : ℕ} {Same Told : Type 0} → Owned o s r Same Told → r ≡ 0 → Kept (owner_rules o s)
owners_kept {o} {s} {r} w z = go (owners_tested o s)
  where
    go : Kept (owner_rules o s) ⊎ ((k : ℕ) × Broken (owner_rules o s) k) → Kept (owner_rules o s)
    go (inl k) = k
    go (inr (k, q)) = absurd (omega (arith, z, (w.refused k q).0, broken_some o s k q))

-- ---- the systems that are read are those that are named
module _ (o : Team) (c : Call) where
  module _ {p : Choices} {b : Buffers} (v : Valid (read_call o c) p b) where
    same_systems : (k : ℕ) → k < size c → system (read_call o c) k ≡ system c k
    same_systems = group_same o c.lattice.s c.group v.sound.ranged.size_high v.sound.grouped

    -- so it is the call as it stands
    as_it_stands : (q : Choices) → SameTaken c q (read_call o c) q
    as_it_stands q = record {
      call = record {
        mode = refl;
        form = refl;
        panel = record { n = refl; d = refl; s = refl; fwd = refl; bwd = refl; couplings = λ _. refl };
        pins = refl;
        members = refl;
        systems = same_systems;
        temperature = λ _. refl;
        cuts = λ _. refl;
        reference = λ _. refl;
        seed = λ _. refl;
      };
      choices = record { choices = λ _. refl; greys = λ _. refl };
    }

-- ---- a move of the team's call c, choosing p, that is not refused, keeping totals or not
pub record TeamMove (o : Team) (c : Call) (p : Choices) (b b' : Buffers) : Type 0 where
  pub keeping : Bool
  pub ts : List ℤ
  pub ts' : List ℤ
  pub answer : Answer
  pub accepted : Accepted answer
  pub answers : TeamAnswers o keeping c p b ts answer b' ts'

-- what demand 3 says of the team's calls: all of `Demand3` and `NamedRows`, since its moves are such moves of c
pub record TeamDemand3 (o : Team) (c : Call) : Type 0 where
  pub such : {p : Choices} {b b' : Buffers} → TeamMove o c p b b' → Such c p b b'
  pub demand : Demand3 c
  pub rows : NamedRows c
  -- its systems are the team's own, and a system that is not keeps its bytes
  pub owned : {p : Choices} {b b' : Buffers} → TeamMove o c p b b' → (k : ℕ) → k < size c → own o (system c k) ≡ true
  pub foreign :
      {p : Choices} {b b' : Buffers}
      → TeamMove o c p b b'
      → (i t : ℕ)
      → i < c.lattice.n
      → own o t ≡ false
      → spin c.lattice.n b'.spins t i ≡ spin c.lattice.n b.spins t i
  -- and the team's next call is accepted, whatever became of the other rows
  pub next :
      {p q : Choices} {b b' d : Buffers}
      → TeamMove o c p b b'
      → SameRows c d.spins b'.spins
      → Exact c q d
      → Chosen c q
      → (after : Buffers) × TeamMove o c q d after

module _ {o : Team} {c : Call} {p : Choices} {b b' : Buffers} (m : TeamMove o c p b b') where
  abbrev TeamTold : Answer → Type 0
  TeamTold a = KeepAnswers m.keeping (read_call o c) p b m.ts a b' m.ts'

  team_kept : Kept (owner_rules o c.lattice.s)
  team_kept = owners_kept m.answers (accepted_zero m.accepted)

  team_move : Move (read_call o c) p b b'
  team_move = go m.answer m.accepted (m.answers.told team_kept)
    where
      go : (a : Answer) → Accepted a → TeamTold a → Move (read_call o c) p b b'
      go Idle idle w = Move.idle w.answers
      go Held held w = Move.held w.answers
      go Moved moved w = Move.moved w.answers
      go (Refused _) x3 w = elim x3 [ ]

  team_valid : Valid (read_call o c) p b
  team_valid = valid_move team_move

  pub team_such : Such c p b b'
  team_such = record { call = read_call o c; choices = p; same = as_it_stands o c team_valid p; move = team_move }

  pub team_owned : (k : ℕ) → k < size c → own o (system c k) ≡ true
  team_owned = group_own o c.lattice.s c.group team_valid.sound.ranged.size_high team_valid.sound.grouped

-- back: a move of what is read is a move of the team's, which keeps no totals
module _ {o : Team} {c : Call} {q : Choices} {d e : Buffers} (k : Kept (owner_rules o c.lattice.s)) where
  pub answered : (a : Answer) → Accepted a → Answers (read_call o c) q d a e → TeamMove o c q d e
  answered a accepted w = record {
    keeping = false;
    ts = [];
    ts' = [];
    answer = a;
    accepted = accepted;
    answers = record {
      told = λ _. none_kept (read_call o c) q d [] a e w;
      refused = λ r h. absurd (broken_not_kept (owner_rules o c.lattice.s) r h k);
    };
  }

  team_back : Move (read_call o c) q d e → TeamMove o c q d e
  team_back (Move.idle w) = answered Idle idle w
  team_back (Move.held w) = answered Held held w
  team_back (Move.moved w) = answered Moved moved w

pub team_demand3 : (o : Team) (c : Call) → Reversible c.mode (size c) → labels_by c.form ≡ true → TeamDemand3 o c
team_demand3 o c v f = record {
  such = team_such;
  demand = demand3 c v f;
  rows = named_rows c v f;
  owned = team_owned;
  foreign = λ m i t hi e. ((demand3 c v f).keeps (team_such m)).others i t hi (apart m t e);
  next = λ m same exact chosen.
      let r = (demand3 c v f).next (team_such m) same exact chosen in
      (r.after, team_back (team_kept m) (r.move (as_it_stands o c (team_valid m) _)));
}
  where
    apart : {p : Choices} {b b' : Buffers} → TeamMove o c p b b' → (t : ℕ) → own o t ≡ false → (k : ℕ) → k < size c → t ≢ system c k
    apart m t e k h q = never (sym e ∙ (ap (own o) q ∙ team_owned m k h))

-- ---- the group's sum of totals, in any call of a team, whatever the totals were
abbrev group_total : Call → List ℤ → ℤ
group_total c zs = sum (size c) (λ k. total zs (system c k))

pub team_total_kept :
    (o : Team) (keeping : Bool) (c : Call) (p : Choices) (b b' : Buffers) (ts us : List ℤ) (a : Answer)
    → Reversible c.mode (size c)
    → TeamAnswers o keeping c p b ts a b' us
    → sum (size c) (λ k. total us (system c k)) ≡ sum (size c) (λ k. total ts (system c k))
team_total_kept o keeping c p b b' ts us a v w = go (owners_tested o c.lattice.s)
  where
    -- the totals are those of the systems that the call names
    named_so : Valid (read_call o c) p b → group_total (read_call o c) us ≡ group_total (read_call o c) ts → group_total c us ≡ group_total c ts
    named_so h e = sym (by_name us) ∙ (e ∙ by_name ts)
      where
        by_name : (zs : List ℤ) → group_total (read_call o c) zs ≡ group_total c zs
        by_name zs = sum_ext (size c) _ _ (λ k l. ap (total zs) (same_systems o c h k l))

    kept : (a : Answer) → KeepAnswers keeping (read_call o c) p b ts a b' us → group_total c us ≡ group_total c ts
    kept (Refused r) f = ap (group_total c) f.totals_kept
    kept Idle f = named_so (kept_valid keeping (read_call o c) p b ts f.valid) (group_total_kept keeping (read_call o c) p b b' ts us Idle v f)
    kept Held f = named_so (kept_valid keeping (read_call o c) p b ts f.valid) (group_total_kept keeping (read_call o c) p b b' ts us Held v f)
    kept Moved f = named_so (kept_valid keeping (read_call o c) p b ts f.valid) (group_total_kept keeping (read_call o c) p b b' ts us Moved v f)

    go : Kept (owner_rules o c.lattice.s) ⊎ ((k : ℕ) × Broken (owner_rules o c.lattice.s) k) → group_total c us ≡ group_total c ts
    go (inl k) = kept a (w.told k)
    go (inr (k, q)) = ap (group_total c) (w.refused k q).1.1

-- ---- and in an accepted sweep of a team that of each task's group: the order that is read is the order

-- the sweep with another order and number of systems
abbrev ordered : Sweep → ℕ → List ℕ → Sweep
ordered w systems order = record {
  mode = w.mode;
  form = w.form;
  lattice = w.lattice;
  pins = w.pins;
  systems = systems;
  t = w.t;
  r = w.r;
  members = w.members;
  order = order;
  masks = w.masks;
  temperatures = w.temperatures;
  cuts = w.cuts;
  references = w.references;
  seeds = w.seeds;
  choices = w.choices;
  greys = w.greys;
}

pub team_task_total_kept :
    (o : Team) (keeping : Bool) (w : Sweep) (b b' : Buffers) (ts us : List ℤ) (i m h : ℕ)
    → Reversible w.mode w.members
    → TeamSweepAnswers o keeping w b ts (Swept i m h) b' us
    → (k : ℕ)
    → k < tasks w
    → masked w k ≡ false
    → sum w.members (λ x. total us (system (task_call w k) x)) ≡ sum w.members (λ x. total ts (system (task_call w k) x))
team_task_total_kept o keeping w b b' ts us i m h v f k below unmasked =
    subst (λ (order : List ℕ). task_sum order us ≡ task_sum order ts) same (task_total_kept keeping (read_sweep o w) b b' ts us i m h v told k below unmasked)
  where
    task_sum : List ℕ → List ℤ → ℤ
    task_sum order zs = sum w.members (λ x. total zs (system (task_call (ordered w w.systems order) k) x))

    told : SweepKeeps keeping (read_sweep o w) b ts i m h b' us
    told = f.told (owners_kept f refl)

    same : map (read o w.lattice.s) w.order ≡ w.order
    same = order_same o w.lattice.s w.order (sweep_valid_of (read_sweep o w) b told.answers.valid).order
