-- Tasks in ascending order: what holds once the first K have run, and what one more does to it.
use Rattle.std.specs.Prelude.{ℕ, ◌+◌, ◌<◌, ◌≤◌, ◌≡◌, refl, ◌⊎◌, ◌≢◌, Bool, true, false, List, [], ◌∷◌, ℤ}
use Rattle.std.proofs.Common.{sym, ◌∙◌, ap, inl, inr, arith}
use Rattle.std.proofs.Math.Decide.{ℕ_discrete}
use Rattle.lemmas.specs.Counts.{bit, count_where}
use Rattle.paper.specs.Answer.Cases.{Answer, Answer.Refused, Answer.Idle, Answer.Held, Answer.Moved}
use Rattle.paper.specs.Panel.Input.{Call, Choices, Buffers, pattern, spin, system}
use Rattle.paper.specs.Refusal.Rule.{Kept}
use Rattle.paper.specs.Refusal.Rules.{rules}
use Rattle.paper.specs.Refusal.Kept.{Valid, valid_of, valid_kept}
use Rattle.paper.specs.Answer.Move.{Answers, Accepted, Accepted.idle, Accepted.held, Accepted.moved}
use Rattle.paper.specs.Answer.Task.{Sweep, tasks, masked, task_call, task_choices, areas, is_idle, is_moved, is_held}
use Rattle.paper.specs.Answer.Sweep.{common, sweep_rules, Done, SameLengths, Unwritten, Sweeps}
use Rattle.laws.specs.Determined.{must_accept}
use Rattle.laws.specs.Sanity.{others_kept}
use Rattle.laws.specs.Local.{Agree}
use Rattle.laws.specs.AnswersLocal.{with_spins, valid_there}
use Rattle.laws.specs.SweepTasks.{task_valid}
use Rattle.laws.specs.SweepAscending.{tasks_apart, done}
use Rattle.laws.specs.SweepCounts.{count_to, and_then, then_here, then_before, then_counts, skipped_counts}
use Rattle.outcomes.specs.Adding.{moved_count}

moved_by : {a : Answer} → Accepted a → moved_count a ≡ bit (is_moved a)
moved_by idle = refl
moved_by held = refl
moved_by moved = refl

-- the system t is in the group of no unmasked task below K
abbrev pub UnmovedTo : Sweep → ℕ → ℕ → Type 0
UnmovedTo w K t = (k x : ℕ) → k < K → masked w k ≡ false → x < w.members → t ≢ system (task_call w k) x

-- b before the sweep, b' when the first K tasks have run
pub record Ran (w : Sweep) (b : Buffers) (K idle moved held : ℕ) (b' : Buffers) : Type 0 where
  pub reached : K ≤ tasks w
  pub answered : ℕ → Answer
  pub idles : idle ≡ count_to is_idle w answered K
  pub moveds : moved ≡ count_to is_moved w answered K
  pub helds : held ≡ count_to is_held w answered K
  pub lengths : SameLengths b b'
  pub each : (k : ℕ) → k < K → masked w k ≡ false → Done w b b' k (answered k)
  pub still : (k : ℕ) → k < tasks w → (masked w k ≡ true) ⊎ (K ≤ k) → areas w b' b.spins k ≡ areas w b b.spins k
  pub others : (i t : ℕ) → i < w.lattice.n → UnmovedTo w K t → spin w.lattice.n b'.spins t i ≡ spin w.lattice.n b.spins t i
  pub kept : Unwritten (common w) b b'

-- the task K alone changed b to b' and answered a
pub record Steps (w : Sweep) (K : ℕ) (b : Buffers) (a : Answer) (b' : Buffers) : Type 0 where
  pub answers : Answers (task_call w K) (task_choices w K) (areas w b b.spins K) a (areas w b' b'.spins K)
  pub lengths : SameLengths b b'
  pub apart : (k : ℕ) → k ≢ K → areas w b' b.spins k ≡ areas w b b.spins k
  pub kept : Unwritten (common w) b b'

-- areas do not depend on the spins beside them
respun : (w : Sweep) (b b' : Buffers) (xs ys : List ℤ) (k : ℕ) → areas w b' xs k ≡ areas w b xs k → areas w b' ys k ≡ areas w b ys k
respun w b b' xs ys k e = ap (λ (z : Buffers). with_spins z ys) e

same_lengths : (b : Buffers) → SameLengths b b
same_lengths b = record {
  spins = refl;
  labels = refl;
  counts = refl;
  sizes = refl;
  grey_labels = refl;
  members = refl;
  found = refl;
  grey_found = refl;
}

then_lengths : {a b c : Buffers} → SameLengths a b → SameLengths b c → SameLengths a c
then_lengths p q = record {
  spins = q.spins ∙ p.spins;
  labels = q.labels ∙ p.labels;
  counts = q.counts ∙ p.counts;
  sizes = q.sizes ∙ p.sizes;
  grey_labels = q.grey_labels ∙ p.grey_labels;
  members = q.members ∙ p.members;
  found = q.found ∙ p.found;
  grey_found = q.grey_found ∙ p.grey_found;
}

pub unwritten_none : (c : Call) (b : Buffers) → Unwritten c b b
unwritten_none c b = record {
  labels = λ _. refl;
  grey_labels = λ _. refl;
  counts = λ _. refl;
  sizes = λ _. refl;
  members = λ _. refl;
  found = λ _. refl;
  grey_found = λ _. refl;
}

then_unwritten : {c : Call} {x y z : Buffers} → Unwritten c x y → Unwritten c y z → Unwritten c x z
then_unwritten p q = record {
  labels = λ e. q.labels e ∙ p.labels e;
  grey_labels = λ e. q.grey_labels e ∙ p.grey_labels e;
  counts = λ e. q.counts e ∙ p.counts e;
  sizes = λ e. q.sizes e ∙ p.sizes e;
  members = λ e. q.members e ∙ p.members e;
  found = λ e. q.found e ∙ p.found e;
  grey_found = λ e. q.grey_found e ∙ p.grey_found e;
}

count_start : (f : ℕ → Bool) → 0 ≡ count_where f 0
unfolding count_where
count_start f = refl

accept : (c : Call) (p : Choices) (b b' : Buffers) (a : Answer) → Kept (rules c p b) → Answers c p b a b' → Accepted a
accept c p b b' (Refused r) v q = absurd (must_accept c p b b' r q v)
accept c p b b' Idle v q = idle
accept c p b b' Held v q = held
accept c p b b' Moved v q = moved

module _ (w : Sweep) (b : Buffers) (v : Kept (sweep_rules w b)) where
  pub ran_none : Ran w b 0 0 0 0 b
  ran_none = record {
    reached = omega arith;
    answered = λ _. Idle;
    idles = count_start _;
    moveds = count_start _;
    helds = count_start _;
    lengths = same_lengths b;
    each = λ k l e. absurd (omega arith);
    still = λ k l q. refl;
    others = λ i t l o. refl;
    kept = unwritten_none (common w) b;
  }

  pub ran_all : (ni nm nh : ℕ) (b' : Buffers) → Ran w b (tasks w) ni nm nh b' → Sweeps w b ni nm nh b'
  ran_all ni nm nh b' h = record {
    valid = v;
    answered = h.answered;
    counts = λ i. h.idles i ∷ h.moveds i ∷ h.helds i ∷ [];
    lengths = h.lengths;
    each = h.each;
    skipped = λ k l e. h.still k l (inl e);
    others = h.others;
    kept = h.kept;
  }

  module _ (K ni nm nh : ℕ) (b' : Buffers) (below : K < tasks w) (h : Ran w b K ni nm nh b') where
    -- masked or still to come, also before this task
    weaker : (k : ℕ) → (masked w k ≡ true) ⊎ (K + 1 ≤ k) → (masked w k ≡ true) ⊎ (K ≤ k)
    weaker k (inl q) = inl q
    weaker k (inr q) = inr (omega arith)

    pub ran_masked : masked w K ≡ true → Ran w b (K + 1) ni nm nh b'
    ran_masked e = record {
      reached = omega arith;
      answered = h.answered;
      idles = h.idles ∙ sym (skipped_counts is_idle w h.answered K e);
      moveds = h.moveds ∙ sym (skipped_counts is_moved w h.answered K e);
      helds = h.helds ∙ sym (skipped_counts is_held w h.answered K e);
      lengths = h.lengths;
      each = λ k l q. before k l q (ℕ_discrete k K);
      still = λ k l q. h.still k l (weaker k q);
      others = λ i t l o. h.others i t l (λ k x q. o k x (omega arith));
      kept = h.kept;
    }
      where
        before : (k : ℕ) → k < K + 1 → masked w k ≡ false → Dec (k ≡ K) → Done w b b' k (h.answered k)
        before k l q (yes r) = absurd (let z : ◌≡◌ {A = ℕ} 0 1 = cc (q, e, r) in omega arith)
        before k l q (no r) = h.each k (omega arith) q

    -- a task that has not run meets its rows as they were before the sweep
    pub own_rows : (i : ℕ) → i < w.lattice.n → Agree w.members (pattern (task_call w K) b'.spins i) (pattern (task_call w K) b.spins i)
    own_rows i hi x hx =
        h.others i (system (task_call w K) x) hi (λ k y l q hy e. let z = tasks_apart w b v K k x y below (omega arith) hx hy e in omega (arith, z))

    own_areas : areas w b' b'.spins K ≡ with_spins (areas w b b.spins K) b'.spins
    own_areas = respun w b b' b.spins b'.spins K (h.still K below (inr (omega arith)))

    -- so it is accepted
    pub ran_valid : masked w K ≡ false → Valid (task_call w K) (task_choices w K) (areas w b' b'.spins K)
    ran_valid e =
        rw own_areas
        (valid_there (record { long = h.lengths.spins; same = own_rows })
        (valid_of (task_call w K) (task_choices w K) (areas w b b.spins K) (task_valid w b v K below e)))

    module _ (e : masked w K ≡ false) (a : Answer) (b'' : Buffers) (s : Steps w K b' a b'') where
      accepted : Accepted a
      accepted =
          accept (task_call w K) (task_choices w K) (areas w b' b'.spins K) (areas w b'' b''.spins K) a
          (valid_kept (task_call w K) (task_choices w K) (areas w b' b'.spins K) (ran_valid e)) s.answers

      -- the other systems' rows
      out :
          (i t : ℕ) → i < w.lattice.n → ((x : ℕ) → x < w.members → t ≢ system (task_call w K) x)
          → spin w.lattice.n b''.spins t i ≡ spin w.lattice.n b'.spins t i
      out = others_kept (task_call w K) (task_choices w K) (areas w b' b'.spins K) (areas w b'' b''.spins K) a s.answers

      done_now : Done w b b'' K a
      done_now =
          done w b b'' K a b'.spins b''.spins (sym h.lengths.spins) s.lengths.spins
          (λ i hi x hx. sym (own_rows i hi x hx)) accepted (rw own_areas at s.answers) (λ i x hi hx. refl)

      done_before : (k : ℕ) → k < K → masked w k ≡ false → Done w b b'' k (h.answered k)
      done_before k l q =
          let d = h.each k l q in
          record {
            spins = d.spins;
            answers = rw (respun w b' b'' b'.spins d.spins k (s.apart k (λ z. omega (arith, z)))) d.answers;
            rows =
                λ i x hi hx. out i (system (task_call w k) x) hi
                (λ y hy z. let r = tasks_apart w b v k K x y (omega arith) below hx hy z in omega (arith, r))
                ∙ d.rows i x hi hx;
          }

      -- the counts go on by the task's answer
      more : (kind : Answer → Bool) (m : ℕ) → m ≡ count_to kind w h.answered K → m + bit (kind a) ≡ count_to kind w (and_then h.answered K a) (K + 1)
      more kind m q = ap (λ (z : ℕ). z + bit (kind a)) q ∙ sym (then_counts h.answered K a kind w e)

      pub ran_more : Ran w b (K + 1) (ni + bit (is_idle a)) (nm + moved_count a) (nh + bit (is_held a)) b''
      ran_more = record {
        reached = omega arith;
        answered = and_then h.answered K a;
        idles = more is_idle ni h.idles;
        moveds = ap (λ (z : ℕ). nm + z) (moved_by accepted) ∙ more is_moved nm h.moveds;
        helds = more is_held nh h.helds;
        lengths = then_lengths h.lengths s.lengths;
        each = λ k l q. at k l q (ℕ_discrete k K);
        still = λ k l q. respun w b' b'' b'.spins b.spins k (s.apart k (ahead k q)) ∙ h.still k l (weaker k q);
        others = λ i t l o. out i t l (λ x q. o K x (omega arith) e q) ∙ h.others i t l (λ k x q. o k x (omega arith));
        kept = then_unwritten h.kept s.kept;
      }
        where
          at : (k : ℕ) → k < K + 1 → masked w k ≡ false → Dec (k ≡ K) → Done w b b'' k (and_then h.answered K a k)
          at k l q (yes r) = rw r (rw (then_here h.answered K a) done_now)
          at k l q (no r) = rw (then_before h.answered K a k r) (done_before k (omega arith) q)

          ahead : (k : ℕ) → (masked w k ≡ true) ⊎ (K + 1 ≤ k) → k ≢ K
          ahead k (inl q) r = let z : ◌≡◌ {A = ℕ} 0 1 = cc (q, e, r) in omega arith
          ahead k (inr q) r = omega arith
