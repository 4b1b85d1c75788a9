-- With one owner everywhere, every row of spins and every total within its limit, each call is what it was before there were teams.
use Rattle.std.specs.Prelude.{ℕ, ◌≤◌, ◌<◌, ◌≡◌, refl, ◌↔◌, Bool, true, List, [], ◌∷◌, length, ℤ, pos, nat_abs}
use Rattle.std.proofs.Common.{sym, ◌∙◌, ap, arith}
use Rattle.std.proofs.Math.Decide.{dec_lt}
use Rattle.std.proofs.Math.ListN.{get_or-eq_default}
use Rattle.paper.specs.declared.Group.{Group}
use Rattle.paper.specs.Answer.Cases.{Answer, Answer.Refused, Answer.Idle, Answer.Held, Answer.Moved}
use Rattle.paper.specs.Answer.Cases.{MeterAnswer, MeterAnswer.Unmetered, MeterAnswer.Energy}
use Rattle.paper.specs.Panel.Input.{Lattice, Call, Choices, Buffers, member, size}
use Rattle.paper.specs.Refusal.Rule.{Kept, broken_not_kept}
use Rattle.paper.specs.Refusal.Rules.{When, AllSystems, Spins, Names, group_names, Named, Grouped, choice_rules}
use Rattle.paper.specs.Answer.Totals.{total, SmallTotals, kept_rules, kept_valid, KeepAccepts, KeepAnswers}
use Rattle.paper.specs.Site.Energy.{energy}
use Rattle.paper.specs.Answer.Meter.{meter_rules, MeterAnswers}
use Rattle.paper.specs.Answer.Move.{Answers}
use Rattle.paper.specs.Answer.Same.{SameTaken}
use Rattle.paper.specs.Answer.Team.{Team, owner_rules, Owned, own, read, read_group, read_call, TeamAnswers, TeamMeterAnswers, hand_over_rules}
use Rattle.laws.specs.Matched.{SameVerdict, unchanged, reworded, reworded_if, behind, behind_if, joined_same, matched_same, past}
use Rattle.laws.specs.UntakenRules.{choice_rules_same}
use Rattle.laws.specs.UntakenAnswers.{untaken}
use Rattle.laws.specs.Owners.{read_same, own_read, member_read, group_same}
use Rattle.laws.specs.BeforeTeams.{AllSmall, rules_before, AcceptsBefore, AnswersBefore}
use Rattle.laws.specs.BeforeTeams.{meter_rules_before, MeterAnswersBefore, hand_over_rules_before}

-- the owner bytes are in order, and all name the caller's team
pub record OneOwner (o : Team) (s : ℕ) : Type 0 where
  pub bytes : Kept (owner_rules o s)
  pub all : (t : ℕ) → t < s → own o t ≡ true

-- no owner test refuses
pub as_told : {o : Team} {s r : ℕ} {Same Told : Type 0} → OneOwner o s → Owned o s r Same Told ↔ Told
as_told {o} {s} h = (
  (λ f. f.told h.bytes),
  (λ f. record { told = λ _. f; refused = λ k w. absurd (broken_not_kept (owner_rules o s) k w h.bytes) }),
)

pub both_ways : {P Q R : Type 0} → P ↔ Q → Q ↔ R → P ↔ R
both_ways e f = ((λ p. f.0 (e.0 p)), (λ r. e.1 (f.1 r)))

-- ---- 3 and 14 of all systems, where these pass, and of those that are named
pub spins_all : (n s : ℕ) (names : Names) (xs : List ℤ) → Spins n (AllSystems s) xs → Spins n (Named s names) xs ↔ Spins n (AllSystems s) xs
spins_all n s names xs all = ((λ _. all), (λ _ t i q hi. all t i q.inside hi))

any_small : (ts : List ℤ) → AllSmall ts → (t : ℕ) → nat_abs (total ts t) ≤ 16384000000
any_small ts h t = go (dec_lt t (length ts))
  where
    go : Dec (t < length ts) → nat_abs (total ts t) ≤ 16384000000
    go (yes l) = h t l
    go (no l) =
        let far : length ts ≤ t = omega arith in
        let none : nat_abs (total ts t) ≡ 0 = ap nat_abs (get_or-eq_default ts (pos 0) far) in
        omega (arith, none)

pub small_all :
    (keeping : Bool) (s : ℕ) (names : Names) (ts : List ℤ)
    → When keeping (AllSmall ts)
    → When keeping (SmallTotals (Named s names) ts) ↔ When keeping (AllSmall ts)
small_all keeping s names ts all = ((λ _. all), (λ _ e t q. any_small ts (all e) t))

-- ---- a move
module _ (o : Team) (s : ℕ) (one : OneOwner o s) (g : Group) (few : g.len ≤ 8) where
  -- a group of systems is read as itself
  read_member : (k : ℕ) → k < g.len → member g k < s → member (read_group o s g) k ≡ member g k
  read_member k h l = member_read o s g few k h ∙ own_read o s (member g k) (one.all (member g k) l)

  grouped_all : Grouped s (read_group o s g) ↔ Grouped s g
  grouped_all = (
    (λ l. record {
      below = λ k h. rw (group_same o s g few l k h) at (l.below k h);
      distinct = λ j k hj hk e. l.distinct j k hj hk (group_same o s g few l j hj ∙ (e ∙ sym (group_same o s g few l k hk)));
    }),
    (λ l. record {
      below = λ k h. rw (read_member k h (l.below k h)) (l.below k h);
      distinct = λ j k hj hk e.
          l.distinct j k hj hk (sym (read_member j hj (l.below j hj)) ∙ (e ∙ read_member k hk (l.below k hk)));
    }),
  )

module _ (o : Team) (c : Call) (one : OneOwner o c.lattice.s) (p : Choices) where
  -- nothing that is taken differs
  taken : size c ≤ 8 → Grouped c.lattice.s (read_group o c.lattice.s c.group) → SameTaken (read_call o c) p c p
  taken few l = record {
    call = record {
      mode = refl;
      form = refl;
      panel = record { n = refl; d = refl; s = refl; fwd = refl; bwd = refl; couplings = λ _. refl };
      pins = refl;
      members = refl;
      systems = λ k h. sym (group_same o c.lattice.s c.group few l k h);
      temperature = λ _. refl;
      cuts = λ _. refl;
      reference = λ _. refl;
      seed = λ _. refl;
    };
    choices = record { choices = λ _. refl; greys = λ _. refl };
  }

  module _
      (keeping : Bool) (b : Buffers) (ts : List ℤ) (spins : Spins c.lattice.n (AllSystems c.lattice.s) b.spins)
      (small : When keeping (AllSmall ts))
    where
      rules_as_before : SameVerdict (kept_rules keeping (read_call o c) p b ts) (rules_before keeping c p b ts)
      rules_as_before =
          behind_if _ _ _ (λ ranged.
          behind _ _ _
          (behind _ _ _
          (behind _ _ _
          (reworded 3 _ _ (spins_all c.lattice.n c.lattice.s _ b.spins spins)
          (behind _ _ _
          (behind _ _ _
          (reworded_if 5 _ _ (grouped_all o c.lattice.s one c.group ranged.size_high) (λ grouped.
          behind _ _ _
          (behind _ _ _
          (behind _ _ _
          (joined_same (choice_rules (read_call o c) p b.spins) (choice_rules c p b.spins) _ _
          (matched_same (choice_rules (read_call o c) p b.spins) (choice_rules c p b.spins)
          (choice_rules_same (taken ranged.size_high grouped) b.spins))
          (reworded 14 _ _ (small_all keeping c.lattice.s (group_names (read_call o c).group) ts small) (unchanged [])))))))))))))

      same_answers : (a : Answer) (b' : Buffers) → Kept (kept_rules keeping (read_call o c) p b ts) → Answers (read_call o c) p b a b' ↔ Answers c p b a b'
      same_answers a b' k =
          let v = (kept_valid keeping (read_call o c) p b ts k).sound in
          untaken (taken v.ranged.size_high v.grouped) b a b'

      accepted :
          (a : Answer) (b' : Buffers) (ts' : List ℤ)
          → KeepAccepts keeping (read_call o c) p b ts a b' ts' ↔ AcceptsBefore keeping c p b ts a b' ts'
      accepted a b' ts' = (
        (λ f. record { valid = rules_as_before.kept.0 f.valid; answers = (same_answers a b' f.valid).0 f.answers; totals = f.totals }),
        (λ f.
            let k = rules_as_before.kept.1 f.valid in
            record { valid = k; answers = (same_answers a b' k).1 f.answers; totals = f.totals }),
      )

      move_as_before :
          (a : Answer) (b' : Buffers) (ts' : List ℤ)
          → KeepAnswers keeping (read_call o c) p b ts a b' ts' ↔ AnswersBefore keeping c p b ts a b' ts'
      move_as_before (Refused r) b' ts' = (
        (λ f. record { why = (rules_as_before.broken r).0 f.why; kept = f.kept; totals_kept = f.totals_kept }),
        (λ f. record { why = (rules_as_before.broken r).1 f.why; kept = f.kept; totals_kept = f.totals_kept }),
      )
      move_as_before Idle b' ts' = accepted Idle b' ts'
      move_as_before Held b' ts' = accepted Held b' ts'
      move_as_before Moved b' ts' = accepted Moved b' ts'

      pub one_owner :
          (a : Answer) (b' : Buffers) (ts' : List ℤ)
          → TeamAnswers o keeping c p b ts a b' ts' ↔ AnswersBefore keeping c p b ts a b' ts'
      one_owner a b' ts' = both_ways (as_told one) (move_as_before a b' ts')

-- ---- the meter
module _ (o : Team) (g : Lattice) (one : OneOwner o g.s) (xs : List ℤ) where
  -- a number is read as a system's just if it is one
  read_below : (t : ℕ) → read o g.s t < g.s ↔ t < g.s
  read_below t = (
    (λ l. rw (read_same o g.s t l) at l),
    (λ l. rw (own_read o g.s t (one.all t l)) l),
  )

  module _ (spins : Spins g.n (AllSystems g.s) xs) (t : ℕ) where
    meter_rules_as_before : SameVerdict (meter_rules g xs (read o g.s t)) (meter_rules_before g xs t)
    meter_rules_as_before =
        behind _ _ _
        (behind _ _ _
        (reworded 3 _ _ (spins_all g.n g.s _ xs spins)
        (behind _ _ _
        (reworded 5 _ _ (read_below t) (unchanged _)))))

    same_energy : Kept (meter_rules_before g xs t) → energy g xs (read o g.s t) ≡ energy g xs t
    same_energy k = ap (energy g xs) (own_read o g.s t (one.all t k.1.1.1.1.0))

    meter_told : (a : MeterAnswer) → MeterAnswers g xs (read o g.s t) a ↔ MeterAnswersBefore g xs t a
    meter_told (Unmetered r) = meter_rules_as_before.broken r
    meter_told (Energy e) = (
      (λ f.
          let k = meter_rules_as_before.kept.0 f.valid in
          record { valid = k; is = f.is ∙ ap (λ (x : ℤ). x ∷ []) (same_energy k) }),
      (λ f. record { valid = meter_rules_as_before.kept.1 f.valid; is = f.is ∙ sym (ap (λ (x : ℤ). x ∷ []) (same_energy f.valid)) }),
    )

    pub one_owner_meter : (a : MeterAnswer) → TeamMeterAnswers o g xs t a ↔ MeterAnswersBefore g xs t a
    one_owner_meter a = both_ways (as_told one) (meter_told a)

  -- ---- the hand-over, on any rows and totals
  pub one_owner_hand_over : (ts : List ℤ) → SameVerdict (hand_over_rules o g xs ts) (hand_over_rules_before g xs ts)
  one_owner_hand_over ts =
      past _ _ _ one.bytes.0
      (past _ _ _ one.bytes.1.0
      (behind _ _ _
      (behind _ _ _
      (reworded 3 _ _ ((λ h t i l. h t i (l, one.all t l)), (λ h t i q. h t i q.0))
      (behind _ _ _
      (behind _ _ _
      (reworded 14 _ _ ((λ h t l. h t (l, one.all t l)), (λ h t q. h t q.0)) (unchanged []))))))))
