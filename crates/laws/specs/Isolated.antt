-- A team's calls depend on its own systems alone, whatever the other's rows and totals hold, and leave those as they are.
use Rattle.std.specs.Prelude.{ℕ, zero, suc, ◌<◌, ◌≡◌, refl, ◌↔◌, Bool, true, false, List, [], ◌∷◌, length, get_or, ℤ, pos}
use Rattle.std.proofs.Common.{sym, ◌∙◌, ap, arith, eqb-true}
use Rattle.paper.specs.Answer.Cases.{Answer}
use Rattle.paper.specs.Answer.Cases.{SweepAnswer}
use Rattle.paper.specs.Answer.Cases.{MeterAnswer, MeterAnswer.Unmetered, MeterAnswer.Energy}
use Rattle.paper.specs.Panel.Input.{Lattice, Call, Choices, Buffers, spin}
use Rattle.paper.specs.Site.Energy.{energy}
use Rattle.paper.specs.Refusal.Rule.{Rule, Kept, broken_unique, broken_not_kept}
use Rattle.paper.specs.Refusal.Rules.{one_name, Named, Inverse}
use Rattle.paper.specs.Refusal.Verdict.{Verdict, verdict_unique}
use Rattle.paper.specs.Answer.Meter.{MeterExact, meter_rules, MeterAnswers}
use Rattle.paper.specs.Answer.Task.{Sweep}
use Rattle.paper.specs.Answer.Totals.{total, Current, HandOverExact, KeepAnswers, SweepKeepAnswers}
use Rattle.paper.specs.Answer.Team.{Team, owner_rules, own, Ours, read, read_call, read_sweep, TeamAnswers, TeamSweepAnswers, TeamMeterAnswers, hand_over_rules}
use Rattle.laws.specs.Matched.{SameVerdict, unchanged, reworded, behind, behind_if}
use Rattle.laws.specs.Owners.{own_below, own_ours, read_own, read_same, named_own, ordered_own}
use Rattle.laws.specs.Owners.{owned_cases, owned_both, answer_of, sweep_answer_of, meter_answer_of}
use Rattle.laws.specs.SameView.{SameRows, SameTotals, SameView, view_fewer, LeadsInside, energy_local}
use Rattle.laws.specs.NamedOnly.{NamesOnly, SeenAlike, Leaves, spins_same, call_isolated, call_leaves}
use Rattle.laws.specs.SweepNamedOnly.{ListsOnly, order_isolated, order_leaves}

-- ---- a move
pub only_own : (o : Team) (c : Call) → NamesOnly (own o) (read_call o c)
only_own o c few t n = named_own o c.lattice.s c.group few t n

-- on two panels that look the same to the team its call has the same answer, and they look the same to it after
pub isolated :
    (o : Team) (keeping : Bool) (c : Call) (p : Choices) (b d : Buffers) (ts us : List ℤ) (a a' : Answer) (y z : Buffers) (ts' us' : List ℤ)
    → SameView c.lattice.n (Ours o c.lattice.s) b ts d us
    → TeamAnswers o keeping c p b ts a y ts'
    → TeamAnswers o keeping c p d us a' z us'
    → SeenAlike c.lattice.n (Ours o c.lattice.s) a y ts' a' z us'
isolated o keeping c p b d ts us a a' y z ts' us' view =
    owned_both told (λ k some e q v w. record {
      answer = answer_of a k some e ∙ sym (answer_of a' k some q);
      view = rw (v.0, v.1, w.0, w.1) view;
    })
  where
    told :
        Kept (owner_rules o c.lattice.s)
        → KeepAnswers keeping (read_call o c) p b ts a y ts'
        → KeepAnswers keeping (read_call o c) p d us a' z us'
        → SeenAlike c.lattice.n (Ours o c.lattice.s) a y ts' a' z us'
    told h f g =
        let s = call_isolated (own o) (read_call o c) (only_own o c) (own_below h) keeping p b d ts us a a' y z ts' us' (view_fewer (own_ours h) view) f g in
        record { answer = s.answer; view = view_fewer (λ t q. q.1) s.view }

-- the rows and totals of the systems that are not its own stay, whatever it is answered
pub others_left :
    (o : Team) (keeping : Bool) (c : Call) (p : Choices) (b : Buffers) (ts : List ℤ) (a : Answer) (y : Buffers) (ts' : List ℤ)
    → TeamAnswers o keeping c p b ts a y ts'
    → Leaves c.lattice.n (own o) b.spins ts y.spins ts'
others_left o keeping c p b ts a y ts' =
    owned_cases (λ h f. call_leaves (own o) (read_call o c) (only_own o c) (own_below h) keeping p b ts a y ts' f)
    (λ k w e v. record {
      rows = λ t i _ _. ap (λ (u : Buffers). spin c.lattice.n u.spins t i) v.0;
      totals = λ t _. ap (λ (u : List ℤ). total u t) v.1;
    })

-- ---- a sweep
pub lists_own : (o : Team) (w : Sweep) → ListsOnly (own o) (read_sweep o w)
lists_own o w t n = ordered_own o w.lattice.s w.order t n

pub sweep_isolated :
    (o : Team) (keeping : Bool) (w : Sweep) (b d : Buffers) (ts us : List ℤ) (a a' : SweepAnswer) (y z : Buffers) (ts' us' : List ℤ)
    → SameView w.lattice.n (Ours o w.lattice.s) b ts d us
    → TeamSweepAnswers o keeping w b ts a y ts'
    → TeamSweepAnswers o keeping w d us a' z us'
    → SeenAlike w.lattice.n (Ours o w.lattice.s) a y ts' a' z us'
sweep_isolated o keeping w b d ts us a a' y z ts' us' view =
    owned_both swept (λ k some e q u v. record {
      answer = sweep_answer_of a k some e ∙ sym (sweep_answer_of a' k some q);
      view = rw (u.0, u.1, v.0, v.1) view;
    })
  where
    swept :
        Kept (owner_rules o w.lattice.s)
        → SweepKeepAnswers keeping (read_sweep o w) b ts a y ts'
        → SweepKeepAnswers keeping (read_sweep o w) d us a' z us'
        → SeenAlike w.lattice.n (Ours o w.lattice.s) a y ts' a' z us'
    swept h f g =
        let s = order_isolated (own o) (read_sweep o w) (lists_own o w) (own_below h) keeping b d ts us a a' y z ts' us' (view_fewer (own_ours h) view) f g in
        record { answer = s.answer; view = view_fewer (λ t q. q.1) s.view }

pub sweep_others_left :
    (o : Team) (keeping : Bool) (w : Sweep) (b : Buffers) (ts : List ℤ) (a : SweepAnswer) (y : Buffers) (ts' : List ℤ)
    → TeamSweepAnswers o keeping w b ts a y ts'
    → Leaves w.lattice.n (own o) b.spins ts y.spins ts'
sweep_others_left o keeping w b ts a y ts' =
    owned_cases (λ h f. order_leaves (own o) (read_sweep o w) (lists_own o w) (own_below h) keeping b ts a y ts' f)
    (λ k q e v. record {
      rows = λ t i _ _. ap (λ (u : Buffers). spin w.lattice.n u.spins t i) v.0;
      totals = λ t _. ap (λ (u : List ℤ). total u t) v.1;
    })

-- ---- the other team's systems are among those that stay
pub record OtherTeam (o e : Team) : Type 0 where
  pub owners : e.owners ≡ o.owners
  pub other : e.team ≡ o.team → ⊥

pub other_not_own : {o e : Team} → OtherTeam o e → (t : ℕ) → own e t ≡ true → own o t ≡ false
other_not_own {o} {e} h t q = go (own o t) refl
  where
    go : (r : Bool) → own o t ≡ r → r ≡ false
    go false x = refl
    go true x =
        absurd (h.other (sym (eqb-true (get_or e.owners t 2) e.team q)
        ∙ (ap (λ (u : List ℕ). get_or u t 2) h.owners ∙ eqb-true (get_or o.owners t 2) o.team x)))

-- so to the other team nothing has changed
pub other_rows_kept : {n s : ℕ} {o e : Team} {xs ts ys us : List ℤ} → OtherTeam o e → Leaves n (own o) xs ts ys us → SameRows n (Ours e s) xs ys
other_rows_kept h f t i q = f.rows t i (other_not_own h t q.1)

pub other_totals_kept : {n s : ℕ} {o e : Team} {xs ts ys us : List ℤ} → OtherTeam o e → Leaves n (own o) xs ts ys us → SameTotals (Ours e s) ts us
other_totals_kept h f t q = f.totals t (other_not_own h t q.1)

-- ---- the meter
-- a verdict on one list of rules is one on the other
pub verdict_there : {qs rs : List Rule} → SameVerdict qs rs → (r : ℕ) → Verdict qs r → Verdict rs r
verdict_there s zero v = s.kept.0 v
verdict_there s (suc r) v = (s.broken (suc r)).0 v

pub same_number : {qs rs : List Rule} → SameVerdict qs rs → (a b : ℕ) → Verdict qs a → Verdict rs b → a ≡ b
same_number {qs} {rs} s a b v w = verdict_unique rs a b (verdict_there s a v) w

leads : (g : Lattice) → Inverse g.n g.d g.fwd g.bwd → LeadsInside g
leads g h i e hi he = (h.there i e hi he).inside

module _ (o : Team) (g : Lattice) (xs ys : List ℤ) (long : length ys ≡ length xs) (rows : SameRows g.n (Ours o g.s) xs ys) where
  exact_same : MeterExact g xs ↔ MeterExact g ys
  exact_same = (
    (λ e. record { spins = long ∙ e.spins; fwd = e.fwd; bwd = e.bwd; couplings = e.couplings }),
    (λ e. record { spins = sym long ∙ e.spins; fwd = e.fwd; bwd = e.bwd; couplings = e.couplings }),
  )

  module _ (t : ℕ) where
    one_own : (u : ℕ) → Named g.s (one_name (read o g.s t)) u → Ours o g.s u
    one_own u n =
        let low : read o g.s t < g.s = rw n.is n.inside in
        (n.inside, rw (← n.is, read_same o g.s t low) (read_own o g.s t low))

    meter_rules_same : SameVerdict (meter_rules g xs (read o g.s t)) (meter_rules g ys (read o g.s t))
    meter_rules_same =
        behind _ _ _ (reworded 2 _ _ exact_same (reworded 3 _ _ (spins_same g.n _ (Ours o g.s) xs ys one_own rows) (unchanged _)))

    -- what is metered is the row of an own system
    metered : Kept (meter_rules g xs (read o g.s t)) → energy g ys (read o g.s t) ≡ energy g xs (read o g.s t)
    metered k =
        let low = k.1.1.1.1.0 in
        energy_local g xs ys (read o g.s t) (leads g k.1.1.1.0)
        (λ i hi. rows (read o g.s t) i (one_own _ (record { place = 0; below = omega arith; is = refl; inside = low })) hi)

    told : (a a' : MeterAnswer) → MeterAnswers g xs (read o g.s t) a → MeterAnswers g ys (read o g.s t) a' → a ≡ a'
    told (Unmetered r) (Unmetered s) f h =
        ap Unmetered (broken_unique (meter_rules g ys (read o g.s t)) r s ((meter_rules_same.broken r).0 f) h)
    told (Unmetered r) (Energy e) f h = absurd (broken_not_kept (meter_rules g ys (read o g.s t)) r ((meter_rules_same.broken r).0 f) h.valid)
    told (Energy e) (Unmetered s) f h = absurd (broken_not_kept (meter_rules g ys (read o g.s t)) s h (meter_rules_same.kept.0 f.valid))
    told (Energy e) (Energy x) f h =
        ap (λ (vs : List ℤ). Energy (get_or vs 0 (pos 0))) (f.is ∙ (ap (λ (v : ℤ). v ∷ []) (sym (metered f.valid)) ∙ sym h.is))

    pub metered_there : (a : MeterAnswer) → MeterAnswers g xs (read o g.s t) a → MeterAnswers g ys (read o g.s t) a
    metered_there (Unmetered r) f = (meter_rules_same.broken r).0 f
    metered_there (Energy e) f = record {
      valid = meter_rules_same.kept.0 f.valid;
      is = f.is ∙ ap (λ (v : ℤ). v ∷ []) (sym (metered f.valid));
    }

    pub meter_isolated : (a a' : MeterAnswer) → TeamMeterAnswers o g xs t a → TeamMeterAnswers o g ys t a' → a ≡ a'
    meter_isolated a a' = owned_both (λ _. told a a') (λ k some e q _ _. meter_answer_of a k some e ∙ sym (meter_answer_of a' k some q))

  -- ---- the hand-over
  module _ (ts us : List ℤ) (many : length us ≡ length ts) (totals : SameTotals (Ours o g.s) ts us) where
    current_same : LeadsInside g → Current (Ours o g.s) g xs ts ↔ Current (Ours o g.s) g ys us
    current_same inside = (
      (λ h t q. totals t q ∙ (h t q ∙ sym (same t q))),
      (λ h t q. sym (totals t q) ∙ (h t q ∙ same t q)),
    )
      where
        same : (t : ℕ) → Ours o g.s t → energy g ys t ≡ energy g xs t
        same t q = energy_local g xs ys t inside (λ i hi. rows t i q hi)

    handed_exact_same : HandOverExact g xs ts ↔ HandOverExact g ys us
    handed_exact_same = (
      (λ e. record { panel = exact_same.0 e.panel; totals = many ∙ e.totals }),
      (λ e. record { panel = exact_same.1 e.panel; totals = sym many ∙ e.totals }),
    )

    pub hand_over_same : SameVerdict (hand_over_rules o g xs ts) (hand_over_rules o g ys us)
    hand_over_same =
        behind _ _ _
        (behind _ _ _
        (behind _ _ _
        (reworded 2 _ _ handed_exact_same
        (reworded 3 _ _ (spins_same g.n _ (Ours o g.s) xs ys (λ _ q. q) rows)
        (behind_if _ _ _ (λ inverse.
        behind _ _ _
        (reworded 14 _ _ (current_same (leads g inverse)) (unchanged []))))))))

    pub hand_over_isolated : (r r' : ℕ) → Verdict (hand_over_rules o g xs ts) r → Verdict (hand_over_rules o g ys us) r' → r ≡ r'
    hand_over_isolated = same_number hand_over_same
