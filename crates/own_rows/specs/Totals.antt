-- Totals brought current on the group's own rows, and put back, are brought current in the panel; so a move that keeps totals, too, is the panel's.
use Rattle.std.specs.Prelude.{ℕ, ◌<◌, ◌≡◌, ◌⊎◌, Bool, List, get_or, ℤ, pos, neg_ℤ, ◌+ℤ◌, ◌-ℤ◌, ◌*ℤ◌}
use Rattle.std.proofs.Common.{sym, ◌∙◌, ap, subst, inl, inr}
use Rattle.std.proofs.Math.IntN.{+ℤ_idr, +ℤ_invr}
use Rattle.lemmas.specs.Places.{Placed, place}
use Rattle.lemmas.specs.Sums.{sum_ext}
use Rattle.paper.specs.Answer.Cases.{Answer, Answer.Idle, Answer.Held, Answer.Moved, Answer.Refused}
use Rattle.paper.specs.Panel.Input.{Lattice, Call, Choices, Buffers, spin, size, system, bond_of, ahead_of}
use Rattle.paper.specs.Site.Energy.{energy}
use Rattle.paper.specs.Refusal.Rule.{Kept}
use Rattle.paper.specs.Refusal.Rules.{rules}
use Rattle.paper.specs.Refusal.Kept.{valid_of, valid_kept}
use Rattle.paper.specs.Answer.Move.{Accepted, Accepted.idle, Accepted.held, Accepted.moved}
use Rattle.paper.specs.Answer.Totals.{total, Brought, TotalsAfter, kept_rules, kept_valid, KeepAccepts, KeepAnswers}
use Rattle.laws.specs.Unique.{Outside}
use Rattle.laws.specs.AnswersLocal.{with_spins}
use Rattle.laws.specs.SameView.{LeadsInside}
use Rattle.packing.specs.Gathered.{group_rows, group_at, own_of}
use Rattle.own_rows.specs.PutBack.{group_totals, total_at, PutBack, PutTotals, totals_back}
use Rattle.own_rows.specs.Answers.{own_answers}

-- two systems with one row have one energy
pub energy_alike :
    (g : Lattice) (xs ys : List ℤ) (t u : ℕ)
    → LeadsInside g
    → ((i : ℕ) → i < g.n → spin g.n ys u i ≡ spin g.n xs t i)
    → energy g ys u ≡ energy g xs t
energy_alike g xs ys t u inside same = ap neg_ℤ (sum_ext g.n _ _ (λ i hi. sum_ext g.d _ _ (λ e he. term i e hi he)))
  where
    at : List ℤ → ℕ → ℕ → ℕ → ℤ
    at zs x i e = get_or g.couplings (bond_of g i e) (pos 0) *ℤ spin g.n zs x i *ℤ spin g.n zs x (ahead_of g i e)

    term : (i e : ℕ) → i < g.n → e < g.d → at ys u i e ≡ at xs t i e
    term i e hi he = cc (same i hi, same (ahead_of g i e) (inside i e hi he))

module _ (c : Call) (inside : LeadsInside c.lattice) (xs ts rows' us' ys us : List ℤ) (r : PutBack c xs rows' ys) (q : PutTotals c ts us' us) where
  before : (k : ℕ) → k < size c → energy (own_of c).lattice (group_rows c xs) k ≡ energy c.lattice xs (system c k)
  before k h = energy_alike c.lattice xs (group_rows c xs) (system c k) k inside (λ i hi. group_at c xs i k hi h)

  behind : (k : ℕ) → k < size c → energy (own_of c).lattice rows' k ≡ energy c.lattice ys (system c k)
  behind k h = energy_alike c.lattice ys rows' (system c k) k inside (λ i hi. sym (r.group i k hi h))

  -- what the total of the system t is to be
  abbrev After : ℕ → Type 0
  After t = total us t ≡ total ts t +ℤ (energy c.lattice ys t -ℤ energy c.lattice xs t)

  member_after : Brought (own_of c).lattice (group_rows c xs) (group_totals c ts) rows' us' → (k : ℕ) → k < size c → After (system c k)
  member_after w k h = q.group k h ∙ (w.each k h ∙ cc (total_at c ts k h, before k h, behind k h))

  -- a system outside the group has its row and its total
  other_after : (t : ℕ) → Outside c t → After t
  other_after t o =
      q.others t o
      ∙ sym (ap (λ (z : ℤ). total ts t +ℤ (z +ℤ neg_ℤ (energy c.lattice xs t))) (energy_alike c.lattice xs ys t t inside (λ i hi. r.others i t hi o))
      ∙ (ap (λ (z : ℤ). total ts t +ℤ z) (+ℤ_invr (energy c.lattice xs t)) ∙ +ℤ_idr (total ts t)))

  pub totals_own :
      (keeping : Bool) → TotalsAfter keeping (own_of c).lattice (group_rows c xs) (group_totals c ts) rows' us' → TotalsAfter keeping c.lattice xs ts ys us
  totals_own keeping w = record {
    brought = λ e. record { long = q.long; each = λ t h. each (w.brought e) t (place (size c) (system c) t) };
    left = λ e. totals_back c ts us (subst (λ (zs : List ℤ). PutTotals c ts zs us) (w.left e) q);
  }
    where
      each : Brought (own_of c).lattice (group_rows c xs) (group_totals c ts) rows' us' → (t : ℕ) → Placed (size c) (system c) t ⊎ Outside c t → After t
      each w t (inl o) = subst After (sym o.2) (member_after w o.0 o.1)
      each w t (inr o) = other_after t o

pub own_totals :
    (keeping : Bool) (c : Call) (p : Choices) (b : Buffers) → Kept (rules c p b)
    → (ts rows' us' ys us : List ℤ)
    → TotalsAfter keeping (own_of c).lattice (group_rows c b.spins) (group_totals c ts) rows' us'
    → PutBack c b.spins rows' ys
    → PutTotals c ts us' us
    → TotalsAfter keeping c.lattice b.spins ts ys us
own_totals keeping c p b k ts rows' us' ys us w r q =
    totals_own c (λ i e hi he. ((valid_of c p b k).sound.inverse.there i e hi he).inside) b.spins ts rows' us' ys us r q keeping w

module _
    (keeping : Bool) (c : Call) (p : Choices) (b : Buffers) (ts : List ℤ) (k : Kept (kept_rules keeping c p b ts)) (b' : Buffers) (us' ys us : List ℤ)
    (r : PutBack c b.spins b'.spins ys) (q : PutTotals c ts us' us)
  where
    accepts :
        (a : Answer) → Accepted a
        → KeepAccepts keeping (own_of c) p (with_spins b (group_rows c b.spins)) (group_totals c ts) a b' us'
        → KeepAccepts keeping c p b ts a (with_spins b' ys) us
    accepts a h w = let kept : Kept (rules c p b) = valid_kept c p b (kept_valid keeping c p b ts k) in record {
      valid = k;
      answers = own_answers c p b kept a h b' w.answers ys r;
      totals = own_totals keeping c p b kept ts b'.spins us' ys us w.totals r q;
    }

    pub own_keep_answers :
        (a : Answer) → Accepted a
        → KeepAnswers keeping (own_of c) p (with_spins b (group_rows c b.spins)) (group_totals c ts) a b' us'
        → KeepAnswers keeping c p b ts a (with_spins b' ys) us
    own_keep_answers Idle idle w = accepts Idle idle w
    own_keep_answers Held held w = accepts Held held w
    own_keep_answers Moved moved w = accepts Moved moved w
    own_keep_answers (Refused _) x3 w = elim x3 [ ]
