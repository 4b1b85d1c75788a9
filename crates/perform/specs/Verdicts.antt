-- From the verdict of the tests, and what a task leaves, to a call's answer.
use Rattle.std.specs.Prelude.{ℕ, zero, suc, ◌<◌, ◌≤◌, ◌≡◌, refl, Bool, List, ℤ, nat_abs}
use Rattle.paper.specs.Answer.Cases.{Answer, Answer.Refused, Answer.Idle, Answer.Held, Answer.Moved}
use Rattle.paper.specs.Panel.Input.{Call, Choices, Buffers, member}
use Rattle.paper.specs.Refusal.Rule.{Rule, Kept, Broken, broken_not_kept}
use Rattle.paper.specs.Refusal.Rules.{When, group_names, rules}
use Rattle.paper.specs.Refusal.Kept.{named, Valid, valid_kept}
use Rattle.paper.specs.Refusal.Verdict.{Verdict}
use Rattle.paper.specs.Answer.Move.{Answers}
use Rattle.paper.specs.Answer.Totals.{total, kept_rules, TotalsAsked, kept_valid, kept_asked, TotalsReady, TotalsAfter, KeepAnswers}

pub verdict_broken : (rs : List Rule) (r : ℕ) → (r ≡ 0 → ⊥) → Verdict rs r → Broken rs r
verdict_broken rs zero e v = absurd (e refl)
verdict_broken rs (suc r) e v = v

-- ---- an answer
module _ (keeping : Bool) (c : Call) (p : Choices) (b : Buffers) (ts : List ℤ) where
  pub refused_by : (r : ℕ) → Broken (kept_rules keeping c p b ts) r → KeepAnswers keeping c p b ts (Refused r) b ts
  refused_by r w = record { why = w; kept = refl; totals_kept = refl }

  -- the group's totals are named, so they are small
  pub ready_of : Kept (kept_rules keeping c p b ts) → TotalsReady keeping c.lattice c.group ts
  ready_of k = record { lengths = a.lengths; couplings = a.couplings; small = small }
    where
      a : TotalsAsked keeping c.lattice (group_names c.group) ts
      a = kept_asked keeping c p b ts k

      v : Valid c p b
      v = kept_valid keeping c p b ts k

      small : When keeping ((j : ℕ) → j < c.group.len → nat_abs (total ts (member c.group j)) ≤ 16384000000)
      small e j h = a.small e (member c.group j) (named j h v.sound.grouped)

  pub accepted_by :
      (a : Answer) (b' : Buffers) (ts' : List ℤ)
      → Kept (kept_rules keeping c p b ts)
      → Answers c p b a b'
      → TotalsAfter keeping c.lattice b.spins ts b'.spins ts'
      → KeepAnswers keeping c p b ts a b' ts'
  accepted_by (Refused r) b' ts' k f u =
      absurd (broken_not_kept (rules c p b) _ f.why (valid_kept c p b (kept_valid keeping c p b ts k)))
  accepted_by Idle b' ts' k f u = record { valid = k; answers = f; totals = u }
  accepted_by Held b' ts' k f u = record { valid = k; answers = f; totals = u }
  accepted_by Moved b' ts' k f u = record { valid = k; answers = f; totals = u }
