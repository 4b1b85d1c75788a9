-- From what a task on bytes leaves to the call's answer.
use Rattle.std.specs.Prelude.{ℕ, ◌≡◌, List, ℤ}
use Rattle.std.proofs.Common.{sym, subst}
use Rattle.paper.specs.Answer.Cases.{Answer, Answer.Refused, Answer.Idle, Answer.Held, Answer.Moved}
use Rattle.paper.specs.Panel.Input.{Call, Choices, Buffers, size}
use Rattle.paper.specs.Refusal.Rule.{broken_not_kept}
use Rattle.paper.specs.Refusal.Rules.{rules}
use Rattle.paper.specs.Refusal.Kept.{Valid, valid_kept}
use Rattle.paper.specs.Answer.Move.{Answers}
use Rattle.moves.specs.Leaves.{Beside, RunLeaves}
use Rattle.packing.specs.Bytes.{Narrow}
use Rattle.packed.specs.Packed.{Bytes, Through}

-- tested input is not refused
pub answered_bytes :
    (c : Call) (p : Choices) (b b' : Buffers) (m : ℕ) (xs ys : List ℕ) → Valid c p b → Narrow m ys → (a : Answer) → Answers c p b a b' → Bytes a m xs ys
answered_bytes c p b b' m xs ys v low (Refused r) w = absurd (broken_not_kept (rules c p b) _ w.why (valid_kept c p b v))
answered_bytes c p b b' m xs ys v low Idle w = low
answered_bytes c p b b' m xs ys v low Held w = low
answered_bytes c p b b' m xs ys v low Moved w = low

-- bytes that were copied
pub through_copy :
    {m : ℕ} {Told : List ℤ → Answer → List ℤ → Type 0} {xs ys new : List ℕ} {a : Answer} → ys ≡ new → Through m Told xs a new → Through m Told xs a ys
through_copy {m} {Told} {xs} {ys} {new} {a} e w = subst (λ (zs : List ℕ). Through m Told xs a zs) (sym e) w

-- what a task on columns leaves has no bit too many
pub low_of : {c : Call} {p : Choices} {xs new : List ℕ} {b b' : Beside} {a : Answer} → RunLeaves c p xs b a new b' → Narrow (size c) new
low_of u i h = u.narrow i (rw u.long at h)
