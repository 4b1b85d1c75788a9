-- A promise allows one answer, one content of the bytes, of every other buffer and of the totals.
use Rattle.std.specs.Prelude.{ℕ, ◌≤◌, ◌≡◌, Bool, List, [], length, Result, ℤ}
use Rattle.std.proofs.Common.{sym, ◌∙◌, ap, subst, arith}
use Rattle.paper.specs.declared.Refusal.{Refusal}
use Rattle.paper.specs.declared.Outcome.{Outcome}
use Rattle.paper.specs.Answer.Cases.{Answer, Answer.Refused, Answer.Idle, Answer.Held, Answer.Moved, answer_of, answer_of_injective}
use Rattle.paper.specs.Panel.Input.{Call, Choices, Buffers, size}
use Rattle.paper.specs.Answer.Move.{Accepted, Accepted.idle, Accepted.held, Accepted.moved}
use Rattle.paper.specs.Answer.Totals.{KeepAnswers}
use Rattle.laws.specs.AnswersLocal.{with_spins}
use Rattle.laws.specs.KeepDetermined.{SameKept, keep_determined}
use Rattle.packing.specs.Bytes.{rows_of}
use Rattle.packing.proofs.Laws.{length_rows, rows_injective}
use Rattle.packed.specs.Lengths.{cancel}
use Rattle.packed.specs.Packed.{lent_of, Bytes, PackedAnswers}

pub record SamePacked (a : Answer) (ys : List ℕ) (b : Buffers) (us : List ℤ) (a' : Answer) (zs : List ℕ) (b' : Buffers) (vs : List ℤ) : Type 0 where
  pub answer : a ≡ a'
  pub bytes : ys ≡ zs
  pub buffers : b ≡ b'
  pub totals : us ≡ vs

-- bytes after the same answer that stand for the same rows. A call that is accepted has members
pub same_bytes :
    (m : ℕ) (a : Answer) (xs ys zs : List ℕ) → (Accepted a → 1 ≤ m) → rows_of m ys ≡ rows_of m zs → Bytes a m xs ys → Bytes a m xs zs → ys ≡ zs
same_bytes m a xs ys zs some same = go a (λ w. some w)
  where
    long : 1 ≤ m → length ys ≡ length zs
    long h = cancel m (length ys) (length zs) h (sym (length_rows m ys) ∙ (ap length same ∙ length_rows m zs))

    go : (a : Answer) → (Accepted a → 1 ≤ m) → Bytes a m xs ys → Bytes a m xs zs → ys ≡ zs
    go (Refused r) h p q = p ∙ sym q
    go Idle h p q = rows_injective m ys zs p q (long (h idle)) same
    go Held h p q = rows_injective m ys zs p q (long (h held)) same
    go Moved h p q = rows_injective m ys zs p q (long (h moved)) same

module _
    (keeping : Bool) (c : Call) (p : Choices) (xs ys zs l g q s e f h l₁ g₁ q₁ s₁ e₁ f₁ h₁ l₂ g₂ q₂ s₂ e₂ f₂ h₂ : List ℕ) (ts us vs : List ℤ) (a a' : Answer)
    (w : PackedAnswers keeping c p xs (lent_of l g q s e f h) ts a ys (lent_of l₁ g₁ q₁ s₁ e₁ f₁ h₁) us)
    (v : PackedAnswers keeping c p xs (lent_of l g q s e f h) ts a' zs (lent_of l₂ g₂ q₂ s₂ e₂ f₂ h₂) vs)
  where
    same : SameKept a (lent_of l₁ g₁ q₁ s₁ e₁ f₁ h₁ (rows_of (size c) ys)) us a' (lent_of l₂ g₂ q₂ s₂ e₂ f₂ h₂ (rows_of (size c) zs)) vs
    same = keep_determined keeping c p (lent_of l g q s e f h (rows_of (size c) xs)) ts _ _ us vs a a' w.rows v.rows

    members : (a : Answer) → KeepAnswers keeping c p (lent_of l g q s e f h (rows_of (size c) xs)) ts a (lent_of l₁ g₁ q₁ s₁ e₁ f₁ h₁ (rows_of (size c) ys)) us
        → Accepted a → 1 ≤ size c
    members Idle k idle = omega (arith, k.valid.0.size_low)
    members Held k held = omega (arith, k.valid.0.size_low)
    members Moved k moved = omega (arith, k.valid.0.size_low)
    members (Refused _) k x3 = elim x3 [ ]

    -- the answer, the bytes, the buffers beside them with any spins, and the totals
    pub packed_step_determined : (xs' : List ℤ) → SamePacked a ys (lent_of l₁ g₁ q₁ s₁ e₁ f₁ h₁ xs') us a' zs (lent_of l₂ g₂ q₂ s₂ e₂ f₂ h₂ xs') vs
    packed_step_determined xs' = record {
      answer = same.answer;
      bytes =
          same_bytes (size c) a xs ys zs (members a w.rows) (ap (λ (z : Buffers). z.spins) same.buffers) w.bytes
          (subst (λ (r : Answer). Bytes r (size c) xs zs) (sym same.answer) v.bytes);
      buffers = ap (λ (z : Buffers). with_spins z xs') same.buffers;
      totals = same.totals;
    }

-- and one result
pub packed_step_result_determined :
    (keeping : Bool) (c : Call) (p : Choices) (xs ys zs l g q s e f h l₁ g₁ q₁ s₁ e₁ f₁ h₁ l₂ g₂ q₂ s₂ e₂ f₂ h₂ : List ℕ) (ts us vs : List ℤ)
    (a a' : Result Outcome Refusal)
    → PackedAnswers keeping c p xs (lent_of l g q s e f h) ts (answer_of a) ys (lent_of l₁ g₁ q₁ s₁ e₁ f₁ h₁) us
    → PackedAnswers keeping c p xs (lent_of l g q s e f h) ts (answer_of a') zs (lent_of l₂ g₂ q₂ s₂ e₂ f₂ h₂) vs
    → a ≡ a'
packed_step_result_determined keeping c p xs ys zs l g q s e f h l₁ g₁ q₁ s₁ e₁ f₁ h₁ l₂ g₂ q₂ s₂ e₂ f₂ h₂ ts us vs a a' w v =
    let same =
    packed_step_determined keeping c p xs ys zs l g q s e f h l₁ g₁ q₁ s₁ e₁ f₁ h₁ l₂ g₂ q₂ s₂ e₂ f₂ h₂ ts us vs (answer_of a) (answer_of a') w v [] in
    answer_of_injective a a' same.answer
