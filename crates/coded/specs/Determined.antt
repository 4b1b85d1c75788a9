-- A promise allows one answer, one content of every buffer and one of the totals.
use Rattle.std.specs.Prelude.{ℕ, ◌≡◌, refl, Bool, true, false, List, [], ℤ, Result}
use Rattle.paper.specs.declared.Refusal.{Refusal}
use Rattle.paper.specs.declared.Outcome.{Outcome}
use Rattle.paper.specs.declared.Counts.{Counts}
use Rattle.paper.specs.Answer.Cases.{answer_of, answer_of_injective, sweep_answer_of, sweep_answer_of_injective}
use Rattle.std.proofs.Common.{sym, ◌∙◌, ap, subst}
use Rattle.std.proofs.Math.Decide.{ℕ_discrete}
use Rattle.lemmas.specs.Bools.{never}
use Rattle.lemmas.specs.Determined.{one_value}
use Rattle.paper.specs.declared.Mode.{Mode}
use Rattle.paper.specs.declared.Form.{Form}
use Rattle.paper.specs.Answer.Cases.{Answer, Answer.Refused}
use Rattle.paper.specs.Answer.Cases.{SweepAnswer}
use Rattle.paper.specs.Panel.Input.{Call, Choices, Buffers, size}
use Rattle.paper.specs.Answer.Task.{Sweep}
use Rattle.laws.specs.AnswersLocal.{with_spins}
use Rattle.laws.specs.KeepDetermined.{SameKept, keep_determined, SameSweepKept, sweep_keep_determined}
use Rattle.packed.specs.Packed.{lent_of, Bytes}
use Rattle.packed.specs.Determined.{SamePacked, packed_step_determined}
use Rattle.coded.specs.declared.Coding.{Coding}
use Rattle.coded.specs.Takes.{numbers_by, spelled_choices}
use Rattle.coded.specs.Answer.{Five, CodedAnswers}
use Rattle.coded.specs.Packed.{PackedCoded}
use Rattle.coded.specs.Sweep.{spelled_sweep, SweepCodedAnswers}

pub five : (coded : Bool) (m : ℕ) → Dec (Five coded m)
five false m = yes (λ e. never e)
five true m = go (ℕ_discrete m 5)
  where
    go : Dec (m ≡ 5) → Dec (Five true m)
    go (yes e) = yes (λ _. e)
    go (no e) = no (λ f. e (f refl))

pub numbers_determined : (k : Coding) (m : Mode) (f : Form) (a b : Bool) → a ≡ numbers_by k m f → b ≡ numbers_by k m f → a ≡ b
numbers_determined k m f a b = one_value

pub overlap_step_by_determined :
    (coded keeping : Bool) (c : Call) (p : Choices) (b : Buffers) (ts : List ℤ) (y z : Buffers) (us vs : List ℤ) (a a' : Answer)
    → CodedAnswers coded keeping c p b ts a y us
    → CodedAnswers coded keeping c p b ts a' z vs
    → SameKept a y us a' z vs
overlap_step_by_determined coded keeping c p b ts y z us vs a a' f g = go (five coded (size c))
  where
    go : Dec (Five coded (size c)) → SameKept a y us a' z vs
    go (yes h) = keep_determined keeping c (spelled_choices coded p) b ts y z us vs a a' (f.five h) (g.five h)
    go (no h) = let u = f.other h in let v = g.other h in record {
      answer = u.number ∙ sym v.number;
      buffers = u.kept ∙ sym v.kept;
      totals = u.totals_kept ∙ sym v.totals_kept;
    }

pub overlap_update_by_determined :
    (coded keeping : Bool) (w : Sweep) (b : Buffers) (ts : List ℤ) (y z : Buffers) (us vs : List ℤ) (a a' : SweepAnswer)
    → SweepCodedAnswers coded keeping w b ts a y us
    → SweepCodedAnswers coded keeping w b ts a' z vs
    → SameSweepKept a y us a' z vs
overlap_update_by_determined coded keeping w b ts y z us vs a a' f g = go (five coded w.members)
  where
    go : Dec (Five coded w.members) → SameSweepKept a y us a' z vs
    go (yes h) = sweep_keep_determined keeping (spelled_sweep coded w) b ts y z us vs a a' (f.five h) (g.five h)
    go (no h) = let u = f.other h in let v = g.other h in record {
      answer = u.number ∙ sym v.number;
      buffers = u.kept ∙ sym v.kept;
      totals = u.totals_kept ∙ sym v.totals_kept;
    }

pub overlap_step_by_result_determined :
    (coded keeping : Bool) (c : Call) (p : Choices) (b : Buffers) (ts : List ℤ) (y z : Buffers) (us vs : List ℤ) (a a' : Result Outcome Refusal)
    → CodedAnswers coded keeping c p b ts (answer_of a) y us
    → CodedAnswers coded keeping c p b ts (answer_of a') z vs
    → a ≡ a'
overlap_step_by_result_determined coded keeping c p b ts y z us vs a a' f g =
    answer_of_injective a a' (overlap_step_by_determined coded keeping c p b ts y z us vs (answer_of a) (answer_of a') f g).answer

pub overlap_update_by_result_determined :
    (coded keeping : Bool) (w : Sweep) (b : Buffers) (ts : List ℤ) (y z : Buffers) (us vs : List ℤ) (a a' : Result Counts Refusal)
    → SweepCodedAnswers coded keeping w b ts (sweep_answer_of a) y us
    → SweepCodedAnswers coded keeping w b ts (sweep_answer_of a') z vs
    → a ≡ a'
overlap_update_by_result_determined coded keeping w b ts y z us vs a a' f g =
    sweep_answer_of_injective a a' (overlap_update_by_determined coded keeping w b ts y z us vs (sweep_answer_of a) (sweep_answer_of a') f g).answer

-- ---- the functions inside

pub step_by_numbers_determined :
    (keeping : Bool) (c : Call) (p : Choices) (b : Buffers) (ts : List ℤ) (y z : Buffers) (us vs : List ℤ) (a a' : Answer)
    → CodedAnswers true keeping c p b ts a y us
    → CodedAnswers true keeping c p b ts a' z vs
    → SameKept a y us a' z vs
step_by_numbers_determined = overlap_step_by_determined true

pub step_by_numbers_result_determined :
    (keeping : Bool) (c : Call) (p : Choices) (b : Buffers) (ts : List ℤ) (y z : Buffers) (us vs : List ℤ) (a a' : Result Outcome Refusal)
    → CodedAnswers true keeping c p b ts (answer_of a) y us
    → CodedAnswers true keeping c p b ts (answer_of a') z vs
    → a ≡ a'
step_by_numbers_result_determined = overlap_step_by_result_determined true

pub update_by_numbers_determined :
    (keeping : Bool) (w : Sweep) (b : Buffers) (ts : List ℤ) (y z : Buffers) (us vs : List ℤ) (a a' : SweepAnswer)
    → SweepCodedAnswers true keeping w b ts a y us
    → SweepCodedAnswers true keeping w b ts a' z vs
    → SameSweepKept a y us a' z vs
update_by_numbers_determined = overlap_update_by_determined true

pub update_by_numbers_result_determined :
    (keeping : Bool) (w : Sweep) (b : Buffers) (ts : List ℤ) (y z : Buffers) (us vs : List ℤ) (a a' : Result Counts Refusal)
    → SweepCodedAnswers true keeping w b ts (sweep_answer_of a) y us
    → SweepCodedAnswers true keeping w b ts (sweep_answer_of a') z vs
    → a ≡ a'
update_by_numbers_result_determined = overlap_update_by_result_determined true

-- on bytes
module _
    (coded keeping : Bool) (c : Call) (p : Choices) (xs ys zs l g q s e f h l₁ g₁ q₁ s₁ e₁ f₁ h₁ l₂ g₂ q₂ s₂ e₂ f₂ h₂ : List ℕ)
    (ts us vs : List ℤ) (a a' : Answer)
    (w : PackedCoded coded keeping c p xs (lent_of l g q s e f h) ts a ys (lent_of l₁ g₁ q₁ s₁ e₁ f₁ h₁) us)
    (v : PackedCoded coded keeping c p xs (lent_of l g q s e f h) ts a' zs (lent_of l₂ g₂ q₂ s₂ e₂ f₂ h₂) vs) (xs' : List ℤ)
  where
    kept_bytes : {r : Answer} {us : List ℕ} → r ≡ Refused 1 → Bytes r (size c) xs us → us ≡ xs
    kept_bytes {r} {us} d k = subst (λ (t : Answer). Bytes t (size c) xs us) d k

    pub packed_step_by_determined : SamePacked a ys (lent_of l₁ g₁ q₁ s₁ e₁ f₁ h₁ xs') us a' zs (lent_of l₂ g₂ q₂ s₂ e₂ f₂ h₂ xs') vs
    packed_step_by_determined = go (five coded (size c))
      where
        go : Dec (Five coded (size c)) → SamePacked a ys (lent_of l₁ g₁ q₁ s₁ e₁ f₁ h₁ xs') us a' zs (lent_of l₂ g₂ q₂ s₂ e₂ f₂ h₂ xs') vs
        go (yes k) =
            packed_step_determined keeping c (spelled_choices coded p) xs ys zs l g q s e f h l₁ g₁ q₁ s₁ e₁ f₁ h₁ l₂ g₂ q₂ s₂ e₂ f₂ h₂ ts us vs a a'
            (record { rows = w.rows.five k; bytes = w.bytes }) (record { rows = v.rows.five k; bytes = v.bytes }) xs'
        go (no k) = let u = w.rows.other k in let o = v.rows.other k in record {
          answer = u.number ∙ sym o.number;
          bytes = kept_bytes u.number w.bytes ∙ sym (kept_bytes o.number v.bytes);
          buffers = ap (λ (z : Buffers). with_spins z xs') (u.kept ∙ sym o.kept);
          totals = u.totals_kept ∙ sym o.totals_kept;
        }

pub packed_step_by_result_determined :
    (coded keeping : Bool) (c : Call) (p : Choices) (xs ys zs l g q s e f h l₁ g₁ q₁ s₁ e₁ f₁ h₁ l₂ g₂ q₂ s₂ e₂ f₂ h₂ : List ℕ) (ts us vs : List ℤ)
    (a a' : Result Outcome Refusal)
    → PackedCoded coded keeping c p xs (lent_of l g q s e f h) ts (answer_of a) ys (lent_of l₁ g₁ q₁ s₁ e₁ f₁ h₁) us
    → PackedCoded coded keeping c p xs (lent_of l g q s e f h) ts (answer_of a') zs (lent_of l₂ g₂ q₂ s₂ e₂ f₂ h₂) vs
    → a ≡ a'
packed_step_by_result_determined coded keeping c p xs ys zs l g q s e f h l₁ g₁ q₁ s₁ e₁ f₁ h₁ l₂ g₂ q₂ s₂ e₂ f₂ h₂ ts us vs a a' w v =
    let same =
    packed_step_by_determined coded keeping c p xs ys zs l g q s e f h l₁ g₁ q₁ s₁ e₁ f₁ h₁ l₂ g₂ q₂ s₂ e₂ f₂ h₂ ts us vs (answer_of a) (answer_of a') w
    v [] in
    answer_of_injective a a' same.answer

pub packed_by_numbers_determined :
    (keeping : Bool) (c : Call) (p : Choices) (xs ys zs l g q s e f h l₁ g₁ q₁ s₁ e₁ f₁ h₁ l₂ g₂ q₂ s₂ e₂ f₂ h₂ : List ℕ) (ts us vs : List ℤ) (a a' : Answer)
    → PackedCoded true keeping c p xs (lent_of l g q s e f h) ts a ys (lent_of l₁ g₁ q₁ s₁ e₁ f₁ h₁) us
    → PackedCoded true keeping c p xs (lent_of l g q s e f h) ts a' zs (lent_of l₂ g₂ q₂ s₂ e₂ f₂ h₂) vs
    → (xs' : List ℤ)
    → SamePacked a ys (lent_of l₁ g₁ q₁ s₁ e₁ f₁ h₁ xs') us a' zs (lent_of l₂ g₂ q₂ s₂ e₂ f₂ h₂ xs') vs
packed_by_numbers_determined = packed_step_by_determined true

pub packed_by_numbers_result_determined :
    (keeping : Bool) (c : Call) (p : Choices) (xs ys zs l g q s e f h l₁ g₁ q₁ s₁ e₁ f₁ h₁ l₂ g₂ q₂ s₂ e₂ f₂ h₂ : List ℕ) (ts us vs : List ℤ)
    (a a' : Result Outcome Refusal)
    → PackedCoded true keeping c p xs (lent_of l g q s e f h) ts (answer_of a) ys (lent_of l₁ g₁ q₁ s₁ e₁ f₁ h₁) us
    → PackedCoded true keeping c p xs (lent_of l g q s e f h) ts (answer_of a') zs (lent_of l₂ g₂ q₂ s₂ e₂ f₂ h₂) vs
    → a ≡ a'
packed_by_numbers_result_determined = packed_step_by_result_determined true
