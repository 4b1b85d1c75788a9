-- What each function's promise allows for one input is one number and one content of the buffer.
use Rattle.std.specs.Prelude.{ℕ, ◌-◌, ◌^◌, ◌≡◌, List, ℤ, Result}
use Rattle.paper.specs.declared.Refusal.{Refusal}
use Rattle.paper.specs.Refusal.Numbers.{verdict_of, verdict_of_injective}
use Rattle.std.proofs.Common.{sym, ◌∙◌}
use Rattle.std.proofs.Math.Decide.{ℕ_discrete}
use Rattle.lemmas.specs.Determined.{one_value}
use Rattle.paper.specs.declared.Group.{Group}
use Rattle.paper.specs.Refusal.Rule.{Rule}
use Rattle.paper.specs.Refusal.Verdict.{verdict_unique}
use Rattle.packing.specs.Bytes.{rows_of, bytes_of, own_group}
use Rattle.packing.specs.Answer.{pack_rules, unpack_rules, Answers, PackAnswers, UnpackAnswers}

pub own_group_determined : (m : ℕ) (g h : Group) → g ≡ own_group m → h ≡ own_group m → g ≡ h
own_group_determined m g h = one_value

pub highest_determined : (m r s : ℕ) → r ≡ 2 ^ m - 1 → s ≡ 2 ^ m - 1 → r ≡ s
highest_determined m r s = one_value

pub record Same {A : Type 0} (r s : ℕ) (y z : List A) : Type 0 where
  pub answer : r ≡ s
  pub buffer : y ≡ z

pub answers_determined :
    {A : Type 0} (rules : List Rule) (new before : List A) (r s : ℕ) (y z : List A)
    → Answers rules new before r y
    → Answers rules new before s z
    → Same r s y z
answers_determined rules new before r s y z p q = record { answer = same; buffer = go (ℕ_discrete r 0) }
  where
    same : r ≡ s
    same = verdict_unique rules r s p.verdict q.verdict

    go : Dec (r ≡ 0) → y ≡ z
    go (yes e) = p.written e ∙ sym (q.written (sym same ∙ e))
    go (no e) = p.kept e ∙ sym (q.kept (λ o. e (same ∙ o)))

pub pack_determined :
    (n m : ℕ) (rows : List ℤ) (columns : List ℕ) (r s : ℕ) (y z : List ℕ)
    → PackAnswers n m rows columns r y
    → PackAnswers n m rows columns s z
    → Same r s y z
pack_determined n m rows columns = answers_determined (pack_rules n m rows columns) (bytes_of m n rows) columns

pub unpack_determined :
    (n m : ℕ) (columns : List ℕ) (rows : List ℤ) (r s : ℕ) (y z : List ℤ)
    → UnpackAnswers n m columns rows r y
    → UnpackAnswers n m columns rows s z
    → Same r s y z
unpack_determined n m columns rows = answers_determined (unpack_rules n m columns rows) (rows_of m columns) rows

-- both return one result
pub answers_result_determined :
    {A : Type 0} (rules : List Rule) (new before : List A) (a b : Result (Unit {0}) Refusal) (y z : List A)
    → Answers rules new before (verdict_of a) y
    → Answers rules new before (verdict_of b) z
    → a ≡ b
answers_result_determined rules new before a b y z p q =
    verdict_of_injective a b (answers_determined rules new before (verdict_of a) (verdict_of b) y z p q).answer
