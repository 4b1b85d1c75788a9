-- The cases of an answer: a refusal with its number, or what becomes of the call. The functions return them as a `Result`; no two results are one answer.
use Rattle.std.specs.Prelude.{ℕ, ◌≡◌, refl, Result, Ok, Err, ℤ}
use Rattle.std.proofs.Common.{sym, ◌∙◌, ap}
use Rattle.paper.specs.declared.Refusal.{Refusal}
use Rattle.paper.specs.declared.Outcome.{Outcome}
use Rattle.paper.specs.declared.Outcome.TheVariants as Outcome
use Rattle.paper.specs.declared.Counts.{Counts}
use Rattle.paper.specs.Refusal.Numbers.{number_of, refusal_of, refusal_of_number}

-- of a move
pub data Answer : Type 0 where
  Refused : ℕ → Answer
  Idle : Answer
  Held : Answer
  Moved : Answer

-- of a sweep: how many unmasked tasks were idle, how many moved and how many were held
pub data SweepAnswer : Type 0 where
  Fault : ℕ → SweepAnswer
  Swept : ℕ → ℕ → ℕ → SweepAnswer

-- of the meter: the energy of one system
pub data MeterAnswer : Type 0 where
  Unmetered : ℕ → MeterAnswer
  Energy : ℤ → MeterAnswer

-- ---- which answer a result is
abbrev pub answer_by : Outcome → Answer
answer_by Outcome.Idle = Answer.Idle
answer_by Outcome.Held = Answer.Held
answer_by Outcome.Moved = Answer.Moved

abbrev pub answer_of : Result Outcome Refusal → Answer
answer_of (Ok o) = answer_by o
answer_of (Err e) = Answer.Refused (number_of e)

abbrev pub sweep_answer_by : Counts → SweepAnswer
sweep_answer_by c = SweepAnswer.Swept c.idle c.moved c.held

abbrev pub sweep_answer_of : Result Counts Refusal → SweepAnswer
sweep_answer_of (Ok c) = sweep_answer_by c
sweep_answer_of (Err e) = SweepAnswer.Fault (number_of e)

abbrev pub meter_answer_of : Result ℤ Refusal → MeterAnswer
meter_answer_of (Ok e) = MeterAnswer.Energy e
meter_answer_of (Err e) = MeterAnswer.Unmetered (number_of e)

-- ---- each answer is of one result
abbrev result_of : Answer → Result Outcome Refusal
result_of (Answer.Refused r) = Err (refusal_of r)
result_of Answer.Idle = Ok Outcome.Idle
result_of Answer.Held = Ok Outcome.Held
result_of Answer.Moved = Ok Outcome.Moved

result_again : (a : Result Outcome Refusal) → result_of (answer_of a) ≡ a
result_again (Ok Outcome.Idle) = refl
result_again (Ok Outcome.Held) = refl
result_again (Ok Outcome.Moved) = refl
result_again (Err e) = ap Err (refusal_of_number e)

pub answer_of_injective : (a b : Result Outcome Refusal) → answer_of a ≡ answer_of b → a ≡ b
answer_of_injective a b e = sym (result_again a) ∙ (ap result_of e ∙ result_again b)

pub answer_by_injective : (a b : Outcome) → answer_by a ≡ answer_by b → a ≡ b
answer_by_injective a b e = cc (answer_of_injective (Ok a) (Ok b) e)

abbrev swept_of : SweepAnswer → Result Counts Refusal
swept_of (SweepAnswer.Fault r) = Err (refusal_of r)
swept_of (SweepAnswer.Swept idle moved held) = Ok (record { idle = idle; moved = moved; held = held })

swept_again : (a : Result Counts Refusal) → swept_of (sweep_answer_of a) ≡ a
swept_again (Ok c) = refl
swept_again (Err e) = ap Err (refusal_of_number e)

pub sweep_answer_of_injective : (a b : Result Counts Refusal) → sweep_answer_of a ≡ sweep_answer_of b → a ≡ b
sweep_answer_of_injective a b e = sym (swept_again a) ∙ (ap swept_of e ∙ swept_again b)

pub sweep_answer_by_injective : (a b : Counts) → sweep_answer_by a ≡ sweep_answer_by b → a ≡ b
sweep_answer_by_injective a b e = cc (sweep_answer_of_injective (Ok a) (Ok b) e)

abbrev metered_of : MeterAnswer → Result ℤ Refusal
metered_of (MeterAnswer.Unmetered r) = Err (refusal_of r)
metered_of (MeterAnswer.Energy e) = Ok e

metered_again : (a : Result ℤ Refusal) → metered_of (meter_answer_of a) ≡ a
metered_again (Ok e) = refl
metered_again (Err e) = ap Err (refusal_of_number e)

pub meter_answer_of_injective : (a b : Result ℤ Refusal) → meter_answer_of a ≡ meter_answer_of b → a ≡ b
meter_answer_of_injective a b e = sym (metered_again a) ∙ (ap metered_of e ∙ metered_again b)
