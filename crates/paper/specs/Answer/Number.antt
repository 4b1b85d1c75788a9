-- What each case of an answer stands for in the paper: its number, a refusal's or 0 where the call is accepted, and its values.
-- A refusal has its number only. The promises cite both in every case; the number is the verdict of the rules.
use Rattle.std.specs.Prelude.{ℕ, List, [], ◌∷◌, ℤ}
use Rattle.paper.specs.Answer.Cases.{Answer, Answer.Refused, Answer.Idle, Answer.Held, Answer.Moved}
use Rattle.paper.specs.Answer.Cases.{SweepAnswer, SweepAnswer.Fault, SweepAnswer.Swept}
use Rattle.paper.specs.Answer.Cases.{MeterAnswer, MeterAnswer.Unmetered, MeterAnswer.Energy}

-- of one move or observation, which has no values: all that it tells is written
abbrev pub number : Answer → ℕ
number (Refused r) = r
number Idle = 0
number Held = 0
number Moved = 0

-- of a sweep, with the three counts
abbrev pub sweep_number : SweepAnswer → ℕ
sweep_number (Fault r) = r
sweep_number (Swept idle moved held) = 0

abbrev pub sweep_values : SweepAnswer → List ℕ
sweep_values (Fault r) = []
sweep_values (Swept idle moved held) = idle ∷ moved ∷ held ∷ []

-- of the meter, with the energy
abbrev pub meter_number : MeterAnswer → ℕ
meter_number (Unmetered r) = r
meter_number (Energy e) = 0

abbrev pub meter_values : MeterAnswer → List ℤ
meter_values (Unmetered r) = []
meter_values (Energy e) = e ∷ []
