-- The number of each refusal, and the number that a test answers: 0 where it refuses nothing.
use Rattle.std.specs.Prelude.{ℕ, zero, suc, ◌-◌, ◌≡◌, refl, List, [], ◌∷◌, ◌++◌, get_or, Result, Ok, Err}
use Rattle.std.proofs.Common.{sym, ◌∙◌, ap}
use Rattle.paper.specs.declared.Refusal.{Refusal}
use Rattle.paper.specs.declared.Refusal.TheVariants.{Sizes, Lengths, Spins, Tables, Systems, Couplings, Temperature, Cuts, Choices, Seed}
use Rattle.paper.specs.declared.Refusal.TheVariants.{Frames, Draws, EdgeList, Totals, HoudOfMany}
use Rattle.paper.specs.Refusal.Rule.{Rule, Kept, Broken}
use Rattle.paper.specs.Refusal.Verdict.{Verdict, broken_first}

abbrev pub number_of : Refusal → ℕ
number_of Sizes = 1
number_of Lengths = 2
number_of Spins = 3
number_of Tables = 4
number_of Systems = 5
number_of Couplings = 6
number_of Temperature = 7
number_of Cuts = 8
number_of Choices = 9
number_of Seed = 10
number_of Frames = 11
number_of Draws = 12
number_of EdgeList = 13
number_of Totals = 14
number_of HoudOfMany = 15

abbrev pub verdict_of : Result (Unit {0}) Refusal → ℕ
verdict_of (Ok u) = 0
verdict_of (Err e) = number_of e

-- a refusal's number is that of a broken rule
pub refused : (rs : List Rule) (e : Refusal) → Verdict rs (number_of e) → Broken rs (number_of e)
refused rs Sizes v = v
refused rs Lengths v = v
refused rs Spins v = v
refused rs Tables v = v
refused rs Systems v = v
refused rs Couplings v = v
refused rs Temperature v = v
refused rs Cuts v = v
refused rs Choices v = v
refused rs Seed v = v
refused rs Frames v = v
refused rs Draws v = v
refused rs EdgeList v = v
refused rs Totals v = v
refused rs HoudOfMany v = v

pub refuses : (rs : List Rule) (e : Refusal) → Broken rs (number_of e) → Verdict rs (number_of e)
refuses rs Sizes v = v
refuses rs Lengths v = v
refuses rs Spins v = v
refuses rs Tables v = v
refuses rs Systems v = v
refuses rs Couplings v = v
refuses rs Temperature v = v
refuses rs Cuts v = v
refuses rs Choices v = v
refuses rs Seed v = v
refuses rs Frames v = v
refuses rs Draws v = v
refuses rs EdgeList v = v
refuses rs Totals v = v
refuses rs HoudOfMany v = v

-- a test before others refuses as they all do
pub refused_first : (rs qs : List Rule) (e : Refusal) → Verdict rs (number_of e) → Verdict (rs ++ qs) (number_of e)
refused_first rs qs e v = refuses (rs ++ qs) e (broken_first rs qs (number_of e) (refused rs e v))

-- ---- no two have one number
abbrev refusals : List Refusal
refusals =
    Sizes ∷ Lengths ∷ Spins ∷ Tables ∷ Systems ∷ Couplings ∷ Temperature ∷ Cuts ∷ Choices ∷ Seed ∷ Frames ∷ Draws ∷ EdgeList ∷ Totals ∷ HoudOfMany ∷ []

abbrev pub refusal_of : ℕ → Refusal
refusal_of r = get_or refusals (r - 1) HoudOfMany

pub refusal_of_number : (e : Refusal) → refusal_of (number_of e) ≡ e
refusal_of_number Sizes = refl
refusal_of_number Lengths = refl
refusal_of_number Spins = refl
refusal_of_number Tables = refl
refusal_of_number Systems = refl
refusal_of_number Couplings = refl
refusal_of_number Temperature = refl
refusal_of_number Cuts = refl
refusal_of_number Choices = refl
refusal_of_number Seed = refl
refusal_of_number Frames = refl
refusal_of_number Draws = refl
refusal_of_number EdgeList = refl
refusal_of_number Totals = refl
refusal_of_number HoudOfMany = refl

pub number_of_injective : (a b : Refusal) → number_of a ≡ number_of b → a ≡ b
number_of_injective a b e = sym (refusal_of_number a) ∙ (ap refusal_of e ∙ refusal_of_number b)

abbrev pub tested_of : ℕ → Result (Unit {0}) Refusal
tested_of zero = Ok tt
tested_of (suc r) = Err (refusal_of (suc r))

pub tested_of_verdict : (r : Result (Unit {0}) Refusal) → tested_of (verdict_of r) ≡ r
tested_of_verdict (Ok u) = refl
tested_of_verdict (Err Sizes) = refl
tested_of_verdict (Err Lengths) = refl
tested_of_verdict (Err Spins) = refl
tested_of_verdict (Err Tables) = refl
tested_of_verdict (Err Systems) = refl
tested_of_verdict (Err Couplings) = refl
tested_of_verdict (Err Temperature) = refl
tested_of_verdict (Err Cuts) = refl
tested_of_verdict (Err Choices) = refl
tested_of_verdict (Err Seed) = refl
tested_of_verdict (Err Frames) = refl
tested_of_verdict (Err Draws) = refl
tested_of_verdict (Err EdgeList) = refl
tested_of_verdict (Err Totals) = refl
tested_of_verdict (Err HoudOfMany) = refl

pub verdict_of_injective : (a b : Result (Unit {0}) Refusal) → verdict_of a ≡ verdict_of b → a ≡ b
verdict_of_injective a b e = sym (tested_of_verdict a) ∙ (ap tested_of e ∙ tested_of_verdict b)
