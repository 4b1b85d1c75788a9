-- A fill: single draws in order, into a lent buffer. Refused, nothing is written and the source is as lent.
use Rattle.std.specs.Prelude.{◌≡◌, ℕ, zero, suc, ◌+◌, ◌/◌, ◌%◌, ◌<◌, Bool, true, cond, List, [], ◌∷◌, length, ◌==◌, slice_index}
use Rattle.paper.specs.Refusal.Rule.{Rule, rule, Kept, Broken}
use Rattle.draws.specs.declared.Source.{Source}
use Rattle.draws.specs.Answer.{Drawn, Left}
use Rattle.draws.specs.Words.{Live, drawn}
use Rattle.draws.specs.Draw.{number, Within}
use Rattle.draws.specs.Rows.{row_by}

-- the source after i draws, each of which leaves a source to the next
unfoldable pub stop : (Source → Source) → ℕ → Source → Source
stop leaves zero s = s
stop leaves (suc i) s = leaves (stop leaves i s)

-- none of n draws in a row is refused
abbrev pub Goes : (Source → ℕ) → (Source → Source) → ℕ → Source → Type 0
Goes refusal leaves n s = (i : ℕ) → i < n → refusal (stop leaves i s) ≡ 0

-- the buffer xs then holds ys, place by place what `at` says, and the source u is t
pub record Written (at : ℕ → ℕ) (t : Source) (xs : List ℕ) (u : Source) (ys : List ℕ) : Type 0 where
  pub long : length ys ≡ length xs
  pub each : (j : ℕ) → j < length xs → slice_index ys j ≡ at j
  pub source : u ≡ t

pub record Accepts (rs : List Rule) (at : ℕ → ℕ) (t : Source) (xs : List ℕ) (u : Source) (ys : List ℕ) : Type 0 where
  pub valid : Kept rs
  pub written : Written at t xs u ys

pub record Refuses (rs : List Rule) (c : ℕ) (s : Source) (xs : List ℕ) (u : Source) (ys : List ℕ) : Type 0 where
  pub why : Broken rs c
  pub source : u ≡ s
  pub kept : ys ≡ xs

-- the answer by its number
abbrev pub Fills : List Rule → (ℕ → ℕ) → Source → Source → List ℕ → ℕ → Source → List ℕ → Type 0
Fills rs at t s xs zero u ys = Accepts rs at t xs u ys
Fills rs at t s xs (suc c) u ys = Refuses rs (suc c) s xs u ys

-- by the draws d: place j is the value of draw j
module _ (d : Source → Drawn) where
  abbrev pub go_on : Source → Source
  go_on s = (d s).source

  abbrev pub NumbersGo : ℕ → Source → Type 0
  NumbersGo n s = Goes (λ t. (d t).refusal) go_on n s

  abbrev pub number_at : Source → ℕ → ℕ
  number_at s j = (d (stop go_on j s)).value

  abbrev pub FillsBy : List Rule → Source → List ℕ → Left → List ℕ → Type 0
  FillsBy rs s xs l ys = Fills rs (number_at s) (stop go_on (length xs) s) s xs l.refusal l.source ys

-- by rows of n: place j is place j % n of the row j / n
module _ (moving : Bool) (n : ℕ) where
  abbrev pub go_down : Source → Source
  go_down s = (row_by moving n s).source

  abbrev pub RowsGo : ℕ → Source → Type 0
  RowsGo k s = Goes (λ t. (row_by moving n t).refusal) go_down k s

  abbrev pub entry_at : Source → ℕ → ℕ
  entry_at s j = slice_index (row_by moving n (stop go_down (j / n) s)).row (j % n)

  abbrev pub FillsRows : List Rule → Source → List ℕ → Left → List ℕ → Type 0
  FillsRows rs s xs l ys = Fills rs (entry_at s) (stop go_down (length xs / n) s) s xs l.refusal l.source ys

-- the refusals in their order, where `fits` says whether the buffer's length will do. A word is never taken again
abbrev pub word_rules : Bool → Source → List Rule
word_rules fits s = rule 12 (Live s) ∷ rule 2 (fits ≡ true) ∷ []

-- of `len` numbers below m, which is 1 to `most`
abbrev pub number_rules : Bool → ℕ → ℕ → ℕ → Source → List Rule
number_rules fits most m len s = rule 12 (Live s) ∷ rule 12 (Within 1 most m) ∷ rule 2 (fits ≡ true) ∷ rule 12 (NumbersGo (number m) len s) ∷ []

-- one row, or any number of whole rows
abbrev pub row_length_fits : Bool → ℕ → ℕ → Bool
row_length_fits single n len = cond single (len == n) (len % n == 0)

abbrev pub row_rules : Bool → Bool → ℕ → ℕ → Source → List Rule
row_rules single moving n len s =
    rule 12 (Live s) ∷ rule 12 (Within 2 8 n) ∷ rule 2 (row_length_fits single n len ≡ true) ∷ rule 12 (RowsGo moving n (len / n) s) ∷ []

-- 1 plus a number below m
abbrev pub number_from_one : ℕ → Source → Drawn
number_from_one m s = drawn (number m s).refusal ((number m s).value + 1) (number m s).source
