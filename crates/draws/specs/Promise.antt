-- What each function that fills a lent buffer promises of the source s, the buffer xs, the answer l and the buffer's content ys after it.
use Rattle.std.specs.Prelude.{ℕ, true, false, List, length, ◌==◌}
use Rattle.draws.specs.declared.Source.{Source}
use Rattle.draws.specs.Answer.{Left}
use Rattle.draws.specs.Words.{stepped}
use Rattle.draws.specs.Draw.{flipped, number}
use Rattle.draws.specs.Fill.{FillsBy, FillsRows, number_from_one, word_rules, number_rules, row_rules}

-- one draw, into a buffer of one; a permutation of n into a buffer of n
abbrev pub WordDrawn : Source → List ℕ → Left → List ℕ → Type 0
WordDrawn s xs l ys = FillsBy stepped (word_rules (length xs == 1) s) s xs l ys

abbrev pub CoinDrawn : Source → List ℕ → Left → List ℕ → Type 0
CoinDrawn s xs l ys = FillsBy flipped (word_rules (length xs == 1) s) s xs l ys

abbrev pub BelowDrawn : ℕ → Source → List ℕ → Left → List ℕ → Type 0
BelowDrawn m s xs l ys = FillsBy (number m) (number_rules (length xs == 1) 4096 m (length xs) s) s xs l ys

abbrev pub PermutationDrawn : ℕ → Source → List ℕ → Left → List ℕ → Type 0
PermutationDrawn n s xs l ys = FillsRows false n (row_rules true false n (length xs) s) s xs l ys

-- as many as the buffer holds
abbrev pub FlipsFilled : Source → List ℕ → Left → List ℕ → Type 0
FlipsFilled s xs l ys = FillsBy flipped (word_rules true s) s xs l ys

abbrev pub BelowFilled : ℕ → Source → List ℕ → Left → List ℕ → Type 0
BelowFilled m s xs l ys = FillsBy (number m) (number_rules true 4096 m (length xs) s) s xs l ys

-- each a byte
abbrev pub BytesFilled : ℕ → Source → List ℕ → Left → List ℕ → Type 0
BytesFilled m s xs l ys = FillsBy (number m) (number_rules true 256 m (length xs) s) s xs l ys

abbrev pub PermutationsFilled : ℕ → Source → List ℕ → Left → List ℕ → Type 0
PermutationsFilled n s xs l ys = FillsRows false n (row_rules false false n (length xs) s) s xs l ys

-- Wolff's: permutations other than the identity, and grey numbers of 1 to 3
abbrev pub WolffFilled : ℕ → Source → List ℕ → Left → List ℕ → Type 0
WolffFilled n s xs l ys = FillsRows true n (row_rules false true n (length xs) s) s xs l ys

abbrev pub GreysFilled : Source → List ℕ → Left → List ℕ → Type 0
GreysFilled s xs l ys = FillsBy (number_from_one 3) (number_rules true 3 3 (length xs) s) s xs l ys

-- permutations of five as numbers: any, and Wolff's of 1 to 119, since 0 is the identity
abbrev pub NumbersFilled : Source → List ℕ → Left → List ℕ → Type 0
NumbersFilled s xs l ys = BytesFilled 120 s xs l ys

abbrev pub WolffNumbersFilled : Source → List ℕ → Left → List ℕ → Type 0
WolffNumbersFilled s xs l ys = FillsBy (number_from_one 119) (number_rules true 119 119 (length xs) s) s xs l ys
