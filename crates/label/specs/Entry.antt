-- What `components` answers, for every input, and what every lent buffer then holds.
use Rattle.std.specs.Prelude.{ℕ, ◌+◌, ◌*◌, ◌≤◌, ◌<◌, ◌≡◌, List, [], ◌∷◌, length, get_or}
use Rattle.paper.specs.Refusal.Rule.{Rule, rule, Broken}
use Rattle.paper.specs.Refusal.Rules.{Sizes}
use Rattle.paper.specs.Refusal.Verdict.{Verdict}
use Rattle.label.specs.Labelling.{Labelling, Labelling.Unlabelled, Labelling.Written}
use Rattle.label.specs.Contract.{Seen}

pub record Request : Type 0 where
  pub n : ℕ
  pub d : ℕ
  pub fwd : List ℕ
  pub holds : List ℕ
  pub counted : List ℕ

-- the lent buffers, before the call or after it
pub record Lent : Type 0 where
  pub labels : List ℕ
  pub counts : List ℕ
  pub sizes : List ℕ
  pub found : List ℕ

pub record ExactLengths (n d fwd holds counted labels counts sizes found : ℕ) : Type 0 where
  pub fwd_long : fwd ≡ n * d
  pub holds_long : holds ≡ n * d
  pub counted_long : counted ≡ n
  pub labels_long : labels ≡ n
  pub counts_long : counts ≡ n + 1
  pub sizes_long : sizes ≡ 4
  pub found_long : found ≡ 1

abbrev pub Exact : Request → Lent → Type 0
Exact r b =
    ExactLengths r.n r.d (length r.fwd) (length r.holds) (length r.counted) (length b.labels) (length b.counts) (length b.sizes)
    (length b.found)

abbrev pub Below : ℕ → List ℕ → Type 0
Below n xs = (k : ℕ) → k < length xs → get_or xs k 0 < n

abbrev pub Bits : List ℕ → Type 0
Bits xs = (k : ℕ) → k < length xs → get_or xs k 0 ≤ 1

-- the refusals in their order. Sizes are those of a panel with one system
abbrev pub rules : Request → Lent → List Rule
rules r b =
    rule 1 (Sizes r.n r.d 1) ∷ rule 2 (Exact r b) ∷ rule 4 (Below r.n r.fwd) ∷ rule 9 (Bits r.holds) ∷ rule 9 (Bits r.counted) ∷ []

-- the paper's number of an answer, 0 where the call is accepted: the verdict of the rules. Its values are what is written
abbrev pub labelling_number : Labelling → ℕ
labelling_number (Unlabelled c) = c
labelling_number Written = 0

-- refused with the number c: nothing is written
pub record Refuses (r : Request) (b : Lent) (c : ℕ) (b' : Lent) : Type 0 where
  pub why : Broken (rules r b) c
  pub kept : b' ≡ b

-- accepted: the labels of the bonds whose byte is 1, how many there are, and the counts and sizes of the components whose smallest site's byte is 1
pub record Accepts (r : Request) (b b' : Lent) : Type 0 where
  pub valid : Verdict (rules r b) (labelling_number Written)
  pub seen : Seen r.n r.d r.fwd r.holds r.counted b'.labels b'.counts b'.sizes (get_or b'.found 0 0)
  pub one : length b'.found ≡ 1

-- the answer a may be given to the request r with the lent buffers b, which then hold b'
abbrev pub Answers : Request → Lent → Labelling → Lent → Type 0
Answers r b (Unlabelled c) b' = Refuses r b (labelling_number (Unlabelled c)) b'
Answers r b Written b' = Accepts r b b'
