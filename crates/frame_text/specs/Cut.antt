-- What a reader may keep of a text: a part with the same answers.
use Rattle.std.specs.Prelude.{ℕ, suc, ◌+◌, ◌-◌, ◌%◌, ◌≤◌, ◌<◌, ◌≡◌, List, [], ◌++◌, length, get_or, take, drop}
use Rattle.std.proofs.Common.{ap, subst, arith, length-append, take-append-drop}
use Rattle.paper.specs.Answer.Frame.{FrameAnswers}
use Rattle.frame_text.specs.declared.Part.{Part}
use Rattle.frame_text.specs.declared.Part.TheVariants.{Enough, More}
use Rattle.frame_text.specs.Digits.{Digit}

-- the frame program writes the same for both
pub record SameAnswers (t u : List ℕ) : Type 0 where
  pub to : (out : List ℕ) → FrameAnswers t out → FrameAnswers u out
  pub from : (out : List ℕ) → FrameAnswers u out → FrameAnswers t out

-- what may follow the buffer's first n bytes: nothing, where they do not fill it
abbrev pub Follows : List ℕ → ℕ → List ℕ → Type 0
Follows buffer n rest = n < length buffer → rest ≡ []

-- a line that begins behind so many characters decides nothing: five good lines have at most 12,327
abbrev pub head : ℕ
head = 16384

-- so many digits are too many for every frame; d digits are cut to these, and one more where d is odd
abbrev pub long : ℕ
long = 16384

abbrev pub kept : ℕ → ℕ
kept d = long + d % 2

-- the buffer is full, and from s on, where a line begins early, digits alone stand
pub record Unended (buffer : List ℕ) (n s : ℕ) : Type 0 where
  pub full : length buffer ≤ n
  pub within : s ≤ length buffer
  pub early : s ≤ head
  pub begins : (k : ℕ) → s ≡ suc k → get_or buffer k 0 ≡ 10
  pub digits : (k : ℕ) → s ≤ k → k < length buffer → Digit (get_or buffer k 0)

-- all that is read is kept, and is answered as the whole text is, whatever follows
pub record EnoughAs (buffer : List ℕ) (n m : ℕ) : Type 0 where
  pub same : (rest : List ℕ) → Follows buffer n rest → SameAnswers (take n buffer ++ rest) (take m buffer)
  pub all : m ≡ length (take n buffer)
  pub ended : (s : ℕ) → Unended buffer n s → ⊥

-- of the last line so many digits are kept; with what follows they are answered as the whole text is
pub record MoreAs (buffer : List ℕ) (n m : ℕ) : Type 0 where
  pub same : (rest : List ℕ) → SameAnswers (take n buffer ++ rest) (take m buffer ++ rest)
  pub start : ℕ
  pub unended : Unended buffer n start
  pub cut : m ≡ start + kept (length buffer - start)

abbrev pub CutAs : List ℕ → ℕ → Part → Type 0
CutAs buffer n (Enough m) = EnoughAs buffer n m
CutAs buffer n (More m) = MoreAs buffer n m

-- ---- in the two arms of `match cut(..)`
pub enough_of : {buffer : List ℕ} {n m : ℕ} {r : Part} → r ≡ Enough m → CutAs buffer n r → EnoughAs buffer n m
enough_of {buffer} {n} e c = subst (CutAs buffer n) e c

pub more_of : {buffer : List ℕ} {n m : ℕ} {r : Part} → r ≡ More m → CutAs buffer n r → MoreAs buffer n m
more_of {buffer} {n} e c = subst (CutAs buffer n) e c

pub enough_fits : {buffer : List ℕ} {n m : ℕ} → EnoughAs buffer n m → m ≤ length buffer
enough_fits {buffer} {n} e =
    omega (arith, e.all, length-append (take n buffer) (drop n buffer), ap (length {A = ℕ}) (take-append-drop n buffer))

pub more_fits : {buffer : List ℕ} {n m : ℕ} → MoreAs buffer n m → m ≤ head + long + 1
more_fits c = omega (arith, c.cut, c.unended.early)
