-- What each reading function promises: a number, a site, a coupling, a line and the first line, at a place of the text.
use Rattle.std.specs.Prelude.{ℕ, suc, ◌+◌, ◌-◌, ◌≤◌, ◌<◌, ◌≡◌, false, cond, List, ◌++◌, leb, length, get_or, drop, ℤ, pos, negsuc}
use Rattle.edge_text.specs.Outcome.{Number}
use Rattle.edge_text.specs.Outcome.Number.{At, Bad}
use Rattle.edge_text.specs.Outcome.{Line}
use Rattle.edge_text.specs.Outcome.Line.{Good, None}
use Rattle.edge_text.specs.declared.Edge.{Edge}
use Rattle.edge_text.specs.Decimal.{lead, rest, gather, Held, is_digit}
use Rattle.edge_text.specs.Form.{line_of, head_of}
use Rattle.edge_text.specs.Numbers.{Begins, Signed}

-- the digits from the place a on end at e
pub record RunAs (t : List ℕ) (a v e : ℕ) : Type 0 where
  pub is : v ≡ gather 0 (lead (drop a t))
  pub behind : drop e t ≡ rest (drop a t)
  pub long : e ≡ a + length (lead (drop a t))
  pub within : e ≤ length t

-- ---- a number with the character c behind it; from `limit` on only its size is known
pub record NumberAt (t : List ℕ) (a c v e : ℕ) : Type 0 where
  pub number : ℕ
  pub is : Begins (drop a t) number c (drop e t)
  pub held : Held v number
  pub within : e ≤ length t

abbrev pub NumberAs : List ℕ → ℕ → ℕ → Number → Type 0
NumberAs t a c (At v e) = NumberAt t a c v e
NumberAs t a c Bad = (w : ℕ) (r : List ℕ) → Begins (drop a t) w c r → ⊥

-- ---- a number that is at most m, and the character c behind it
pub record ExactAt (t : List ℕ) (a c m v e : ℕ) : Type 0 where
  pub is : Begins (drop a t) v c (drop e t)
  pub small : v ≤ m
  pub within : e ≤ length t

abbrev pub ExactAs : List ℕ → ℕ → ℕ → ℕ → Number → Type 0
ExactAs t a c m (At v e) = ExactAt t a c m v e
ExactAs t a c m Bad = (w : ℕ) (r : List ℕ) → w ≤ m → Begins (drop a t) w c r → ⊥

-- ---- a site among n, counted from 0, and a blank
pub record SiteAt (t : List ℕ) (a n i e : ℕ) : Type 0 where
  pub is : Begins (drop a t) (suc i) 32 (drop e t)
  pub small : i < n
  pub within : e ≤ length t

abbrev pub SiteAs : List ℕ → ℕ → ℕ → Number → Type 0
SiteAs t a n (At i e) = SiteAt t a n i e
SiteAs t a n Bad = (i : ℕ) (r : List ℕ) → i < n → Begins (drop a t) (suc i) 32 r → ⊥

-- ---- a coupling as one number above 0: 1,000,001 more than it, and 2,000,002 where it is too large in size
abbrev pub plus_code : ℕ → ℕ
plus_code v = cond (leb v 1000000) (1000001 + v) 2000002

abbrev pub minus_code : ℕ → ℕ
minus_code v = cond (leb v 1000000) (1000001 - v) 2000002

abbrev pub code_of : ℤ → ℕ
code_of (pos v) = plus_code v
code_of (negsuc v) = minus_code (suc v)

pub record CouplingAt (t : List ℕ) (a x e : ℕ) : Type 0 where
  pub coupling : ℤ
  pub is : Signed (drop a t) coupling 10 (drop e t)
  pub code : x ≡ code_of coupling
  pub within : e ≤ length t

-- a minus stands at the place a; and what may stand behind it
pub record HasMinus (t : List ℕ) (a : ℕ) : Type 0 where
  pub inside : a < length t
  pub is : get_or t a 0 ≡ 45

pub record MinusAt (t : List ℕ) (a x e : ℕ) : Type 0 where
  pub number : ℕ
  pub is : Begins (drop a t) (suc number) 10 (drop e t)
  pub code : x ≡ minus_code (suc number)
  pub within : e ≤ length t

abbrev pub MinusAs : List ℕ → ℕ → Number → Type 0
MinusAs t a (At x e) = MinusAt t a x e
MinusAs t a Bad = (w : ℕ) (r : List ℕ) → Begins (drop a t) (suc w) 10 r → ⊥

abbrev pub CouplingAs : List ℕ → ℕ → Number → Type 0
CouplingAs t a (At x e) = CouplingAt t a x e
CouplingAs t a Bad = (z : ℤ) (r : List ℕ) → Signed (drop a t) z 10 r → ⊥

-- ---- a line whose sites are among n
pub record LineAt (t : List ℕ) (a n i j x e : ℕ) : Type 0 where
  pub coupling : ℤ
  pub is : drop a t ≡ line_of (record { from = i; to = j; coupling = coupling }) ++ drop e t
  pub code : x ≡ code_of coupling
  pub from_small : i < n
  pub to_small : j < n
  pub within : e ≤ length t

abbrev pub LineAs : List ℕ → ℕ → ℕ → Line → Type 0
LineAs t a n (Good i j x e) = LineAt t a n i j x e
LineAs t a n None = (l : Edge) (r : List ℕ) → l.from < n → l.to < n → drop a t ≡ line_of l ++ r → ⊥

-- ---- the first line of a list for n sites, with at most `most` lines
pub record HeadAt (t : List ℕ) (n most m e : ℕ) : Type 0 where
  pub is : t ≡ head_of n m ++ drop e t
  pub few : m ≤ most
  pub within : e ≤ length t

abbrev pub HeadAs : List ℕ → ℕ → ℕ → Number → Type 0
HeadAs t n most (At m e) = HeadAt t n most m e
HeadAs t n most Bad = (m : ℕ) (r : List ℕ) → m ≤ most → t ≡ head_of n m ++ r → ⊥

-- what the functions ask: a place of the text, and a character behind the number that is no digit, or a bound that is far below the limit
pub record Ended (t : List ℕ) (a c : ℕ) : Type 0 where
  pub inside : a ≤ length t
  pub no_digit : is_digit c ≡ false

pub record Bounded (t : List ℕ) (a c m : ℕ) : Type 0 where
  pub ended : Ended t a c
  pub low : m ≤ 1000000

pub record Place (t : List ℕ) (a n : ℕ) : Type 0 where
  pub inside : a ≤ length t
  pub low : n ≤ 1000000

pub record Counts (n most : ℕ) : Type 0 where
  pub n_low : n ≤ 1000000
  pub most_low : most ≤ 1000000
