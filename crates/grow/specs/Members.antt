-- Members of a cluster, for one rule of bonds and for another.
use Rattle.std.specs.Prelude.{ℕ, ◌<◌, ◌≡◌, Bool, true, List, length, get_or}
use Rattle.std.proofs.Common.{sym, ◌∙◌, arith}
use Rattle.std.proofs.Math.Decide.{dec_lt}
use Rattle.std.proofs.Math.ListN.{get_or-eq_default}
use Rattle.paper.specs.Component.Links.{Linked.stay, Linked.along, bind}
use Rattle.paper.specs.Component.Labels.{Bond, Joined}
use Rattle.paper.specs.Component.Members.{Members}
use Rattle.paper.specs.Panel.Input.{Graph}

-- a byte 1 is a site's: a place behind them reads as 0
pub inside : (members : List ℕ) (i : ℕ) → get_or members i 0 ≡ 1 → i < length members
inside members i e = at (dec_lt i (length members))
  where
    at : Dec (i < length members) → i < length members
    at (yes l) = l
    at (no l) = let z : get_or members i 0 ≡ 0 = get_or-eq_default members 0 (omega arith) in absurd (omega arith)

-- ---- one rule and another: where each bond that holds by h does so by g, what h joins g joins
abbrev pub Implies : Graph → (ℕ → ℕ → Bool) → (ℕ → ℕ → Bool) → Type 0
Implies t h g = (i e : ℕ) → i < t.n → e < t.d → h i e ≡ true → g i e ≡ true

pub joined_more : {t : Graph} {h g : ℕ → ℕ → Bool} {a b : ℕ} → Implies t h g → Joined t h a b → Joined t g a b
joined_more {t} {h} {g} w j = bind step j
  where
    step : (a b : ℕ) → Bond t h a b → Joined t g a b
    step a b s = along (record { site = s.site; dir = s.dir; dir_lt = s.dir_lt; on = w a s.dir s.site s.dir_lt s.on; leads = s.leads }) stay

-- so two rules that say the same of each bond have the same members
pub members_by :
    {t : Graph} {h g : ℕ → ℕ → Bool} {seed : ℕ} {members : List ℕ}
    → ((i e : ℕ) → i < t.n → e < t.d → h i e ≡ g i e) → Members t h seed members → Members t g seed members
members_by {t} {h} {g} same m = record {
  long = m.long;
  byte = m.byte;
  joined = λ i il e. joined_more (λ i e il el on. sym (same i e il el) ∙ on) (m.joined i il e);
  marked = λ i il j. m.marked i il (joined_more (λ i e il el on. same i e il el ∙ on) j);
}
