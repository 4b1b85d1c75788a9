-- The numbers of the C interface: codes of modes, of forms, of codings and of what is kept, and what is returned for an answer.
use Rattle.std.specs.Prelude.{ℕ, zero, suc, ◌+◌, ◌≤◌, ◌≡◌, cond, List, [], ◌∷◌, length, get_or}
use Rattle.std.proofs.Math.Decide.{dec_le}
use Rattle.lemmas.specs.Cells.{table}
use Rattle.paper.specs.declared.Group.{Group}
use Rattle.paper.specs.declared.Mode.{Mode}
use Rattle.paper.specs.declared.Mode.TheVariants.{Houd, Pair, Perm, Gperm, Jorg, Cmr}
use Rattle.paper.specs.declared.Form.{Form}
use Rattle.paper.specs.declared.Form.TheVariants.{Sw, Wolff, Observe, Grow}
use Rattle.paper.specs.declared.Keeps.{Keeps}
use Rattle.paper.specs.declared.Keeps.TheVariants.{Nothing, Totals}
use Rattle.paper.specs.Answer.Cases.{Answer, Answer.Refused, Answer.Idle, Answer.Held, Answer.Moved}
use Rattle.paper.specs.Panel.Takes.{is_perm}
use Rattle.paper.specs.Answer.Number.{number}
use Rattle.coded.specs.declared.Coding.{Coding}
use Rattle.coded.specs.declared.Coding.TheVariants.{Rows, Numbers}

-- 0 houd, 1 pair, 2 perm, 3 gperm, 4 Jörg, 5 CMR; 0 SW, 1 Wolff, 2 observe, 3 grow; 0 rows, 1 numbers; 0 nothing is kept, 1 totals.
-- A coding is asked for in every mode and form, also where it is ignored
pub record Coded (mode form coding keeps : ℕ) : Type 0 where
  pub mode_known : mode ≤ 5
  pub form_known : form ≤ 3
  pub coding_known : coding ≤ 1
  pub keeps_known : keeps ≤ 1

abbrev pub mode_of : ℕ → Mode
mode_of zero = Houd
mode_of (suc zero) = Pair
mode_of (suc (suc zero)) = Perm
mode_of (suc (suc (suc zero))) = Gperm
mode_of (suc (suc (suc (suc zero)))) = Jorg
mode_of (suc (suc (suc (suc (suc k))))) = Cmr

abbrev pub form_of : ℕ → Form
form_of zero = Sw
form_of (suc zero) = Wolff
form_of (suc (suc zero)) = Observe
form_of (suc (suc (suc k))) = Grow

abbrev pub coding_of : ℕ → Coding
coding_of zero = Rows
coding_of (suc k) = Numbers

abbrev pub keeps_of : ℕ → Keeps
keeps_of zero = Nothing
keeps_of (suc k) = Totals

-- as many systems as are lent. A group has room for eight; more are refused for their number
abbrev pub group_of : List ℕ → Group
group_of xs = record { len = length xs; systems = table 8 (λ k. get_or xs k 0) }

-- the choices: of the two buffers that are lent the permutations in the modes that permute, in all others the flips
abbrev pub taken_of : Mode → List ℕ → List ℕ → List ℕ
taken_of mode flips perms = cond (is_perm mode) perms flips

-- a step's answer: the paper's number, and for idle and for held a mark of this interface on it
abbrev pub number_of : Answer → ℕ
number_of (Refused r) = number (Refused r)
number_of Idle = 64 + number Idle
number_of Held = 66 + number Held
number_of Moved = number Moved

-- what is returned: the number of an answer that is allowed
pub record Returned {A : Type 0} (numberBy : A → ℕ) (Allowed : A → Type 0) (r : ℕ) : Type 0 where
  pub answer : A
  pub allowed : Allowed answer
  pub number : r ≡ numberBy answer

-- a buffer that is lent for an answer's values gets them; where there are none it is kept
abbrev pub values_to : {A : Type 0} → List A → List A → List A
values_to [] xs = xs
values_to (v ∷ vs) xs = v ∷ vs

-- ---- laws

pub coded : (mode form coding keeps : ℕ) → Dec (Coded mode form coding keeps)
coded mode form coding keeps = go (dec_le mode 5) (dec_le form 3) (dec_le coding 1) (dec_le keeps 1)
  where
    go : Dec (mode ≤ 5) → Dec (form ≤ 3) → Dec (coding ≤ 1) → Dec (keeps ≤ 1) → Dec (Coded mode form coding keeps)
    go (yes m) (yes f) (yes c) (yes k) = yes (record { mode_known = m; form_known = f; coding_known = c; keeps_known = k })
    go (yes m) (yes f) (yes c) (no k) = no (λ d. k d.keeps_known)
    go (yes m) (yes f) (no c) k = no (λ d. c d.coding_known)
    go (yes m) (no f) c k = no (λ d. f d.form_known)
    go (no m) f c k = no (λ d. m d.mode_known)
