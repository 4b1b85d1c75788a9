-- Each test's promise allows one answer.
use Rattle.std.specs.Prelude.{ℕ, ◌+◌, ◌*◌, ◌≤◌, ◌<◌, ◌≡◌, Bool, List, ℤ, length, get_or, Float}
use Rattle.std.specs.Float.{nan}
use Rattle.lemmas.specs.Tells.{Tells, tells_determined}
use Rattle.paper.specs.declared.Group.{Group}
use Rattle.paper.specs.declared.Mode.{Mode}
use Rattle.paper.specs.declared.Form.{Form}
use Rattle.paper.specs.Refusal.Rules.{When, Sizes, Ranged, HoudOfTwo, order_names, Listed, Grouped, SmallCouplings, Warm, Cuts, Permutes, NotIdentity}
use Rattle.lattice.specs.Spinning.{AllSpins}

-- any two answers r and r' that tell of P are equal
abbrev pub OneAnswer : Type 0 → Type 0
OneAnswer P = (r r' : Bool) → Tells r P → Tells r' P → r ≡ r'

pub sizes_ok_determined : (n d s : ℕ) → OneAnswer (Sizes n d s)
sizes_ok_determined n d s = tells_determined _

pub houd_ok_determined : (mode : Mode) (form : Form) (m : ℕ) → OneAnswer (HoudOfTwo mode form m)
houd_ok_determined mode form m = tells_determined _

pub ranged_determined : (n d s : ℕ) (mode : Mode) (m : ℕ) → OneAnswer (Ranged n d s mode m)
ranged_determined n d s mode m = tells_determined _

pub fits_determined : (taken : Bool) (len want : ℕ) → OneAnswer (When taken (len ≡ want))
fits_determined taken len want = tells_determined _

pub spins_ok_determined : (spins : List ℤ) → OneAnswer (AllSpins spins)
spins_ok_determined spins = tells_determined _

pub couplings_ok_determined : (js : List ℤ) → OneAnswer (SmallCouplings js)
couplings_ok_determined js = tells_determined _

pub couplings_fit_determined : (taken : Bool) (js : List ℤ) → OneAnswer (When taken (SmallCouplings js))
couplings_fit_determined taken js = tells_determined _

pub temperature_ok_determined : (t : Float) → OneAnswer (Warm t)
temperature_ok_determined t = tells_determined _

pub temperatures_ok_determined : (ts : List Float) → OneAnswer ((j : ℕ) → j < length ts → Warm (get_or ts j nan))
temperatures_ok_determined ts = tells_determined _

pub cuts_ok_determined : (cuts : List Float) → OneAnswer (Cuts cuts)
cuts_ok_determined cuts = tells_determined _

pub bytes_at_most_determined : (xs : List ℕ) (top : ℕ) → OneAnswer ((k : ℕ) → k < length xs → get_or xs k 0 ≤ top)
bytes_at_most_determined xs top = tells_determined _

pub group_ok_determined : (s : ℕ) (g : Group) → OneAnswer (Grouped s g)
group_ok_determined s g = tells_determined _

pub order_ok_determined : (s : ℕ) (order : List ℕ) → OneAnswer (Listed s (order_names order))
order_ok_determined s order = tells_determined _

pub permutations_ok_determined : (rows m : ℕ) (perms : List ℕ) → OneAnswer ((r : ℕ) → r < rows → Permutes m (λ k. get_or perms (r * m + k) 0))
permutations_ok_determined rows m perms = tells_determined _

pub not_identity_determined : (row : List ℕ) → OneAnswer (NotIdentity (length row) (λ k. get_or row k 0))
not_identity_determined row = tells_determined _
