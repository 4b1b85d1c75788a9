-- One cluster turned: at each listed site the group's pattern before the move becomes the one after it. First its column is chosen, and then written.
use Rattle.std.specs.Prelude.{ℕ, ◌≤◌, ◌<◌, ◌^◌, ◌≡◌, ◌≢◌, Bool, true, cond, List, [], ltb, length, get_or, ℤ}
use Rattle.paper.specs.declared.Form.{Form}
use Rattle.paper.specs.declared.Group.{Group}
use Rattle.paper.specs.declared.Task.{Task}
use Rattle.paper.specs.Panel.Input.{Call, Pattern, member, spin, pattern_of}
use Rattle.paper.specs.Panel.Made.{call_of, choices_of}
use Rattle.paper.specs.Panel.Takes.{is_perm, is_cmr, entry}
use Rattle.paper.specs.Move.Moving.{flip_by, flip_some, act_by, grey_at, grey_bit}
use Rattle.paper.specs.Refusal.Rules.{When, Spin, Distinct, Permutes}
use Rattle.columns.specs.Column.{shown, column_of, Inside}
use Rattle.column_rules.specs.Acted.{choice_column}
use Rattle.column_rules.specs.Sight.{Sighted}
use Rattle.choose.specs.Chosen.{greyed}

-- ---- what a member becomes

-- the call, as far as a choice reads it: no table and no coupling
abbrev pub bare : Task → Call
bare t = call_of t [] [] [] [] []

-- the pattern f of a member, with P at the reference site: where it acts the cluster's choice is made
abbrev pub acted_to : Task → List ℕ → List ℕ → Pattern → Bool → Pattern → Pattern
acted_to t choices greys P acts f k = cond acts (act_by t.mode (bare t) (choices_of choices greys) P 0 f k) (f k)

-- and in CMR the grey number's flips second
abbrev pub turned_to : Task → List ℕ → List ℕ → Pattern → Bool → Pattern → Pattern
turned_to t choices greys P acts f k =
    cond (is_cmr t.mode) (flip_some (grey_bit (grey_at t.form greys 0)) (acted_to t choices greys P acts f) k) (acted_to t choices greys P acts f k)

-- the same on its column
abbrev pub acted_column : Task → ℕ → List ℕ → Bool → ℕ → ℕ
acted_column t gauge choices acts x = cond acts (choice_column t.mode t.form t.group.len gauge choices 0 x) x

abbrev pub turned_column : Task → ℕ → List ℕ → List ℕ → Bool → ℕ → ℕ
turned_column t gauge choices greys acts x =
    cond (is_cmr t.mode) (greyed (grey_at t.form greys 0) (acted_column t gauge choices acts x)) (acted_column t gauge choices acts x)

-- ---- what is asked

-- a form that has one cluster: its flip is chosen, and it has the first entry of the choices
pub record OneCluster (form : Form) (choices : List ℕ) : Type 0 where
  pub flips : (r : ℕ) → flip_by form choices r ≡ true
  pub first : (r : ℕ) → entry form r ≡ 0

-- in perm and gperm one permutation
pub record Chooses (t : Task) (choices : List ℕ) : Type 0 where
  pub size_low : 1 ≤ t.group.len
  pub size_high : t.group.len ≤ 8
  pub one : OneCluster t.form choices
  pub long : When (is_perm t.mode) (length choices ≡ t.group.len)
  pub perm : When (is_perm t.mode) (Permutes t.group.len (λ k. get_or choices k 0))

-- in CMR a grey number, and a column of two systems
pub record Turns (t : Task) (choices greys : List ℕ) (column : ℕ) : Type 0 where
  pub chooses : Chooses t choices
  pub two : When (is_cmr t.mode) (t.group.len ≡ 2)
  pub lent : When (is_cmr t.mode) (1 ≤ length greys)
  pub small : When (is_cmr t.mode) (get_or greys 0 0 ≤ 3)
  pub narrow : column < 2 ^ t.group.len

-- a list of different sites with the column of each, and an area for the new ones
pub record Choosable (t : Task) (choices greys list cols : List ℕ) (len area : ℕ) : Type 0 where
  pub chooses : Chooses t choices
  pub two : When (is_cmr t.mode) (t.group.len ≡ 2)
  pub lent : When (is_cmr t.mode) (1 ≤ length greys)
  pub small : When (is_cmr t.mode) (get_or greys 0 0 ≤ 3)
  pub long : len ≤ length list
  pub sites : (x : ℕ) → x < len → get_or list x 0 < t.n
  pub apart : Distinct len (λ x. get_or list x 0)
  pub cols_room : t.n ≤ length cols
  pub area_room : t.n ≤ area
  pub narrow : (x : ℕ) → x < len → get_or cols (get_or list x 0) 0 < 2 ^ t.group.len

-- the group's rows, a list of sites, and columns
pub record ListWritable (n : ℕ) (g : Group) (xs : List ℤ) (list : List ℕ) (len : ℕ) (news : List ℕ) : Type 0 where
  pub few : g.len ≤ 8
  pub inside : Inside n g xs
  pub distinct : Distinct g.len (member g)
  pub long : len ≤ length list
  pub sites : (x : ℕ) → x < len → get_or list x 0 < n
  pub room : n ≤ length news

-- the group's spins, and a list of different sites, with the column of each
pub record Turnable (t : Task) (xs : List ℤ) (choices greys list cols : List ℕ) (len : ℕ) : Type 0 where
  pub panel : Sighted t.mode t.n t.group t.reference xs
  pub distinct : Distinct t.group.len (member t.group)
  pub chooses : Chooses t choices
  pub two : When (is_cmr t.mode) (t.group.len ≡ 2)
  pub lent : When (is_cmr t.mode) (1 ≤ length greys)
  pub small : When (is_cmr t.mode) (get_or greys 0 0 ≤ 3)
  pub long : len ≤ length list
  pub sites : (x : ℕ) → x < len → get_or list x 0 < t.n
  pub apart : Distinct len (λ x. get_or list x 0)
  pub room : t.n ≤ length cols
  pub kept : (x : ℕ) → x < len → get_or cols (get_or list x 0) 0 ≡ column_of t.group.len (pattern_of t.n t.group xs (get_or list x 0))

-- ---- what is promised

-- the first `len` sites of the list have their new columns, of which the first `blue` act, and the area is else as it was
pub record ColumnsTurned (t : Task) (gauge : ℕ) (choices greys list cols : List ℕ) (blue len : ℕ) (news news' : List ℕ) : Type 0 where
  pub long : length news' ≡ length news
  pub listed : (x : ℕ) → x < len
      → get_or news' (get_or list x 0) 0 ≡ turned_column t gauge choices greys (ltb x blue) (get_or cols (get_or list x 0) 0)
  pub others : (i : ℕ) → ((x : ℕ) → x < len → i ≢ get_or list x 0) → get_or news' i 0 ≡ get_or news i 0

-- ys is xs with the group's spins at the first `len` sites of the list written from their columns
pub record ListWritten (n : ℕ) (g : Group) (list : List ℕ) (len : ℕ) (news : List ℕ) (xs ys : List ℤ) : Type 0 where
  pub long : length ys ≡ length xs
  pub listed : (x k : ℕ) → x < len → k < g.len → pattern_of n g ys (get_or list x 0) k ≡ shown (get_or news (get_or list x 0) 0) k
  pub others : (i s : ℕ) → i < n → ((x : ℕ) → x < len → i ≢ get_or list x 0) → spin n ys s i ≡ spin n xs s i
  pub systems : (i s : ℕ) → i < n → ((k : ℕ) → k < g.len → s ≢ member g k) → spin n ys s i ≡ spin n xs s i
  -- with no sites there are no rows
  pub empty : n ≡ 0 → ys ≡ xs

-- both together: ys is xs with the group turned at the first `len` sites of the list, of which the first `blue` act
pub record Turned (t : Task) (choices greys list : List ℕ) (blue len : ℕ) (xs ys : List ℤ) : Type 0 where
  pub long : length ys ≡ length xs
  pub listed : (x k : ℕ) → x < len → k < t.group.len
      → pattern_of t.n t.group ys (get_or list x 0) k
      ≡ turned_to t choices greys (pattern_of t.n t.group xs t.reference) (ltb x blue) (pattern_of t.n t.group xs (get_or list x 0)) k
  -- which are spins again
  pub spins : (x k : ℕ) → x < len → k < t.group.len → Spin (pattern_of t.n t.group ys (get_or list x 0) k)
  pub others : (i s : ℕ) → i < t.n → ((x : ℕ) → x < len → i ≢ get_or list x 0) → spin t.n ys s i ≡ spin t.n xs s i
  pub systems : (i s : ℕ) → i < t.n → ((k : ℕ) → k < t.group.len → s ≢ member t.group k) → spin t.n ys s i ≡ spin t.n xs s i
  pub empty : t.n ≡ 0 → ys ≡ xs
