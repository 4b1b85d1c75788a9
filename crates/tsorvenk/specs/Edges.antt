-- What `tsorvenk_write_edges` answers; `tsorvenk_read_edges` answers as `read_edges` does.
use Rattle.std.specs.Prelude.{ℕ, ◌≡◌, List, ◌∷◌, length, ℤ}
use Rattle.paper.specs.Refusal.Rule.{Rule, rule, Broken}
use Rattle.paper.specs.Refusal.Rules.{Sizes}
use Rattle.edges.specs.Cases.{Listing, Listing.Unlisted, Listing.Wrote}
use Rattle.edges.specs.Answer.{Net, listing_number, listing_values, write_rules, WriteAnswers}
use Rattle.tsorvenk.specs.Number.{Returned, values_to}

-- what is lent to write to: the list's text, and a buffer of one number for its length
pub record Lists : Type 0 where
  pub text : List ℕ
  pub written : List ℕ

abbrev pub lists : List ℕ → List ℕ → Lists
lists text ws = record { text = text; written = ws }

-- the writer's rules, with the buffer of one number as one more of test 2
abbrev pub list_rules : Net → List ℤ → Lists → List Rule
list_rules g js l = rule 1 (Sizes g.n g.d 1) ∷ rule 2 (length l.written ≡ 1) ∷ write_rules g js l.text

-- the list is written, of m bytes
pub record Listed (g : Net) (js : List ℤ) (l : Lists) (m : ℕ) (l' : Lists) : Type 0 where
  pub room : length l.written ≡ 1
  pub writes : WriteAnswers g js l.text (Wrote m) l'.text
  pub length_told : l'.written ≡ values_to (listing_values (Wrote m)) l.written

-- refused with the number c: nothing is written
pub record ListRefuses (g : Net) (js : List ℤ) (l : Lists) (c : ℕ) (l' : Lists) : Type 0 where
  pub why : Broken (list_rules g js l) c
  pub kept : l' ≡ l

abbrev pub ListAs : Net → List ℤ → Lists → Listing → Lists → Type 0
ListAs g js l (Unlisted c) l' = ListRefuses g js l (listing_number (Unlisted c)) l'
ListAs g js l (Wrote m) l' = Listed g js l m l'

abbrev pub ListNumbers : Net → List ℤ → Lists → ℕ → Lists → Type 0
ListNumbers g js l r l' = Returned listing_number (λ a. ListAs g js l a l') r
