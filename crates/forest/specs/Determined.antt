-- How tight the promise is: what it allows for one input is one number of components and one content of each lent buffer.
use Rattle.std.specs.Prelude.{ℕ, ◌≡◌, List}
use Rattle.std.proofs.Common.{sym, ◌∙◌, ext_get_or}
use Rattle.paper.specs.Component.Marks.{marked}
use Rattle.paper.specs.Component.Sizes.{Sized}
use Rattle.laws.specs.Unique.{labels_unique, found_unique}
use Rattle.forest.specs.Contract.{graph_of, Labelled}

pub record SameNumbers (l l' t t' : List ℕ) (m m' : ℕ) : Type 0 where
  pub labels : l ≡ l'
  pub tally : t ≡ t'
  pub found : m ≡ m'

tally_unique : (l t t' : List ℕ) → Sized l t → Sized l t' → t ≡ t'
tally_unique l t t' h h' = ext_get_or 0 t t' (h.long ∙ sym h'.long) (λ i il. h.each i (rw h.long at il) ∙ sym (h'.each i (rw h.long at il)))

pub label_determined : (n d : ℕ) (fwd holds l l' t t' : List ℕ) (m m' : ℕ) → Labelled n d fwd holds l t m → Labelled n d fwd holds l' t' m'
    → SameNumbers l l' t t' m m'
label_determined n d fwd holds l l' t t' m m' h h' = record {
  labels = same;
  tally = tally_unique l t t' h.sized (rw same h'.sized);
  found = found_unique (graph_of n d fwd) (marked d holds) l l' h.labels h'.labels;
}
  where
    same : l ≡ l'
    same = labels_unique (graph_of n d fwd) (marked d holds) l l' h.labels h'.labels
