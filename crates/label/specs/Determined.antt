-- How tight the promise is: what it allows for one input is one answer and one content of every lent buffer.
use Rattle.std.specs.Prelude.{ℕ, ◌≡◌, refl}
use Rattle.std.proofs.Common.{sym, ◌∙◌, ap}
use Rattle.paper.specs.Component.Marks.{marked}
use Rattle.paper.specs.Refusal.Rule.{Kept, Broken, broken_unique, broken_not_kept}
use Rattle.laws.specs.Unique.{numbered_unique}
use Rattle.sizes.specs.Determined.{SameSizes, count_determined}
use Rattle.label.specs.Labelling.{Labelling, Labelling.Unlabelled, Labelling.Written}
use Rattle.label.specs.Contract.{graph_of}
use Rattle.label.specs.Entry.{Request, Lent, rules, Accepts, Answers}

pub record Same (a a' : Labelling) (b b' : Lent) : Type 0 where
  pub answer : a ≡ a'
  pub buffers : b ≡ b'

module _ (r : Request) (b y z : Lent) where
  written_same : Accepts r b y → Accepts r b z → y ≡ z
  written_same p q = λ i. record { labels = l i; counts = two.counts i; sizes = two.sizes i; found = both.1 i }
    where
      both : (y.labels ≡ z.labels) × (y.found ≡ z.found)
      both =
          numbered_unique (graph_of r.n r.d r.fwd) (marked r.d r.holds) y.labels z.labels y.found z.found
          (record { labels = p.seen.labels; one = p.one }) (record { labels = q.seen.labels; one = q.one })

      l : y.labels ≡ z.labels
      l = both.0

      two : SameSizes y.counts z.counts y.sizes z.sizes
      two = count_determined y.labels y.counts z.counts y.sizes z.sizes p.seen.reported (rw l q.seen.reported)

  pub components_determined : (a a' : Labelling) → Answers r b a y → Answers r b a' z → Same a a' y z
  components_determined (Unlabelled c) (Unlabelled e) p q = record {
    answer = ap Unlabelled
        (broken_unique (rules r b) c e p.why q.why);
    buffers = p.kept ∙ sym q.kept;
  }
  components_determined (Unlabelled c) Written p q = absurd (broken_not_kept (rules r b) c p.why q.valid)
  components_determined Written (Unlabelled e) p q = absurd (broken_not_kept (rules r b) e q.why p.valid)
  components_determined Written Written p q = record { answer = refl; buffers = written_same p q }

-- `given exactly when`: where rule c is the first that is broken the answer is the refusal c, and where all are kept it is none
pub must_refuse : (r : Request) (b b' : Lent) (a : Labelling) (c : ℕ) → Answers r b a b' → Broken (rules r b) c → a ≡ Unlabelled c
must_refuse r b b' (Unlabelled e) c p w = ap Unlabelled (broken_unique (rules r b) e c p.why w)
must_refuse r b b' Written c p w = absurd (broken_not_kept (rules r b) c w p.valid)

pub must_label : (r : Request) (b b' : Lent) (c : ℕ) → Answers r b (Unlabelled c) b' → Kept (rules r b) → ⊥
must_label r b b' c p k = broken_not_kept (rules r b) c p.why k
