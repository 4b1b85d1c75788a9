-- From the tests, the labels and what each component allows to the answer.
use Rattle.std.specs.Prelude.{ℕ, zero, suc, ◌≤◌, ◌<◌, ◌≡◌, refl, List, length, get_or, ℤ}
use Rattle.std.proofs.Common.{sym, ◌∙◌, ap, subst, arith}
use Rattle.std.proofs.Math.Decide.{dec_lt}
use Rattle.paper.specs.declared.Task.{Task}
use Rattle.paper.specs.Panel.Input.{Call, graph, pattern, pattern_of}
use Rattle.paper.specs.Site.Bonds.{holds}
use Rattle.paper.specs.Component.Labels.{Labels}
use Rattle.paper.specs.Refusal.Rule.{Kept}
use Rattle.paper.specs.Refusal.Rules.{Spin}
use Rattle.paper.specs.Refusal.Verdict.{Verdict, kept_both, broken_first, broken_later}
use Rattle.laws.specs.Numbering.{found_le}
use Rattle.laws.specs.Unique.{label_lt}
use Rattle.columns.specs.Column.{Columns, Inside}
use Rattle.packing.specs.Bytes.{rows_of, bytes_of, own_group}
use Rattle.packing.proofs.Laws.{own_pattern, own_inside, columns_bytes, bytes_narrow, pack_unpack}
use Rattle.matching.specs.Sources.{Panel}
use Rattle.matching.specs.Explain.{Explains}
use Rattle.vendor.specs.Vendor.{Fair, vendor_rules, Refuses, Denies, Accepts, asked_by}
use Rattle.vendor.specs.Offered.{head_rules, Offered, offered_kept}
use Rattle.vendor.specs.Observed.{Observable, table_rules, Labelled}
use Rattle.vendor.specs.FairBytes.{Paired, gauge_byte, fair_fitted, fitted_fair, least_row}

-- ---- the rules
module _ {c : Call} {xs ys : List ℤ} {rows : List ℕ} where
  pub refuses_head : (k : ℕ) → (k ≡ 0 → ⊥) → Verdict (head_rules c xs ys rows) k → Refuses c xs ys rows k rows
  refuses_head zero n w = absurd (n refl)
  refuses_head (suc k) n w = record { why = broken_first (head_rules c xs ys rows) (table_rules c) (suc k) w; kept = refl }

  pub refuses_table : (k : ℕ) → (k ≡ 0 → ⊥) → Offered c xs ys rows → Verdict (table_rules c) k → Refuses c xs ys rows k rows
  refuses_table zero n o w = absurd (n refl)
  refuses_table (suc k) n o w = record { why = broken_later (head_rules c xs ys rows) (table_rules c) (suc k) (offered_kept o) w; kept = refl }

  pub all_kept : Offered c xs ys rows → Kept (table_rules c) → Kept (vendor_rules c xs ys rows)
  all_kept o k = kept_both (head_rules c xs ys rows) (table_rules c) (offered_kept o) k

-- ---- the bytes
module _ (t : Task) (fwd bwd pins : List ℕ) (xs ys : List ℤ) (rows : List ℕ) (o : Offered (asked_by t fwd bwd pins) xs ys rows) where
  abbrev c : Call
  c = asked_by t fwd bwd pins

  abbrev m : ℕ
  m = t.group.len

  few : m ≤ 8
  few = o.ranged.size_high

  pub inside_before : Inside t.n (own_group m) xs
  inside_before = own_inside m few t.n xs o.lent.before

  pub inside_after : Inside t.n (own_group m) ys
  inside_after = own_inside m few t.n ys o.lent.after

  spins_before : (i k : ℕ) → i < t.n → k < m → Spin (pattern c xs i k)
  spins_before i k hi hk = rw (own_pattern m few t.n xs i k hk) (o.before k i hk hi)

  spins_after : (i k : ℕ) → i < t.n → k < m → Spin (pattern c ys i k)
  spins_after i k hi hk = rw (own_pattern m few t.n ys i k hk) (o.after k i hk hi)

  module _ {olds : List ℕ} (packed : Columns t.n m (pattern_of t.n (own_group m) xs) olds) where
    is_bytes : olds ≡ bytes_of m t.n xs
    is_bytes = columns_bytes m few t.n xs olds packed

    -- the bytes stand for the rows
    pub rows_are : rows_of m olds ≡ xs
    rows_are = ap (rows_of m) is_bytes ∙ pack_unpack m t.n xs o.lent.before o.before

    pub observable : {labels : List ℕ} → length labels ≡ t.n → Observable t olds fwd bwd pins labels
    observable long = record {
      ranged = o.ranged;
      perm = o.perm;
      long = packed.long;
      narrow = rw is_bytes (bytes_narrow m t.n xs);
      fwd_long = o.lent.fwd;
      bwd_long = o.lent.bwd;
      pins_long = o.lent.pins;
      labels_long = long;
    }

    module _
        {news labels : List ℕ} (packed' : Columns t.n m (pattern_of t.n (own_group m) ys) news) (tables : Kept (table_rules c))
        (w : Labelled c (rows_of m olds) labels)
      where
        numbered : Labels (graph c) (holds c xs) labels w.found
        numbered = rw rows_are at w.numbered

        paired : Paired c xs ys olds news
        paired = record {
          perm = o.perm;
          before = spins_before;
          after = spins_after;
          olds_are = packed;
          news_are = packed';
          reference = tables.1.1.0;
        }

        pub panel : Panel m olds news labels pins rows
        panel = record {
          members = record { low = o.ranged.size_low; high = few };
          sites = rw packed.long o.ranged.lattice.n_high;
          news_long = packed'.long ∙ sym packed.long;
          labels_long = numbered.long ∙ sym packed.long;
          pins_long = o.lent.pins ∙ sym packed.long;
          rows_long = rw packed.long o.lent.rows_long;
          below = below;
        }
          where
            below : (i : ℕ) → i < length olds → get_or labels i 0 < length olds
            below i h = rw packed.long (label_lt (graph c) (holds c xs) labels numbered i (rw packed.long at h))

        module _ {gauge r : ℕ} {rows' : List ℕ} (is : gauge ≡ gauge_byte c olds) (told : Explains m gauge olds news labels pins rows r rows') where
          e : Explains m (gauge_byte c olds) olds news labels pins rows r rows'
          e = subst (λ (x : ℕ). Explains m x olds news labels pins rows r rows') is told

          -- a number that no site has is no fault
          empty_fair : (s : ℕ) → w.found ≤ s → Fair c xs ys labels s
          empty_fair s h = record {
            acting = λ a. absurd (omega (arith, numbered.below a.site a.below, a.label, h));
            idle = λ i hi q. absurd (omega (arith, numbered.below i hi, q, h));
            held = λ _ i hi q. absurd (omega (arith, numbered.below i hi, q, h));
          }

          pub denies : r < t.n → Denies c xs ys rows r rows'
          denies h = record {
            valid = all_kept o tables;
            labels = labels;
            found = w.found;
            numbered = numbered;
            component = component (dec_lt r w.found);
            fault = fault;
            first = λ s l. fitted_fair paired labels numbered.long s (e.fitted s l);
            kept = e.kept (rw packed.long h);
          }
            where
              fault : Fair c xs ys labels r → ⊥
              fault f = e.none (rw packed.long h) (fair_fitted paired labels numbered.long r f)

              component : Dec (r < w.found) → r < w.found
              component (yes l) = l
              component (no l) = absurd (fault (empty_fair r (omega arith)))

          pub accepts : t.n ≤ r → Accepts c xs ys rows rows'
          accepts h =
              let all : r ≡ length olds = omega (arith, h, e.most, packed.long) in
              record {
                valid = all_kept o tables;
                labels = labels;
                found = w.found;
                numbered = numbered;
                fair = λ s l. fitted_fair paired labels numbered.long s (e.fitted s (omega (arith, l, h, found_le numbered)));
                long = e.long;
                written = λ s l. least_row paired labels numbered.long s rows' (e.least all s (rw packed.long l));
              }
