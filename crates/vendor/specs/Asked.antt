-- The observation's answer, as a check needs it.
use Rattle.std.specs.Prelude.{ℕ, zero, suc, ◌+◌, ◌≤◌, ◌<◌, ◌≡◌, refl, true, false, List, [], length, get_or, ℤ}
use Rattle.std.proofs.Common.{sym, ◌∙◌, ap, inl, inr, arith}
use Rattle.lemmas.specs.Bools.{never, and_right}
use Rattle.paper.specs.declared.Mode.{Mode}
use Rattle.paper.specs.declared.Mode.TheVariants.{Houd, Pair, Perm, Gperm, Jorg, Cmr}
use Rattle.paper.specs.declared.Task.{Task}
use Rattle.paper.specs.Answer.Cases.{Answer, Answer.Refused, Answer.Idle, Answer.Held, Answer.Moved}
use Rattle.paper.specs.Panel.Input.{Call, Choices, Buffers}
use Rattle.paper.specs.Panel.Made.{choices_of}
use Rattle.paper.specs.Panel.Takes.{is_perm, is_gperm, is_houd, is_drawn}
use Rattle.paper.specs.Refusal.Rule.{Kept, Broken}
use Rattle.paper.specs.Refusal.Rules.{When, HoudOfTwo, Exact, Spins, Named, group_names, Chosen, Seeded, rules}
use Rattle.paper.specs.Answer.Number.{number}
use Rattle.paper.specs.Answer.Move.{Answers}
use Rattle.laws.specs.KeepsPlain.{keeps_none}
use Rattle.laws.specs.Observed.{observed_still}
use Rattle.packing.specs.Bytes.{rows_of, Narrow, own_group}
use Rattle.packing.proofs.Laws.{own_grouped, length_rows, rows_long, rows_spins, rows_injective}
use Rattle.packed.specs.Lengths.{cancel}
use Rattle.packed.specs.Packed.{lent_of, Bytes, PackedAnswers}
use Rattle.vendor.specs.Vendor.{asked_by}
use Rattle.vendor.specs.Observed.{Observable, table_rules, Observes}

-- the modes that permute draw no bonds
not_drawn : (m : Mode) → is_perm m ≡ true → is_drawn m ≡ false
not_drawn Houd e = never e
not_drawn Pair e = never e
not_drawn Perm e = refl
not_drawn Gperm e = refl
not_drawn Jorg e = never e
not_drawn Cmr e = never e

module _ (t : Task) (columns fwd bwd pins l counts sizes found : List ℕ) (w : Observable t columns fwd bwd pins l)
    (counts_long : length counts ≡ t.n + 1) (sizes_long : length sizes ≡ 4) (found_long : length found ≡ 1)
  where
    abbrev c : Call
    c = asked_by t fwd bwd pins

    abbrev m : ℕ
    m = t.group.len

    abbrev xs : List ℤ
    xs = rows_of m columns

    abbrev p : Choices
    p = choices_of [] []

    abbrev b : Buffers
    b = lent_of l [] counts sizes [] found [] xs

    few : m ≤ 8
    few = w.ranged.size_high

    undrawn : {P : Type 0} → is_drawn t.mode ≡ true → P
    undrawn e = never (sym (not_drawn t.mode w.perm) ∙ e)

    exact : Exact c p b
    exact = record {
      spins = rows_long m t.n columns w.long;
      fwd = w.fwd_long;
      bwd = w.bwd_long;
      pins = w.pins_long;
      couplings = λ e. undrawn e;
      cuts = λ e. undrawn e;
      choices = λ e. never e;
      greys = λ e. never e;
      labels = λ e. w.labels_long;
      grey_labels = λ e. never e;
      counts = λ e. counts_long;
      sizes = λ e. sizes_long;
      members = λ e. never e;
      found = λ e. found_long;
      grey_found = λ e. never e;
    }

    spins : Spins t.n (Named m (group_names (own_group m))) xs
    spins k i h hi = rows_spins m t.n columns w.long w.narrow k i h.inside hi

    chosen : When (is_gperm t.mode) (t.reference < t.n) → Chosen c p
    chosen r = record {
      perms = λ e. never e;
      not_identity_lem = λ e. never e;
      flips = λ e. never e;
      greys = λ e. never e;
      grey_some = λ e. never e;
      reference = r;
    }

    seeded : Seeded c xs
    seeded = record { below = λ e. never e; acting = λ e. never e }

    -- to observe houd's groups may be of any size
    houd : HoudOfTwo t.mode c.form m
    houd e = never (and_right (is_houd t.mode) false e)

    pub tables_kept : Kept (rules c p b) → Kept (table_rules c)
    tables_kept k = (k.1.1.1.1.0, (k.1.1.1.1.1.0, (k.1.1.1.1.1.1.1.1.1.1.0.reference, tt)))

    -- of its rules those that the tests before left open are the tables', the pins' and the reference's
    pub tables_broken : (r : ℕ) → Broken (rules c p b) r → Broken (table_rules c) r
    tables_broken r (inl w₁) = absurd (w₁.0 w.ranged)
    tables_broken r (inr (a, inl w₁)) = absurd (w₁.0 houd)
    tables_broken r (inr (a, inr (h, inl w₁))) = absurd (w₁.0 exact)
    tables_broken r (inr (a, inr (h, inr (e, inl w₁)))) = absurd (w₁.0 spins)
    tables_broken r (inr (a, inr (h, inr (e, inr (s, inl w₁))))) = inl w₁
    tables_broken r (inr (a, inr (h, inr (e, inr (s, inr (i, inl w₁)))))) = inr (i, inl w₁)
    tables_broken r (inr (a, inr (h, inr (e, inr (s, inr (i, inr (q, inl w₁))))))) = absurd (w₁.0 (own_grouped m few))
    tables_broken r (inr (a, inr (h, inr (e, inr (s, inr (i, inr (q, inr (g, inl w₁)))))))) = absurd (w₁.0 (λ d. undrawn d))
    tables_broken r (inr (a, inr (h, inr (e, inr (s, inr (i, inr (q, inr (g, inr (o, inl w₁))))))))) = absurd (w₁.0 (λ d. undrawn d))
    tables_broken r (inr (a, inr (h, inr (e, inr (s, inr (i, inr (q, inr (g, inr (o, inr (f, inl w₁)))))))))) = absurd (w₁.0 (λ d. undrawn d))
    tables_broken r (inr (a, inr (h, inr (e, inr (s, inr (i, inr (q, inr (g, inr (o, inr (f, inr (k, inl w₁))))))))))) =
        inr (i, inr (q, inl ((λ x. w₁.0 (chosen x)), w₁.1)))
    tables_broken r (inr (a, inr (h, inr (e, inr (s, inr (i, inr (q, inr (g, inr (o, inr (f, inr (k, inr (x, inl w₁)))))))))))) = absurd (w₁.0 seeded)
    tables_broken r (inr (a, inr (h, inr (e, inr (s, inr (i, inr (q, inr (g, inr (o, inr (f, inr (k, inr (x, inr w₁)))))))))))) = absurd w₁.1

    -- no rule has the number 0
    numbered : Broken (table_rules c) 0 → ⊥
    numbered (inl x) = omega (arith, x.1)
    numbered (inr (a, inl x)) = omega (arith, x.1)
    numbered (inr (a, inr (q, inl x))) = omega (arith, x.1)
    numbered (inr (a, inr (q, inr x))) = x.1

    module _ (ts ts' : List ℤ) (columns' l' g' counts' sizes' members' found' gf' : List ℕ) where
      abbrev b' : Buffers
      b' = lent_of l' g' counts' sizes' members' found' gf' (rows_of m columns')

      abbrev Packed : Answer → Type 0
      Packed a = PackedAnswers false c p columns (lent_of l [] counts sizes [] found []) ts a columns' (lent_of l' g' counts' sizes' members' found' gf') ts'

      same_rows : (a : Answer) → Answers c p b a b' → Narrow m columns' → columns' ≡ columns
      same_rows a v low =
          let same : rows_of m columns' ≡ rows_of m columns = observed_still c p refl b b' a v in
          rows_injective m columns' columns low w.narrow
          (cancel m (length columns') (length columns) (omega (arith, w.ranged.size_low))
          (sym (length_rows m columns') ∙ (ap length same ∙ length_rows m columns)))
          same

      pub observes : (a : Answer) → Packed a → Observes t columns fwd bwd pins (number a) columns' l'
      observes a v = go a (keeps_none c p b ts a b' ts' v.rows).answers v.bytes
        where
          go : (a : Answer) → Answers c p b a b' → Bytes a m columns columns' → Observes t columns fwd bwd pins (number a) columns' l'
          go (Refused zero) v q = absurd (numbered (tables_broken 0 v.why))
          go (Refused (suc r)) v q = record { verdict = tables_broken (suc r) v.why; still = q; labelled = λ e. absurd (omega arith) }
          go Idle v q = record {
            verdict = tables_kept v.valid;
            still = same_rows Idle v q;
            labelled = λ _. record { found = get_or found' 0 0; numbered = (v.seen.all refl).labels.labels };
          }
          go Held v q = never v.one
          go Moved v q = record {
            verdict = tables_kept v.valid;
            still = same_rows Moved v q;
            labelled = λ _. record { found = get_or found' 0 0; numbered = (v.seen.all refl).labels.labels };
          }
