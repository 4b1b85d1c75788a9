-- Two lists of rules that ask the same in the same order have the same verdict.
use Rattle.std.specs.Prelude.{ℕ, ◌≡◌, ◌⊎◌, ◌↔◌, Bool, List, [], ◌∷◌, ◌++◌}
use Rattle.std.proofs.Common.{sym, ◌∙◌, subst, inl, inr}
use Rattle.paper.specs.Refusal.Rule.{Rule, rule, Kept, Broken}
use Rattle.paper.specs.Refusal.Rules.{When}
use Rattle.paper.specs.Refusal.Verdict.{kept_both, broken_first, broken_later}

abbrev pub Matched : List Rule → List Rule → Type 0
Matched [] [] = Unit {0}
Matched [] (q ∷ qs) = ⊥
Matched (r ∷ rs) [] = ⊥
Matched (r ∷ rs) (q ∷ qs) = (r.number ≡ q.number) × (r.claim ↔ q.claim) × Matched rs qs

pub matched_kept : (rs qs : List Rule) → Matched rs qs → Kept rs → Kept qs
matched_kept [] [] m k = tt
matched_kept [] (q ∷ qs) m k = absurd m
matched_kept (r ∷ rs) [] m k = absurd m
matched_kept (r ∷ rs) (q ∷ qs) m k = (m.1.0 k.0, matched_kept rs qs m.2 k.1)

pub matched_broken : (rs qs : List Rule) (c : ℕ) → Matched rs qs → Broken rs c → Broken qs c
matched_broken [] [] c m w = w
matched_broken [] (q ∷ qs) c m w = absurd m
matched_broken (r ∷ rs) [] c m w = absurd m
matched_broken (r ∷ rs) (q ∷ qs) c m (inl w) = inl ((λ k. w.0 (m.1.1 k)), sym m.0 ∙ w.1)
matched_broken (r ∷ rs) (q ∷ qs) c m (inr w) = inr (m.1.0 w.0, matched_broken rs qs c m.2 w.1)

pub matched_both : (rs qs rs' qs' : List Rule) → Matched rs qs → Matched rs' qs' → Matched (rs ++ rs') (qs ++ qs')
matched_both [] [] rs' qs' m k = k
matched_both [] (q ∷ qs) rs' qs' m k = absurd m
matched_both (r ∷ rs) [] rs' qs' m k = absurd m
matched_both (r ∷ rs) (q ∷ qs) rs' qs' m k = (m.0, m.1, matched_both rs qs rs' qs' m.2 k)

-- a claim about x, where it is taken, is the claim about y
pub taken_same : {A : Type 0} {x y : A} (t : Bool) (P : A → Type 0) → When t (y ≡ x) → When t (P x) ↔ When t (P y)
taken_same t P e = ((λ h q. subst P (sym (e q)) (h q)), (λ h q. subst P (e q) (h q)))

pub itself : {P : Type 0} → P ↔ P
itself = ((λ h. h), (λ h. h))

-- ---- rules more that are kept anyway change no verdict
pub record SameVerdict (qs rs : List Rule) : Type 0 where
  pub kept : Kept qs ↔ Kept rs
  pub broken : (r : ℕ) → Broken qs r ↔ Broken rs r

pub verdict_back : {qs rs : List Rule} → SameVerdict qs rs → SameVerdict rs qs
verdict_back s = record { kept = (s.kept.1, s.kept.0); broken = λ r. ((s.broken r).1, (s.broken r).0) }

pub unchanged : (rs : List Rule) → SameVerdict rs rs
unchanged rs = record { kept = ((λ k. k), (λ k. k)); broken = λ r. ((λ w. w), (λ w. w)) }

-- a rule that says the same in other words
pub reworded : (k : ℕ) {P Q : Type 0} (qs rs : List Rule) → P ↔ Q → SameVerdict qs rs → SameVerdict (rule k P ∷ qs) (rule k Q ∷ rs)
reworded k {P} {Q} qs rs e s = record {
  kept = ((λ h. (e.0 h.0, s.kept.0 h.1)), (λ h. (e.1 h.0, s.kept.1 h.1)));
  broken = λ r. (there r, back r);
}
  where
    there : (r : ℕ) → Broken (rule k P ∷ qs) r → Broken (rule k Q ∷ rs) r
    there r (inl w) = inl ((λ q. w.0 (e.1 q)), w.1)
    there r (inr w) = inr (e.0 w.0, (s.broken r).0 w.1)

    back : (r : ℕ) → Broken (rule k Q ∷ rs) r → Broken (rule k P ∷ qs) r
    back r (inl w) = inl ((λ q. w.0 (e.0 q)), w.1)
    back r (inr w) = inr (e.1 w.0, (s.broken r).1 w.1)

-- behind the same rule, which may be leant on
pub behind_if : (x : Rule) (qs rs : List Rule) → (x.claim → SameVerdict qs rs) → SameVerdict (x ∷ qs) (x ∷ rs)
behind_if x qs rs s = record {
  kept = ((λ k. (k.0, (s k.0).kept.0 k.1)), (λ k. (k.0, (s k.0).kept.1 k.1)));
  broken = λ r. (there r, back r);
}
  where
    there : (r : ℕ) → Broken (x ∷ qs) r → Broken (x ∷ rs) r
    there r (inl w) = inl w
    there r (inr w) = inr (w.0, ((s w.0).broken r).0 w.1)

    back : (r : ℕ) → Broken (x ∷ rs) r → Broken (x ∷ qs) r
    back r (inl w) = inl w
    back r (inr w) = inr (w.0, ((s w.0).broken r).1 w.1)

-- behind the same rule, whatever it says
pub behind : (x : Rule) (qs rs : List Rule) → SameVerdict qs rs → SameVerdict (x ∷ qs) (x ∷ rs)
behind x qs rs s = behind_if x qs rs (λ _. s)

-- behind the same rules
pub behind_all : (xs qs rs : List Rule) → SameVerdict qs rs → SameVerdict (xs ++ qs) (xs ++ rs)
behind_all [] qs rs s = s
behind_all (x ∷ xs) qs rs s = behind x (xs ++ qs) (xs ++ rs) (behind_all xs qs rs s)

-- with one rule more
pub past : (x : Rule) (qs rs : List Rule) → x.claim → SameVerdict qs rs → SameVerdict (x ∷ qs) rs
past x qs rs h s = record {
  kept = ((λ k. s.kept.0 k.1), (λ k. (h, s.kept.1 k)));
  broken = λ r. (there r, λ w. inr (h, (s.broken r).1 w));
}
  where
    there : (r : ℕ) → Broken (x ∷ qs) r → Broken rs r
    there r (inl w) = absurd (w.0 h)
    there r (inr w) = (s.broken r).0 w.1

-- with one rule more at the end
pub past_last : (x : Rule) (rs : List Rule) → x.claim → SameVerdict (rs ++ (x ∷ [])) rs
past_last x [] h = past x [] [] h (unchanged [])
past_last x (r ∷ rs) h = behind r (rs ++ (x ∷ [])) rs (past_last x rs h)

-- before the same rules
kept_split : (rs qs : List Rule) → Kept (rs ++ qs) → Kept rs × Kept qs
kept_split [] qs h = (tt, h)
kept_split (r ∷ rs) qs h = let k = kept_split rs qs h.1 in ((h.0, k.0), k.1)

broken_split : (rs qs : List Rule) (r : ℕ) → Broken (rs ++ qs) r → Broken rs r ⊎ (Kept rs × Broken qs r)
broken_split [] qs r w = inr (tt, w)
broken_split (x ∷ rs) qs r (inl w) = inl (inl w)
broken_split (x ∷ rs) qs r (inr w) = go (broken_split rs qs r w.1)
  where
    go : Broken rs r ⊎ (Kept rs × Broken qs r) → Broken (x ∷ rs) r ⊎ (Kept (x ∷ rs) × Broken qs r)
    go (inl h) = inl (inr (w.0, h))
    go (inr h) = inr ((w.0, h.0), h.1)

pub ahead_of : (qs rs xs : List Rule) → SameVerdict qs rs → SameVerdict (qs ++ xs) (rs ++ xs)
ahead_of qs rs xs s = record {
  kept = (
    (λ h. let k = kept_split qs xs h in kept_both rs xs (s.kept.0 k.0) k.1),
    (λ h. let k = kept_split rs xs h in kept_both qs xs (s.kept.1 k.0) k.1),
  );
  broken = λ r. ((λ w. there r (broken_split qs xs r w)), (λ w. back r (broken_split rs xs r w)));
}
  where
    there : (r : ℕ) → Broken qs r ⊎ (Kept qs × Broken xs r) → Broken (rs ++ xs) r
    there r (inl w) = broken_first rs xs r ((s.broken r).0 w)
    there r (inr w) = broken_later rs xs r (s.kept.0 w.0) w.1

    back : (r : ℕ) → Broken rs r ⊎ (Kept rs × Broken xs r) → Broken (qs ++ xs) r
    back r (inl w) = broken_first qs xs r ((s.broken r).1 w)
    back r (inr w) = broken_later qs xs r (s.kept.1 w.0) w.1

-- ---- one after another
pub verdict_then : {ps qs rs : List Rule} → SameVerdict ps qs → SameVerdict qs rs → SameVerdict ps rs
verdict_then s t = record {
  kept = ((λ k. t.kept.0 (s.kept.0 k)), (λ k. s.kept.1 (t.kept.1 k)));
  broken = λ r. ((λ w. (t.broken r).0 ((s.broken r).0 w)), (λ w. (s.broken r).1 ((t.broken r).1 w)));
}

pub joined_same : (qs rs xs ys : List Rule) → SameVerdict qs rs → SameVerdict xs ys → SameVerdict (qs ++ xs) (rs ++ ys)
joined_same qs rs xs ys s t = verdict_then (ahead_of qs rs xs s) (behind_all rs xs ys t)

-- a rule in other words, which may be leant on
pub reworded_if : (k : ℕ) {P Q : Type 0} (qs rs : List Rule) → P ↔ Q → (P → SameVerdict qs rs) → SameVerdict (rule k P ∷ qs) (rule k Q ∷ rs)
reworded_if k {P} {Q} qs rs e s = verdict_then (behind_if (rule k P) qs rs s) (reworded k rs rs e (unchanged rs))

-- rules that match one by one
matched_back : (rs qs : List Rule) → Matched rs qs → Matched qs rs
matched_back [] [] m = tt
matched_back [] (q ∷ qs) m = absurd m
matched_back (r ∷ rs) [] m = absurd m
matched_back (r ∷ rs) (q ∷ qs) m = (sym m.0, (m.1.1, m.1.0), matched_back rs qs m.2)

pub matched_same : (rs qs : List Rule) → Matched rs qs → SameVerdict rs qs
matched_same rs qs m = record {
  kept = (matched_kept rs qs m, matched_kept qs rs (matched_back rs qs m));
  broken = λ c. (matched_broken rs qs c m, matched_broken qs rs c (matched_back rs qs m));
}
