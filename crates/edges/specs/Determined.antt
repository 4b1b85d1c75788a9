-- What each function's promise allows for one input is one answer and one content of every lent buffer.
use Rattle.std.specs.Prelude.{ℕ, zero, suc, ◌*◌, ◌≡◌, refl, List, [], ◌∷◌, ◌++◌, length, get_or, Result, ℤ}
use Rattle.std.proofs.Common.{sym, ◌∙◌, ap, arith}
use Rattle.paper.specs.declared.Refusal.{Refusal}
use Rattle.paper.specs.Refusal.Numbers.{verdict_of, verdict_of_injective}
use Rattle.paper.specs.Refusal.Rule.{broken_unique, broken_not_kept}
use Rattle.edge_text.specs.declared.Edge.{Edge}
use Rattle.edge_text.specs.Form.{text_of, lines_of, line_of}
use Rattle.edge_text.specs.Numbers.{same_line, same_number, begins, head_split}
use Rattle.edges.specs.Cases.{listing_of, listing_of_injective, Listing, Listing.Unlisted, Listing.Wrote}
use Rattle.edges.specs.Bonds.{free, table_of}
use Rattle.edges.specs.Fills.{fills_unique}
use Rattle.edges.specs.Answer.{net_of, IsList, read_rules, ReadAnswers, write_rules, WriteAnswers}

pub record Same {A B : Type 0} (a a' : A) (y z : B) : Type 0 where
  pub answer : a ≡ a'
  pub buffers : y ≡ z

-- a text is one list
pub lines_unique : (xs ys : List Edge) → lines_of xs ≡ lines_of ys → length xs ≡ length ys → xs ≡ ys
unfolding lines_of
lines_unique [] [] e l = refl
lines_unique [] (b ∷ ys) e l = absurd (omega arith)
lines_unique (a ∷ xs) [] e l = absurd (omega arith)
lines_unique (a ∷ xs) (b ∷ ys) e l =
    let s = same_line a b (line_of a ++ lines_of xs) (lines_of xs) (lines_of ys) refl e in
    let r = lines_unique xs ys s.behind (omega arith) in
    λ i. s.edge i ∷ r i

pub text_unique : (n : ℕ) (xs ys : List Edge) → text_of n xs ≡ text_of n ys → xs ≡ ys
text_unique n xs ys e =
    let h = same_number refl (begins n 32 _ (head_split n (length xs) (lines_of xs))) (begins n 32 _ (e ∙ head_split n (length ys) (lines_of ys))) in
    let k = same_number refl (begins (length xs) 10 (lines_of xs) refl) (begins (length ys) 10 (lines_of ys) h.behind) in
    lines_unique xs ys k.behind k.number

pub cells_unique : (n d : ℕ) (fwd text : List ℕ) (u v : IsList n d fwd text) → u.cells ≡ v.cells
cells_unique n d fwd text u v =
    fills_unique n d fwd u.list (λ b. free) u.cells v.cells u.made.fills (rw (← same) at v.made.fills)
  where
    same : u.list ≡ v.list
    same = text_unique n u.list v.list (sym u.made.is ∙ v.made.is)

module _ (n d : ℕ) (fwd bwd text : List ℕ) (js y z : List ℤ) where
  pub read_edges_determined : (r r' : ℕ) → ReadAnswers (net_of n d fwd bwd) text js r y → ReadAnswers (net_of n d fwd bwd) text js r' z → Same r r' y z
  read_edges_determined zero zero p q = record {
    answer = refl;
    buffers = p.table ∙ (ap (table_of (n * d)) (cells_unique n d fwd text p.read q.read) ∙ sym q.table);
  }
  read_edges_determined zero (suc c) p q = absurd (broken_not_kept (read_rules (net_of n d fwd bwd) text js) (suc c) q.why p.valid)
  read_edges_determined (suc c) zero p q = absurd (broken_not_kept (read_rules (net_of n d fwd bwd) text js) (suc c) p.why q.valid)
  read_edges_determined (suc b) (suc c) p q = record {
    answer = broken_unique (read_rules (net_of n d fwd bwd) text js) (suc b) (suc c) p.why q.why;
    buffers = p.kept ∙ sym q.kept;
  }

module _ (n d : ℕ) (fwd bwd : List ℕ) (js : List ℤ) (text y z : List ℕ) where
  pub write_edges_determined : (r r' : Listing) → WriteAnswers (net_of n d fwd bwd) js text r y → WriteAnswers (net_of n d fwd bwd) js text r' z → Same r r' y z
  write_edges_determined (Wrote m) (Wrote k) p q = record {
    answer = ap (λ (vs : List ℕ). Wrote (get_or vs 0 0)) (p.told ∙ sym q.told);
    buffers = p.is ∙ sym q.is;
  }
  write_edges_determined (Wrote m) (Unlisted c) p q = absurd (broken_not_kept (write_rules (net_of n d fwd bwd) js text) c q.why p.valid)
  write_edges_determined (Unlisted c) (Wrote m) p q = absurd (broken_not_kept (write_rules (net_of n d fwd bwd) js text) c p.why q.valid)
  write_edges_determined (Unlisted b) (Unlisted c) p q = record {
    answer = ap Unlisted (broken_unique (write_rules (net_of n d fwd bwd) js text) b c p.why q.why);
    buffers = p.kept ∙ sym q.kept;
  }

-- and one result of each function
pub read_edges_result_determined : (n d : ℕ) (fwd bwd text : List ℕ) (js y z : List ℤ) (a a' : Result (Unit {0}) Refusal)
    → ReadAnswers (net_of n d fwd bwd) text js (verdict_of a) y → ReadAnswers (net_of n d fwd bwd) text js (verdict_of a') z → a ≡ a'
read_edges_result_determined n d fwd bwd text js y z a a' p q =
    verdict_of_injective a a' (read_edges_determined n d fwd bwd text js y z (verdict_of a) (verdict_of a') p q).answer

pub write_edges_result_determined : (n d : ℕ) (fwd bwd : List ℕ) (js : List ℤ) (text y z : List ℕ) (a a' : Result ℕ Refusal)
    → WriteAnswers (net_of n d fwd bwd) js text (listing_of a) y → WriteAnswers (net_of n d fwd bwd) js text (listing_of a') z → a ≡ a'
write_edges_result_determined n d fwd bwd js text y z a a' p q =
    listing_of_injective a a' (write_edges_determined n d fwd bwd js text y z (listing_of a) (listing_of a') p q).answer
