-- A group's rows and totals in its members' order, and a panel that they are put back into.
use Rattle.std.specs.Prelude.{ℕ, ◌*◌, ◌≤◌, ◌<◌, ◌≡◌, ◌⊎◌, List, length, get_or, ℤ, pos}
use Rattle.std.proofs.Common.{sym, ◌∙◌, inl, inr, ext_get_or}
use Rattle.lemmas.specs.Cells.{tabulate, tabulate_at, length_tabulate}
use Rattle.lemmas.specs.Places.{Placed, place}
use Rattle.paper.specs.Panel.Input.{Call, pattern, spin, size, system}
use Rattle.paper.specs.Answer.Totals.{total}
use Rattle.laws.specs.Unique.{Outside, OthersOf}
use Rattle.laws.specs.Local.{Agree}
use Rattle.packing.specs.Gathered.{group_rows, length_group, group_at, own_of}
use Rattle.packing.proofs.Laws.{rows_ext, own_pattern}

-- the group's totals in its members' order
unfoldable pub group_totals : Call → List ℤ → List ℤ
group_totals c ts = tabulate (size c) (λ k. total ts (system c k))

pub length_totals : (c : Call) (ts : List ℤ) → length (group_totals c ts) ≡ size c
unfolding group_totals
length_totals c ts = length_tabulate (size c) _

pub total_at : (c : Call) (ts : List ℤ) (k : ℕ) → k < size c → total (group_totals c ts) k ≡ total ts (system c k)
unfolding group_totals
total_at c ts k h = tabulate_at (size c) (λ k. total ts (system c k)) k h

-- ys has the rows in the group's place and the other systems' rows of xs
pub record PutBack (c : Call) (xs rows ys : List ℤ) : Type 0 where
  pub long : length ys ≡ length xs
  pub group : (i k : ℕ) → i < c.lattice.n → k < size c → pattern c ys i k ≡ spin c.lattice.n rows k i
  pub others : OthersOf c xs ys

-- us has the totals us' in the group's place and the other systems' of ts
pub record PutTotals (c : Call) (ts us' us : List ℤ) : Type 0 where
  pub long : length us ≡ length ts
  pub group : (k : ℕ) → k < size c → total us (system c k) ≡ total us' k
  pub others : (t : ℕ) → Outside c t → total us t ≡ total ts t

-- ---- what the call on them sees

pub own_sees : (c : Call) → size c ≤ 8 → (xs : List ℤ) (i : ℕ) → i < c.lattice.n → Agree (size c) (pattern c xs i) (pattern (own_of c) (group_rows c xs) i)
own_sees c few xs i hi k hk = sym (own_pattern (size c) few c.lattice.n (group_rows c xs) i k hk ∙ group_at c xs i k hi hk)

pub back_sees :
    (c : Call) → size c ≤ 8 → {xs rows ys : List ℤ} → PutBack c xs rows ys
    → (i : ℕ) → i < c.lattice.n → Agree (size c) (pattern c ys i) (pattern (own_of c) rows i)
back_sees c few {xs} {rows} r i hi k hk = r.group i k hi hk ∙ sym (own_pattern (size c) few c.lattice.n rows i k hk)

-- ---- lists that agree on the group

-- have the same rows
pub own_rows_kept :
    (c : Call) (xs ys : List ℤ) → ((i : ℕ) → i < c.lattice.n → Agree (size c) (pattern c xs i) (pattern c ys i)) → group_rows c xs ≡ group_rows c ys
own_rows_kept c xs ys same =
    rows_ext (size c) c.lattice.n (group_rows c xs) (group_rows c ys) (length_group c xs) (length_group c ys)
    (λ k i hk hi. group_at c xs i k hi hk ∙ (same i hi k hk ∙ sym (group_at c ys i k hi hk)))

pub own_totals_kept :
    (c : Call) (ts us : List ℤ) → ((k : ℕ) → k < size c → total ts (system c k) ≡ total us (system c k)) → group_totals c ts ≡ group_totals c us
own_totals_kept c ts us same =
    ext_get_or (pos 0) (group_totals c ts) (group_totals c us) (length_totals c ts ∙ sym (length_totals c us)) (λ k h. at k (rw (length_totals c ts) at h))
  where
    at : (k : ℕ) → k < size c → get_or (group_totals c ts) k (pos 0) ≡ get_or (group_totals c us) k (pos 0)
    at k h = total_at c ts k h ∙ (same k h ∙ sym (total_at c us k h))

-- and rows that are taken out of what they were put into are these
pub back_rows : (c : Call) {xs rows ys : List ℤ} → length rows ≡ size c * c.lattice.n → PutBack c xs rows ys → group_rows c ys ≡ rows
back_rows c {xs} {rows} {ys} long r =
    rows_ext (size c) c.lattice.n (group_rows c ys) rows (length_group c ys) long (λ k i hk hi. group_at c ys i k hi hk ∙ r.group i k hi hk)

pub back_totals : (c : Call) {ts us' us : List ℤ} → length us' ≡ size c → PutTotals c ts us' us → group_totals c us ≡ us'
back_totals c {ts} {us'} {us} long r =
    ext_get_or (pos 0) (group_totals c us) us' (length_totals c us ∙ sym long) (λ k h. at k (rw (length_totals c us) at h))
  where
    at : (k : ℕ) → k < size c → get_or (group_totals c us) k (pos 0) ≡ get_or us' k (pos 0)
    at k h = total_at c us k h ∙ r.group k h

-- the totals that were taken out, put back, change nothing
pub totals_back : (c : Call) (ts us : List ℤ) → PutTotals c ts (group_totals c ts) us → us ≡ ts
totals_back c ts us r = ext_get_or (pos 0) us ts r.long (λ t h. at t (place (size c) (system c) t))
  where
    at : (t : ℕ) → Placed (size c) (system c) t ⊎ Outside c t → get_or us t (pos 0) ≡ get_or ts t (pos 0)
    at t (inl q) = rw q.2 (r.group q.0 q.1 ∙ total_at c ts q.0 q.1)
    at t (inr q) = r.others t q
