-- The owner bytes as the functions are handed them.
use Rattle.std.specs.Prelude.{ℕ, zero, suc, ◌≤◌, ◌<◌, ◌≡◌, refl, Bool, true, false, cond, ◌&&◌, List, [], ◌∷◌, map, eqb, ltb, leb, length, get_or, take}
use Rattle.std.proofs.Common.{sym, ◌∙◌, ap, arith, leb-true, ext_get_or, get_or-take, length-take-le}
use Rattle.std.proofs.lemmas.List.{length-map}
use Rattle.lemmas.specs.Stores.{Filled}
use Rattle.paper.specs.declared.Group.{Group}
use Rattle.paper.specs.Panel.Input.{member}
use Rattle.paper.specs.Answer.Team.{Team, own, read}

abbrev pub team_of : ℕ → List ℕ → Team
team_of team owners = record { owners = owners; team = team }

-- of a system that has an owner byte
byte_is : (xs : List ℕ) (t a b : ℕ) → t < length xs → get_or xs t a ≡ get_or xs t b
byte_is [] t a b l = absurd (omega arith)
byte_is (x ∷ xs) zero a b l = refl
byte_is (x ∷ xs) (suc t) a b l = byte_is xs t a b (omega arith)

pub own_there : (team : ℕ) (owners : List ℕ) (t : ℕ) → t < length owners → eqb (get_or owners t 0) team ≡ own (team_of team owners) t
own_there team owners t l = ap (λ (x : ℕ). eqb x team) (byte_is owners t 0 2 l)

-- one entry of a group as it is read
abbrev pub read_at : Team → ℕ → Group → ℕ → ℕ
read_at o s g k = cond (ltb k g.len) (read o s (member g k)) 0

-- how many entries of an order are read, on a panel of s systems
abbrev pub read_length : ℕ → ℕ → ℕ
read_length s len = cond (leb s 64 && leb len 64) len 0

pub length_most : (s len : ℕ) → read_length s len ≤ len
length_most s len = go (leb s 64 && leb len 64)
  where
    go : (b : Bool) → cond b len 0 ≤ len
    go true = omega arith
    go false = omega arith

-- one is, so the panel and the order are not too large
pub length_some : (s len : ℕ) → 0 < read_length s len → s ≤ 64
length_some s len = go (leb s 64) (leb-true s 64)
  where
    go : (b : Bool) → (b ≡ true → s ≤ 64) → 0 < cond (b && leb len 64) len 0 → s ≤ 64
    go true h l = h refl
    go false h l = absurd (omega (arith, l))

pub length_fits : (s len : ℕ) → read_length s len ≤ 64
length_fits s len = go (leb s 64) (leb len 64) (leb-true len 64)
  where
    go : (a b : Bool) → (b ≡ true → len ≤ 64) → cond (a && b) len 0 ≤ 64
    go true true h = h refl
    go true false h = omega arith
    go false b h = omega arith

-- the first r places of the buffer have what is read, and the others what they had
pub record OrderRead (o : Team) (s : ℕ) (order named : List ℕ) (r : ℕ) (named' : List ℕ) : Type 0 where
  pub count : r ≡ read_length s (length order)
  pub written : Filled 0 (λ j. read o s (get_or order j 0)) r named named'

-- as a list
pub order_entries :
    {o : Team} {s : ℕ} {order named : List ℕ} {r : ℕ} {named' : List ℕ} → length named ≡ 64 → OrderRead o s order named r named'
    → take r named' ≡ map (read o s) (take r order)
order_entries {o} {s} {order} {named} {r} {named'} room h = ext_get_or 0 (take r named') (map (read o s) (take r order)) lengths same
  where
    most : r ≤ length order
    most = rw h.count (length_most s (length order))

    fits : r ≤ length named'
    fits = rw (h.written.long, room, h.count) (length_fits s (length order))

    lengths : length (take r named') ≡ length (map (read o s) (take r order))
    lengths = length-take-le r named' fits ∙ sym (length-map (take r order) (read o s) ∙ length-take-le r order most)

    mapped : (f : ℕ → ℕ) (xs : List ℕ) (j : ℕ) → j < length xs → get_or (map f xs) j 0 ≡ f (get_or xs j 0)
    mapped f [] j l = absurd (omega arith)
    mapped f (x ∷ xs) zero l = refl
    mapped f (x ∷ xs) (suc j) l = mapped f xs j (omega arith)

    same : (j : ℕ) → j < length (take r named') → get_or (take r named') j 0 ≡ get_or (map (read o s) (take r order)) j 0
    same j l =
        let k : j < r = omega (arith, l, length-take-le r named' fits) in
        get_or-take r named' j 0 k
        ∙ (h.written.done j k
        ∙ sym (mapped (read o s) (take r order) j (omega (arith, k, length-take-le r order most)) ∙ ap (read o s) (get_or-take r order j 0 k)))
