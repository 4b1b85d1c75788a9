-- What writing leaves in the lent buffer, and how long what is written is.
use Rattle.std.specs.Prelude.{ℕ, suc, ◌+◌, ◌≤◌, ◌<◌, ◌≡◌, refl, List, [], ◌∷◌, ◌++◌, length, set, ℤ, nat_abs}
use Rattle.std.proofs.Common.{sym, ◌∙◌, ap, arith, length-append}
use Rattle.std.proofs.lemmas.List.Edits.{sets}
use Rattle.std.proofs.Math.Seq.{length-sets}
use Rattle.edge_text.specs.declared.Edge.{Edge}
use Rattle.edge_text.specs.Decimal.{decimal}
use Rattle.edge_text.specs.Form.{signed, line_of, head_of}

-- a number and then one character; a coupling and a line feed
abbrev pub then : ℕ → ℕ → List ℕ
then v c = decimal v ++ (c ∷ [])

abbrev pub signed_end : ℤ → List ℕ
signed_end z = signed z ++ (10 ∷ [])

-- vs is written from the place a on, and r is the place behind it
pub record Put (vs before : List ℕ) (a r : ℕ) (after : List ℕ) : Type 0 where
  pub next : r ≡ a + length vs
  pub is : after ≡ sets before a vs

-- vs has r bytes, which are at most m
pub record Long (vs : List ℕ) (m r : ℕ) : Type 0 where
  pub bytes : r ≡ length vs
  pub few : r ≤ m

-- ---- what is asked: room, and numbers that are small enough for a list
pub record Room (vs : List ℕ) (a n : ℕ) : Type 0 where
  pub fits : a + length vs ≤ n

pub record SignedRoom (z : ℤ) (a n : ℕ) : Type 0 where
  pub small : nat_abs z ≤ 1000000
  pub fits : a + length (signed_end z) ≤ n

pub record SmallEdge (e : Edge) : Type 0 where
  pub from_low : e.from < 4096
  pub to_low : e.to < 4096
  pub coupling_low : nat_abs e.coupling ≤ 1000000

pub record EdgeRoom (e : Edge) (a n : ℕ) : Type 0 where
  pub small : SmallEdge e
  pub fits : a + length (line_of e) ≤ n

pub record SmallHead (n m : ℕ) : Type 0 where
  pub n_low : n ≤ 4096
  pub m_low : m ≤ 16384

pub record HeadRoom (n m long : ℕ) : Type 0 where
  pub fits : length (head_of n m) ≤ long

-- ---- laws: one run of stores behind another
sets_append : (vs ws before : List ℕ) (a : ℕ) → sets before a (vs ++ ws) ≡ sets (sets before a vs) (a + length vs) ws
sets_append [] ws before a = let z : a + 0 ≡ a = omega arith in ap (λ (k : ℕ). sets before k ws) (sym z)
sets_append (v ∷ vs) ws before a =
    let z : suc a + length vs ≡ a + suc (length vs) = omega arith in
    sets_append vs ws (set before a v) (suc a) ∙ ap (λ (k : ℕ). sets (sets (set before a v) (suc a) vs) k ws) z

pub put_both : {vs ws b0 b1 b2 : List ℕ} {a r q : ℕ} → Put vs b0 a r b1 → Put ws b1 r q b2 → Put (vs ++ ws) b0 a q b2
put_both {vs} {ws} {b0} {b1} {b2} {a} {r} {q} x y = record {
  next = rw (y.next, x.next, length-append vs ws) (omega arith);
  is = rw (y.is, x.is, x.next) (sym (sets_append vs ws b0 a));
}

pub put_one : (before : List ℕ) (a x : ℕ) → Put (x ∷ []) before a (a + 1) (set before a x)
put_one before a x = record { next = refl; is = refl }

pub put_none : (before : List ℕ) (a : ℕ) → Put [] before a a before
put_none before a = record { next = omega arith; is = refl }

pub put_long : {vs before after : List ℕ} {a r : ℕ} → Put vs before a r after → length after ≡ length before
put_long {vs} {before} {after} {a} p = ap length p.is ∙ length-sets before a vs
